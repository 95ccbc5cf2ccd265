-- What a worker needs at hand: its buffers, and the slots of the values devices.
use Rattle.std.specs.Prelude.{◌≡◌, ℕ, ◌+◌, ◌*◌, ◌<◌, max, Option, IfSome, length}
use Rattle.graph_model.specs.declared.job.Job.{Job}
use Rattle.graph_model.specs.Jobs.{span_of}
use Rattle.partitioner.specs.Splits.{IsSplitOf}
use Rattle.update_lanes.specs.Outgoing.{HasRoom}
use Rattle.scatter_phase.specs.declared.desk.ScatterRoom.{ScatterRoom}

-- a room for the chunks of a job, and for the values of any of its partitions
pub record IsRoom (job : Job) (room : ScatterRoom) : Type 0 where
  pub outgoing : HasRoom room.outgoing
  pub of_job : IsSplitOf job room.outgoing.split
  pub size : room.outgoing.size ≡ job.chunk
  pub edges : length room.edges.items ≡ job.chunk
  pub bytes : length room.bytes.items ≡ 8 + 16 * max job.chunk (span_of job)
  pub now : length room.now.items ≡ span_of job
  pub before : length room.before.items ≡ span_of job
  pub changed : length room.changed.items ≡ span_of job

-- slots that a values device has
pub record AreSlots (slot : ℕ) (before : Option ℕ) : Type 0 where
  pub first : slot < 2
  pub second : IfSome before (λ b. b < 2)
