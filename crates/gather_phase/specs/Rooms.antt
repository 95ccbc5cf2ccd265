-- Rooms for the chunks of a job.
use Rattle.std.specs.Prelude.{◌≡◌, ◌+◌, ◌*◌, length}
use Rattle.graph_model.specs.declared.job.Job.{Job}
use Rattle.gather_phase.specs.declared.desk.GatherRoom.{GatherRoom}

pub record IsRoom (job : Job) (room : GatherRoom) : Type 0 where
  pub updates : length room.updates.items ≡ job.chunk
  pub edges : length room.edges.items ≡ job.chunk
  pub bytes : length room.bytes.items ≡ 8 + 16 * job.chunk
