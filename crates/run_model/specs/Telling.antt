-- How the finish of a job is told, and what its report counts.
use Rattle.std.specs.Prelude.{◌≡◌, ℕ, ◌<◌, List, length, map, sum_by, Some, slice_get}
use Rattle.std.specs.List.{range_with_len}
use Rattle.graph_model.specs.declared.edge.Edge.{Edge}
use Rattle.graph_model.specs.declared.job.Job.{Job}
use Rattle.chunk_file.specs.declared.index.Place.{Place}
use Rattle.chunk_file.specs.Places.{places_of}
use Rattle.store_model.specs.Graphs.{edge_chunks, chunks_on}
use Rattle.round_loop.specs.declared.run.Done.{Done}
use Rattle.round_loop.specs.declared.fault.RoundFault.TheVariants as fault
use Rattle.job_run.specs.declared.finish.Finish.{Finish}
use Rattle.job_run.specs.declared.finish.Finish.TheVariants as finish
use Rattle.endings.specs.declared.ending.Report.{Report}
use Rattle.endings.specs.declared.ending.Ending.{Ending}
use Rattle.endings.specs.declared.ending.Ending.TheVariants.{Answered, DiskFault, RoundLimit, Memory, WriteFault, Damaged}

-- how many places an index has of an engine, over all partitions that it has lists for
unfoldable pub count_on : List (List Place) → (engine : ℕ) → ℕ
count_on index engine = sum_by (λ partition. length (places_of index engine partition)) (range_with_len 0 64)

-- the same for each engine that it has lists for
unfoldable pub counts_of : List (List Place) → List ℕ
counts_of index = map (count_on index) (range_with_len 0 8)

abbrev pub report_of : Job → List (List Place) → Done → Report
report_of job index done = record {
  rounds = done.round;
  engines = job.engines;
  chunks = counts_of index;
  claims = done.claims;
  admitted = done.admitted;
}

abbrev pub ending_of : Job → List (List Place) → Finish → Ending
ending_of job index (finish.Answered done) = Answered (report_of job index done)
ending_of job index (finish.NotWritten done) = WriteFault
ending_of job index (finish.NotRead done) = DiskFault
ending_of job index (finish.Stopped fault.RoundLimit) = RoundLimit job.limit
ending_of job index (finish.Stopped fault.DiskFault) = DiskFault
ending_of job index (finish.Stopped (fault.Damaged part engine place)) = Damaged part engine place
ending_of job index (finish.Stopped fault.Memory) = Memory

-- **The report counts the edge chunks of the job's engines**, each engine's own
pub record CountsChunks (job : Job) (edges : List Edge) (report : Report) : Type 0 where
  pub engines : report.engines ≡ job.engines
  pub chunks : (e : ℕ) → e < job.engines → slice_get report.chunks e ≡ Some (length (chunks_on job e (edge_chunks job edges)))
