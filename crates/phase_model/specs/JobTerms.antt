-- What a job asks of its workers.
use Rattle.std.specs.Prelude.{◌+◌, ◌*◌}
use Rattle.graph_model.specs.declared.job.Job.{Job}
use Rattle.graph_model.specs.Partitions.{part_len}
use Rattle.graph_model.specs.Jobs.{parts_of}
use Rattle.chunk_object.specs.Epochs.{Terms}

-- A vertex counts for 16 bytes, and a record for 12, whatever their width on a device is
abbrev pub terms_of : Job → Terms
terms_of job = record {
  engines = job.engines;
  partitions = parts_of job;
  set_bytes = λ partition. 16 * part_len job.vertices (parts_of job) partition;
  chunk_bytes = 8 + 12 * job.chunk;
  alpha = job.alpha;
}
