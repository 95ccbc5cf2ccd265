-- The update chunks of the workers.
use Rattle.std.specs.Prelude.{ℕ, ◌+◌, List, [], ◌∷◌, ◌++◌}
use Rattle.graph_model.specs.declared.job.Job.{Job}
use Rattle.graph_model.specs.declared.value.Update.{Update}
use Rattle.graph_model.specs.Partitions.{partition_of}
use Rattle.graph_model.specs.Jobs.{parts_of}
use Rattle.chunk_model.specs.Chunks.{Chunk, chunks}
use Rattle.seeded_place.specs.Placing.{update_stream, placed}
use Rattle.phase_model.specs.Shelves.{Shelf}

-- the partition of an update is that of its destination
abbrev pub update_home : Job → Update → ℕ
update_home job update = partition_of job.vertices (parts_of job) update.dst

-- the chunks that a worker's buffers make of its updates, in order of making
abbrev pub update_chunks : Job → List Update → List (Chunk Update)
update_chunks job = chunks job.chunk (update_home job) (parts_of job)

-- each with its engine
abbrev pub update_shelf : Job → (epoch worker : ℕ) → List Update → Shelf Update
update_shelf job epoch worker updates = placed job.seed (update_stream epoch worker) job.engines (update_chunks job updates)

-- those of the workers from this one on, worker by worker, where each has these updates
abbrev pub all_updates : Job → (epoch worker : ℕ) → List (List Update) → Shelf Update
all_updates job epoch worker [] = []
all_updates job epoch worker (updates ∷ others) = update_shelf job epoch worker updates ++ all_updates job epoch (worker + 1) others
