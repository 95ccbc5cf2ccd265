-- What an index says of the chunks that a phase is served.
use Rattle.std.specs.Prelude.{◌≡◌, ℕ, ◌≤◌, ◌<◌, Some, List, length, slice_index_or}
use Rattle.graph_model.specs.Jobs.{IsWellFormedJob}
use Rattle.ports.specs.Disk.{DiskState}
use Rattle.partitioner.specs.Splits.{IsSplit, IsSplitOf}
use Rattle.chunk_object.specs.Epochs.{cursor_of}
use Rattle.chunk_object.specs.History.{most_chunks}
use Rattle.chunk_model.specs.Layout.{Layout}
use Rattle.chunk_file.specs.declared.index.Place.{Place}
use Rattle.chunk_file.specs.Places.{places_of, no_places}
use Rattle.chunk_file.specs.Chunks.{IsChunkIn}
use Rattle.store_reader.specs.declared.serving.Serving.{Serving}
use Rattle.store_reader.specs.Serving.{told_at, HasDevices, place_at}

-- with how many chunks the cursors are opened that have these places
abbrev pub lens_of : List (List Place) → ℕ → ℕ
lens_of index cursor = length (slice_index_or index cursor no_places)

-- The chunks are those of a job, in partitions of its split; they are few, and the shelf has their devices.
pub record IsServing {D M : Type 0} (serving : Serving D M) : Type 0 where
  pub job : IsWellFormedJob serving.job.now
  pub split : IsSplit serving.split.now
  pub of_job : IsSplitOf serving.job.now serving.split.now
  pub few : (cursor : ℕ) → lens_of serving.index.now cursor ≤ most_chunks
  pub devices : (engine partition : ℕ) → engine < serving.job.now.engines → partition < serving.split.now.parts → HasDevices serving.shelf engine (places_of serving.index.now engine partition)

module _ {D M : Type 0} (state : D → DiskState) where
  -- each chunk of the index stands on a device that tells its bytes, and has these records
  abbrev pub HasRecords : {X : Type 0} → Layout X → Serving D M → (ℕ → ℕ → List X) → Type 0
  HasRecords layout serving records =
      (engine partition t : ℕ) → engine < serving.job.now.engines → partition < serving.split.now.parts → t < length (places_of serving.index.now engine partition)
      → (bytes : List ℕ) × (told_at state serving.shelf engine (place_at serving.index.now engine partition t).lane ≡ Some bytes)
      × IsChunkIn layout serving.split.now serving.job.now.chunk partition (place_at serving.index.now engine partition t).at bytes (records (cursor_of engine partition) t)
