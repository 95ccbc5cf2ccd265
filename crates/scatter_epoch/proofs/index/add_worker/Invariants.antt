use Rattle.std.proofs.Common.{◌≡◌, ℕ, ◌<◌, ◌++◌, length, take}
use Rattle.chunk_file.specs.Places.{places_of}
use Rattle.scatter_epoch.specs.Joining.{places_at, HasNoLong}
use Rattle.scatter_epoch.proofs.index.add_worker.Given as goal

abbrev pub invariant-loop-place : goal.invariant-loop-place
invariant-loop-place l = record {
  long : length l.updates ≡ 512;
  few : HasNoLong l.initial.updates → HasNoLong l.updates;
  places : (engine partition : ℕ) → engine < 8 → partition < 64 → places_of l.updates engine partition ≡ places_of l.initial.updates engine partition ++ places_at l.worker engine partition (take l.place-index l.places);
}
