use Rattle.std.proofs.Common.{◌≡◌, ℕ, ◌<◌, length, take, map}
use Rattle.chunk_file.specs.Places.{places_of}
use Rattle.phase_model.specs.declared.placed.Placed.{Placed}
use Rattle.std.specs.Prelude.{Vec}
use Rattle.std.specs.Global.{Global}
use Rattle.scatter_epoch.specs.Joining.{all_places, HasNoLong}
use Rattle.scatter_epoch.proofs.index.index_places.Given as goal

abbrev pub invariant-loop-worker : goal.invariant-loop-worker
invariant-loop-worker l = record {
  long : length l.updates ≡ 512;
  few : HasNoLong l.updates;
  places : (engine partition : ℕ) → engine < 8 → partition < 64 → places_of l.updates engine partition ≡ all_places 0 engine partition (map (λ (own : Vec Placed Global). own.items) (take l.worker l.places.items));
}
