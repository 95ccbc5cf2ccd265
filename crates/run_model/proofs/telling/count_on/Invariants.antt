use Rattle.std.proofs.Common.{◌≡◌, ◌*◌, ◌≤◌, length}
use Rattle.std.specs.List.{sum_by, range_with_len}
use Rattle.chunk_object.specs.History.{most_chunks}
use Rattle.chunk_file.specs.Places.{places_of}
use Rattle.run_model.proofs.telling.count_on.Given as goal

abbrev pub invariant-loop-partition : goal.invariant-loop-partition
invariant-loop-partition l = record {
  so_far : l.count ≡ sum_by (λ p. length (places_of l.index l.engine p)) (range_with_len 0 l.partition);
  few : l.count ≤ most_chunks * l.partition;
}
