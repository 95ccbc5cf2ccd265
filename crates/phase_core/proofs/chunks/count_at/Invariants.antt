-- The count is that of the chunks so far.
use Rattle.std.proofs.Common.{◌≡◌, ◌≤◌, take}
use Rattle.phase_model.specs.Shelves.{lens_of}
use Rattle.phase_core.specs.View.{shelf_of}
use Rattle.phase_core.proofs.chunks.count_at.Given as goal

abbrev pub invariant-loop-chunk : goal.invariant-loop-chunk
invariant-loop-chunk l = record {
  counted : l.count ≡ lens_of (shelf_of (take l.chunk-index l.chunks)) l.cursor;
  small : l.count ≤ l.chunk-index;
}
