-- So many of the cursor's chunks before the wanted one are still to come.
use Rattle.std.proofs.Common.{◌≡◌, ◌+◌, take}
use Rattle.phase_model.specs.Shelves.{lens_of}
use Rattle.phase_core.specs.View.{shelf_of}
use Rattle.phase_core.proofs.chunks.index_of.Given as goal

abbrev pub invariant-loop-index : goal.invariant-loop-index
invariant-loop-index l = l.left + lens_of (shelf_of (take l.index l.chunks)) l.cursor ≡ l.fn.number
