-- Looks at a partition's cursors.
use Rattle.std.specs.Prelude.{◌≡◌, ℕ, ◌*◌, ◌≤◌, List, length, sum}
use Rattle.chunk_object.specs.History.{most_chunks}
use Rattle.chunk_object.specs.Duty.{looks_from}
use Rattle.chunk_cursor.specs.declared.view.View.{View}
use Rattle.chunk_cursor.specs.View.{with_calls, MayAdmit}

-- the seat has looked once at each of so many engines, in order, and found this sum; it may be admitted as before
pub record HasLooked (partition engines : ℕ) (old new : View) (left : ℕ) : Type 0 where
  pub looks : List ℕ
  pub each : length looks ≡ engines
  pub calls : new ≡ with_calls old (looks_from partition 0 looks)
  pub total : left ≡ sum looks
  pub most : left ≤ engines * most_chunks
  pub may : MayAdmit new partition
