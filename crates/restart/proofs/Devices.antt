-- Several devices, one after another.
use Rattle.std.proofs.Common.{◌≡◌, ℕ, ◌<◌, List, Vec, length, get_or, set, sym, subst, arith}
use Rattle.std.specs.Global.{Global}
use Rattle.std.specs.Vec.{with_items}
use Rattle.std.proofs.lemmas.List.{get_or-set_same}
use Rattle.ports.specs.Disk.{DiskState}
use Rattle.ports.specs.Devices.{OneRose, OneRowRose}
use Rattle.graph_model.proofs.OneByOne.{DoneBelow, next_is}
use Rattle.list_moves.proofs.Moving.{given_back}

-- What holds of the entries of a Vec that were lent as a slice.
pub holds_given_back : {X Z : Type 0} (P : List X → List X → Type 0) (row : Vec X Z) (lent items : List X) → lent ≡ row.items → length items ≡ length lent → P lent items → P row.items (with_items row items).items
holds_given_back P row lent items is same holds =
    subst (P row.items) (sym (given_back row lent items is same)) (subst (λ xs. P xs items) is holds)

-- the cause of a fault, in the row whose turn it is
pub row_rose_here : {X : Type 0} (state : X → DiskState) (R : Vec X Global → Vec X Global → Type 0) (Q : ℕ → Vec X Global → Vec X Global → Type 0) (w : ℕ) (olds mids : List (Vec X Global)) (mid new : Vec X Global) → w < length mids
    → DoneBelow R Q w olds mids → OneRose state (get_or mids w mid).items new.items → OneRowRose state olds (set mids w new)
row_rose_here {X} state R Q w olds mids mid new within below rose = (
  w,
  omega (arith, within, below.many),
  λ row.
      subst (λ (x : Vec X Global). OneRose state (get_or olds w row).items x.items) (sym (get_or-set_same mids w new row within))
      (subst (λ (x : Vec X Global). OneRose state x.items new.items) (next_is R Q w olds mids mid new within below row) rose),
)
