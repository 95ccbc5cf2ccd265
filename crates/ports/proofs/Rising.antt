-- A count of faults that rose, seen from earlier and from later.
use Rattle.std.proofs.Common.{◌≡◌, ◌∙◌, ℕ, ◌<◌, ◌≤◌, List, length, get_or, set, Result, Ok, Err, OnErr, sym, subst, arith}
use Rattle.std.proofs.lemmas.List.{get_or-set_same, get_or_default}
use Rattle.std.proofs.Math.Seq.{map-set_same}
use Rattle.ports.specs.Faults.{Rose}
use Rattle.ports.specs.Devices.{OneCountRose, SameCounts}

-- The cause of a fault.
pub count_rose_before : (a b c : ℕ) → a ≤ b → Rose b c → Rose a c
count_rose_before a b c earlier rose = omega arith

pub count_rose_after : (a b c : ℕ) → Rose a b → b ≤ c → Rose a c
count_rose_after a b c rose later = omega arith

-- the same of one of several objects
abbrev NoneFalls : {X : Type 0} → (X → ℕ) → (xs ys : List X) → Type 0
NoneFalls {X} count xs ys = (k : ℕ) (x : X) → k < length xs → count (get_or xs k x) ≤ count (get_or ys k x)

pub one_rose_before : {X : Type 0} (count : X → ℕ) (olds mids news : List X) → length mids ≡ length olds → NoneFalls count olds mids → OneCountRose count mids news → OneCountRose count olds news
one_rose_before count olds mids news many earlier rose =
    let below : rose.0 < length olds = omega (arith, rose.1, many) in
    (rose.0, below, λ x. count_rose_before (count (get_or olds rose.0 x)) (count (get_or mids rose.0 x)) (count (get_or news rose.0 x)) (earlier rose.0 x below) (rose.2 x))

pub one_rose_after : {X : Type 0} (count : X → ℕ) (olds mids news : List X) → length mids ≡ length olds → OneCountRose count olds mids → NoneFalls count mids news → OneCountRose count olds news
one_rose_after count olds mids news many rose later =
    (rose.0, rose.1, λ x. count_rose_after (count (get_or olds rose.0 x)) (count (get_or mids rose.0 x)) (count (get_or news rose.0 x)) (rose.2 x) (later rose.0 x (omega (arith, rose.1, many))))

-- in a call that was handed one of them
pub rose_here : {X : Type 0} (count : X → ℕ) (olds mids : List X) (k : ℕ) (mid new : X) → length mids ≡ length olds → k < length mids → NoneFalls count olds mids
    → Rose (count (get_or mids k mid)) (count new) → OneCountRose count olds (set mids k new)
rose_here {X} count olds mids k mid new many within earlier rose =
    let below : k < length olds = omega (arith, within, many) in (
      k,
      below,
      λ x.
          subst (λ (y : X). Rose (count (get_or olds k x)) (count y)) (sym (get_or-set_same mids k new x within))
          (count_rose_before (count (get_or olds k x)) (count (get_or mids k x)) (count new) (earlier k x below)
          (subst (λ (y : X). Rose (count y) (count new)) (get_or_default mids k mid x within) rose)),
    )

-- nor in a call that left its count as it was
pub same_here : {X C : Type 0} (count : X → C) (olds mids : List X) (k : ℕ) (mid new : X) → SameCounts count olds mids → count new ≡ count (get_or mids k mid) → SameCounts count olds (set mids k new)
same_here count olds mids k mid new before same = map-set_same count mids k new mid same ∙ before

-- what is so is so on an Err
pub on_err : {T E P : Type 0} (r : Result T E) → P → OnErr r P
on_err (Ok x) p = tt
on_err (Err e) p = p
