-- How counts go on, worker by worker.
use Rattle.std.proofs.Common.{◌≡◌, ◌⊎◌, inl, inr, ℕ, zero, suc, ◌<◌, ◌≤◌, List, [], ◌∷◌, length, map, refl, ◌∙◌, ap, subst, arith, slice_index_or, Option, Some}
use Rattle.std.specs.List.{All}
use Rattle.std.proofs.lemmas.List.{get_or_default}
use Rattle.ports.specs.Disk.{DiskState}
use Rattle.ports.specs.Faults.{Rose}
use Rattle.ports.specs.Devices.{OneRose, MetersGoOn, OneCountRose}
use Rattle.update_lanes.specs.Lanes.{GoOn}
use Rattle.gather_epoch.specs.Gathering.{GoesOn, RoseOfOne}
use Rattle.list_moves.proofs.Desks.{some_of}
use Rattle.round_steps.specs.Going.{Tell}

-- what holds at a place of two lists holds whatever stands past their ends
pub at_any : {A : Type 0} (R : A → A → Type 0) (xs ys : List A) (w : ℕ) (d e : A) → w < length xs → length ys ≡ length xs → R (slice_index_or xs w d) (slice_index_or ys w d) → R (slice_index_or xs w e) (slice_index_or ys w e)
at_any R xs ys w d e within same holds =
    subst (λ x. R x (slice_index_or ys w e)) (get_or_default xs w d e within) (subst (λ y. R (slice_index_or xs w d) y) (get_or_default ys w d e (omega arith)) holds)

module _ {D M : Type 0} (state : D → DiskState) (faults : M → ℕ) (engines : ℕ) (meters meters' : List M) (spills spills' : List D) where
  abbrev pub EachGoesOn : Type 0
  EachGoesOn = (w : ℕ) (m : M) (d : D) → w < engines → GoesOn state faults (slice_index_or meters w m) (slice_index_or meters' w m) (slice_index_or spills w d) (slice_index_or spills' w d)

  pub meters_go_on : length meters ≡ engines → length meters' ≡ engines → length spills ≡ engines → EachGoesOn → MetersGoOn faults meters meters'
  meters_go_on many many' spills_many goes_on = record {
    many = omega arith;
    later = λ w m below. (goes_on w m (some_of spills w (omega (arith, below))) (omega (arith, below))).reads;
  }

  pub spills_go_on : (number : ℕ) → length meters ≡ engines → length spills ≡ engines → length spills' ≡ engines → All (λ d. (state d).beat ≤ number) spills' → EachGoesOn → GoOn state number spills spills'
  spills_go_on number meters_many many many' beats goes_on = record {
    many = omega arith;
    each = λ e d below.
        let one = goes_on e (some_of meters e (omega (arith, below))) d (omega (arith, below)) in
        record { beat = λ _. beats e d (omega (arith, below)); faults = one.writes; told = one.told };
  }

  pub rose_of_one : length meters ≡ engines → length meters' ≡ engines → length spills ≡ engines → length spills' ≡ engines → RoseOfOne state faults engines meters meters' spills spills' → OneCountRose faults meters meters' ⊎ OneRose state spills spills'
  rose_of_one many many' spills_many spills_many' one =
      let w : ℕ = one.0 in
      let below : w < engines = one.1 in
      let m : M = some_of meters w (omega arith) in
      let d : D = some_of spills w (omega arith) in
      elim (one.2 m d) as (λ _. OneCountRose faults meters meters' ⊎ OneRose state spills spills') [
        | inl meter ↦ inl (w, omega arith, λ e. at_any (λ x y. Rose (faults x) (faults y)) meters meters' w m e (omega arith) (omega arith) meter)
        | inr spill ↦ inr (w, omega arith, λ e. at_any (λ x y. Rose (state x).faults (state y).faults) spills spills' w d e (omega arith) (omega arith) spill)
      ]

module _ {D : Type 0} (state : D → DiskState) where
  -- the bytes of devices that tell them
  pub record HasBytes (devices : List D) : Type 0 where
    pub all : List (List ℕ)
    pub are : map (λ d. (state d).bytes) devices ≡ map (λ bytes. Some bytes) all
    pub many : length all ≡ length devices
    pub each : (e : ℕ) (d : D) → e < length devices → (state (slice_index_or devices e d)).bytes ≡ Some (slice_index_or all e [])

  pub bytes_of : (devices : List D) → Tell state devices → HasBytes devices
  bytes_of [] tell = record { all = []; are = refl; many = refl; each = λ e d below. absurd (omega (arith, below)) }
  bytes_of (d ∷ ds) tell =
      let here = tell 0 d (omega arith) in
      let rest : HasBytes ds = bytes_of ds (λ e d' below. tell (suc e) d' (omega (arith, below))) in
      record {
        all = here.0 ∷ rest.all;
        are = ap (λ (x : Option (List ℕ)). x ∷ map (λ d'. (state d').bytes) ds) here.1 ∙ ap (λ (xs : List (Option (List ℕ))). Some here.0 ∷ xs) rest.are;
        many = omega (arith, rest.many);
        each = λ e d' below. each_of d ds here.0 rest.all here.1 rest.each e d' below;
      }
    where
      each_of : (d : D) (ds : List D) (bytes : List ℕ) (all : List (List ℕ)) → (state d).bytes ≡ Some bytes → ((e : ℕ) (d' : D) → e < length ds → (state (slice_index_or ds e d')).bytes ≡ Some (slice_index_or all e []))
          → (e : ℕ) (d' : D) → e < length (d ∷ ds) → (state (slice_index_or (d ∷ ds) e d')).bytes ≡ Some (slice_index_or (bytes ∷ all) e [])
      each_of d ds bytes all told each zero d' below = told
      each_of d ds bytes all told each (suc e) d' below = each e d' (omega (arith, below))

  -- devices that go on tell still
  pub tell_still : (number : ℕ) (old new : List D) → GoOn state number old new → Tell state old → Tell state new
  tell_still number old new goes_on tell e d below =
      let within : e < length old = omega (arith, below, goes_on.many) in
      let told = tell e d within in (goes_on.each e d within).told told.0 told.1
