-- Steps over several devices, one device after another.
use Rattle.std.proofs.Common.{◌≡◌, ◌∙◌, ℕ, ◌<◌, List, length, get_or, set, refl, subst, arith}
use Rattle.std.proofs.lemmas.List.{get_or_default, length-set}
use Rattle.ports.specs.Disk.{DiskState, IsDisk, InEveryImage}
use Rattle.ports.proofs.Rising.{one_rose_before, one_rose_after}
use Rattle.ports.specs.Devices.{Each, OneRose}
use Rattle.store_model.specs.Heads.{IsShutGraph}
use Rattle.graph_model.proofs.ListLemmas.{at_set}
use Rattle.storage_engine.specs.Steps.{Anything, Step, IsClosedFront, Opens}
use Rattle.storage_engine.proofs.Keeping.{step_same, step_then, step_anything, closed_step, opens_same}

-- no call
pub each_same : {X : Type 0} (state : X → DiskState) (P : List ℕ → Type 0) (number : ℕ) (disks : List X) → ((x : X) → IsDisk (state x)) → Each state (Step P number) disks disks
each_same state P number disks laws = record { many = refl; each = λ e d within. step_same P number (state (get_or disks e d)) (laws (get_or disks e d)) }

-- a step of one of them
pub each_set : {X : Type 0} (state : X → DiskState) (P : List ℕ → Type 0) (number : ℕ) (olds mids : List X) (e : ℕ) (mid new : X) → ((x : X) → IsDisk (state x))
    → e < length mids → Each state (Step P number) olds mids → Step P number (state (get_or mids e mid)) (state new) → Each state (Step P number) olds (set mids e new)
each_set {X} state P number olds mids e mid new laws within all step = record {
  many = length-set mids e new ∙ all.many;
  each = λ k d below.
      at_set (λ j x. Step P number (state (get_or olds j d)) (state x)) mids e k new d within
      (λ same. step_then P number (state (get_or olds e d)) (state (get_or mids e d)) (state new) (laws (get_or mids e d)) (all.each e d (omega (arith, within, all.many))) (subst (λ x. Step P number (state x) (state new)) (get_or_default mids e mid d within) step))
      (λ other. all.each k d below);
}

-- one run over all and then another
pub each_then : {X : Type 0} (state : X → DiskState) (P : List ℕ → Type 0) (number : ℕ) (olds mids news : List X) → ((x : X) → IsDisk (state x))
    → Each state (Step P number) olds mids → Each state (Step P number) mids news → Each state (Step P number) olds news
each_then state P number olds mids news laws first next = record {
  many = next.many ∙ first.many;
  each = λ e d within. step_then P number (state (get_or olds e d)) (state (get_or mids e d)) (state (get_or news e d)) (laws (get_or mids e d)) (first.each e d within) (next.each e d (omega (arith, within, first.many)));
}

-- it rose in the second of two runs, or in the first
pub one_rose_later : {X : Type 0} (state : X → DiskState) (P : List ℕ → Type 0) (number : ℕ) (olds mids news : List X) → Each state (Step P number) olds mids → OneRose state mids news → OneRose state olds news
one_rose_later state P number olds mids news first rose = one_rose_before (λ x. (state x).faults) olds mids news first.many (λ e d below. (first.each e d below).faults) rose

pub one_rose_earlier : {X : Type 0} (state : X → DiskState) (P : List ℕ → Type 0) (number : ℕ) (olds mids news : List X) → length mids ≡ length olds → OneRose state olds mids → Each state (Step P number) mids news → OneRose state olds news
one_rose_earlier state P number olds mids news many rose next = one_rose_after (λ x. (state x).faults) olds mids news many rose (λ e d below. (next.each e d (omega (arith, below, many))).faults)

pub each_opens_same : {X : Type 0} (state : X → DiskState) (number : ℕ) (disks : List X) → ((x : X) → IsDisk (state x)) → ((e : ℕ) (d : X) → e < length disks → InEveryImage (state (get_or disks e d)) IsClosedFront) → Each state (Opens number) disks disks
each_opens_same state number disks laws closed = record { many = refl; each = λ e d within. opens_same number (state (get_or disks e d)) (laws (get_or disks e d)) (closed e d within) }

-- what keeps closed gates closed keeps them shut
pub each_closed : {X : Type 0} (state : X → DiskState) (number : ℕ) (mids news : List X) → ((e : ℕ) (d : X) → e < length mids → InEveryImage (state (get_or mids e d)) IsClosedFront)
    → Each state (Step IsClosedFront number) mids news → Each state (Step IsShutGraph number) mids news
each_closed state number mids news closed steps = record {
  many = steps.many;
  each = λ e d within. closed_step number (state (get_or mids e d)) (state (get_or news e d)) (closed e d within) (steps.each e d within);
}

pub each_anything : {X : Type 0} (state : X → DiskState) (P : List ℕ → Type 0) (number : ℕ) (olds news : List X) → Each state (Step P number) olds news → Each state (Step Anything number) olds news
each_anything state P number olds news steps = record {
  many = steps.many;
  each = λ e d within. step_anything P number (state (get_or olds e d)) (state (get_or news e d)) (steps.each e d within);
}
