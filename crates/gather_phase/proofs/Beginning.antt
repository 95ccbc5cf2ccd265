-- The work begins with nothing taken.
use Rattle.std.proofs.Common.{◌≡◌, ℕ, ◌≤◌, Bool, true, false, Option, List, [], ◌∷◌, inl, inr, refl, sym, ◌∙◌, subst, ⊎_elim, arith}
use Rattle.std.specs.List.{All}
use Rattle.std.proofs.lemmas.List.Elements.{All-nil, All-cons, All-append}
use Rattle.graph_model.specs.declared.value.Update.{Update}
use Rattle.chunk_object.specs.declared.call.Call.TheVariants.{Took, Exhausted}
use Rattle.chunk_cursor.specs.declared.view.View.{View}
use Rattle.chunk_cursor.specs.View.{with_call}
use Rattle.worker_duty.specs.Views.{taken_by_seat}
use Rattle.worker_duty.proofs.Beginnings.{nothing_taken}
use Rattle.worker_duty.proofs.Cursors.{taken_here-none, taken_here-more}
use Rattle.replica_merge.specs.declared.replicas.Replicas.{Replicas}
use Rattle.ports.specs.Disk.{DiskState}
use Rattle.ports.specs.Faults.{Rose}
use Rattle.ports.proofs.Rising.{count_rose_before}
use Rattle.gather_phase.specs.declared.desk.GatherDesk.{GatherDesk}
use Rattle.gather_phase.specs.Phases.{GoesOn}
use Rattle.gather_phase.specs.Gathering.{Adding, Rests}

pub rests_on : (a : Adding) (engines : ℕ) (lens : ℕ → ℕ) (Described : (ℕ → ℕ → List Update) → Type 0) (told : Option (List ℕ)) (size beat number : ℕ) (replicas : Replicas) (begun : Option ℕ) (v : View) → v.story ≡ [] → Rests a engines lens Described told size beat number replicas begun [] → Rests a engines lens Described told size beat number replicas begun (taken_by_seat v)
rests_on a engines lens Described told size beat number replicas begun v none rests = subst (Rests a engines lens Described told size beat number replicas begun) (sym (nothing_taken v none)) rests

-- The chunks that a worker took are found.
module _ (P : ℕ × ℕ → Type 0) where
  pub found_none : (v : View) → v.story ≡ [] → All P (taken_by_seat v)
  found_none v none = subst (All P) (sym (nothing_taken v none)) (All-nil P)

  pub found_still : (cursor : ℕ) (now new : View) → new ≡ with_call now (Exhausted cursor) → All P (taken_by_seat now) → All P (taken_by_seat new)
  found_still cursor now new call found = subst (All P) (sym (taken_here-none cursor now new call)) found

  pub found_more : (cursor place : ℕ) (now new : View) → new ≡ with_call now (Took cursor place) → All P (taken_by_seat now) → P (cursor, place) → All P (taken_by_seat new)
  found_more cursor place now new call found is =
      subst (All P) (sym (taken_here-more cursor place now new call)) (All-append P (taken_by_seat now) ((cursor, place) ∷ []) found (All-cons P (cursor, place) [] is (All-nil P)))

-- a desk that goes on twice
module _ {D M : Type 0} (state : D → DiskState) (faults : M → ℕ) where
  pub goes_on_then : (a b d : GatherDesk D M) → GoesOn state faults a b → GoesOn state faults b d → GoesOn state faults a d
  goes_on_then a b d x y = record {
    worker = y.worker ∙ x.worker;
    split = y.split ∙ x.split;
    room = λ job is. y.room job (x.room job is);
    reads = omega (arith, x.reads, y.reads);
    writes = omega (arith, x.writes, y.writes);
    told = λ bytes is. let half = x.told bytes is in y.told half.0 half.1;
    caused = λ is. ⊎_elim
        (λ middle. ⊎_elim (λ first. inl first) (λ rose. inr (⊎_elim (λ read. inl (rose_later (faults a.meter) (faults b.meter) (faults d.meter) read y.reads)) (λ write. inr (rose_later (state a.spill).faults (state b.spill).faults (state d.spill).faults write y.writes)) rose)) (x.caused middle))
        (λ rose. inr (⊎_elim (λ read. inl (count_rose_before (faults a.meter) (faults b.meter) (faults d.meter) x.reads read)) (λ write. inr (count_rose_before (state a.spill).faults (state b.spill).faults (state d.spill).faults x.writes write)) rose))
        (y.caused is);
    calm = λ is. let late = y.calm is in let early = x.calm late.0 in (early.0, late.1 ∙ early.1, late.2 ∙ early.2);
  }
    where
      rose_later : (k m n : ℕ) → Rose k m → m ≤ n → Rose k n
      rose_later k m n rose later = omega (arith, rose, later)

pub where_not_false : (b : Bool) → (b ≡ false → ⊥) → b ≡ true
where_not_false true not_false = refl
where_not_false false not_false = absurd (not_false refl)
