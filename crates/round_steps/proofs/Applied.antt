-- What apply on all engines says of a store.
use Rattle.std.proofs.Common.{◌≡◌, ◌⊎◌, inl, inr, ⊎_elim, ℕ, ◌-◌, ◌≤◌, false, List, length, sym, ◌∙◌, subst, arith, slice_index, slice_index_or}
use Rattle.graph_model.specs.declared.edge.Edge.{Edge}
use Rattle.graph_model.specs.declared.value.Value.{Value}
use Rattle.graph_model.specs.Rounds.{values}
use Rattle.gather_laws.specs.Laws.{HaveRoom}
use Rattle.ports.specs.Disk.{DiskState}
use Rattle.ports.proofs.Told.{told_on}
use Rattle.ports.specs.Devices.{OneCountRose, OneRose, Each}
use Rattle.store_model.specs.Slots.{slot_of}
use Rattle.store_reader.specs.Reading.{own_in}
use Rattle.store_reader.specs.declared.store.Outcome.{Outcome}
use Rattle.store_reader.specs.declared.store.Outcome.TheVariants.{Done, DiskFault, Damaged, Memory}
use Rattle.checkpoint.specs.SlotStates.{SameOther}
use Rattle.apply_round.specs.Crew.{EndsByCauses}
use Rattle.apply_round.specs.Made.{AreMerged, made}
use Rattle.apply_round.specs.Applying.{RoundTerms, AppliesToEach, StoresOnEach, MakesRound}
use Rattle.apply_round.specs.Applying as applying
use Rattle.round_steps.specs.Going.{KeepsOthers}
use Rattle.round_steps.specs.Standing.{IsSound, StandsBefore, ValuesStand}
use Rattle.round_steps.specs.Rounds.{StoresRound}

module _ {D M : Type 0} {state : D → DiskState} {faults : M → ℕ} {olds news : List D} {meters meters' : List M} where
  pub sound_ends : (outcome : Outcome) → EndsByCauses state faults outcome olds news meters meters' → IsSound outcome
  sound_ends Done ends = tt
  sound_ends DiskFault ends = tt
  sound_ends (Damaged part engine place) ends = elim ends.ends as (λ _. ⊥) [ inl done ↦ cc | inr fault ↦ let is : Damaged part engine place ≡ DiskFault = fault.0 in cc ]
  sound_ends Memory ends = tt

  pub apply_cause : (outcome : Outcome) → EndsByCauses state faults outcome olds news meters meters' → outcome ≡ DiskFault → OneCountRose faults meters meters' ⊎ OneRose state olds news
  apply_cause outcome ends fault = ⊎_elim (λ done. absurd (let no : DiskFault ≡ Done = sym fault ∙ done in let never : ⊥ = cc in never)) (λ both. both.1) ends.ends

module _ {D : Type 0} (state : D → DiskState) (t : RoundTerms) (olds news : List D) (done : Type 0) (changed : ℕ) where
  pub keeps_others : AppliesToEach state t olds news → Each state (λ old new. old.faults ≤ new.faults) olds news
      → (done → StoresOnEach state t changed olds news) → KeepsOthers state t.split t.round t.number done olds news
  keeps_others applies later stores = record {
    going = record {
      many = later.many;
      each = λ e d below. record {
        beat = λ _. (applies e d below).beat;
        faults = later.each e d below;
        told = told_on (SameOther (own_in t.split e) (slot_of t.round)) (state (slice_index_or olds e d)).bytes (state (slice_index_or news e d)).bytes (applies e d below).bytes;
      };
    };
    sizes = λ e d below. (applies e d below).size;
    bytes = λ e d below. (applies e d below).bytes;
    other = λ e d below. (applies e d below).other;
    settled = λ is_done e d below. ((stores is_done).each e d below).settled;
    opened = λ is_done e d below. let all = stores is_done in (slice_index all.counts e, (all.each e d (omega (arith, later.many, below))).opened);
  }

  -- **The round that is made of the sums is the round of the definition.**
  pub round_stored : (edges : List Edge) (numbers : ℕ → ℕ) → made t.rules t.split.vertices t.round numbers (values t.rules t.split.vertices edges (t.round - 1)) ≡ values t.rules t.split.vertices edges t.round
      → MakesRound state t numbers (values t.rules t.split.vertices edges (t.round - 1)) (made t.rules t.split.vertices t.round numbers (values t.rules t.split.vertices edges (t.round - 1))) done changed olds news
      → StoresRound state t.rules t.split edges t.round t.number done changed olds news
  round_stored edges numbers makes round =
      let before : List Value = values t.rules t.split.vertices edges (t.round - 1) in
      let is : MakesRound state t numbers before (values t.rules t.split.vertices edges t.round) done changed olds news =
      subst (λ (now : List Value). MakesRound state t numbers before now done changed olds news) makes round in
      record { any_moment = is.any_moment; stored = is.stored; changed_are = is.changed_are }

  -- what a round is made of
  pub stands_before : (edges : List Edge) (numbers : ℕ → ℕ) → length olds ≡ t.split.engines → AreMerged t.rules t.split t.replicas t.spills numbers → HaveRoom (values t.rules t.split.vertices edges (t.round - 1))
      → ValuesStand state t.rules t.split edges t.round false olds
      → applying.StandsBefore state t numbers (values t.rules t.split.vertices edges (t.round - 1)) olds
  stands_before edges numbers many merged fit stand = record {
    numbers_are = merged;
    fit = λ later. fit;
    shares = λ e d below. let at : StandsBefore t.rules t.split edges t.round false e (state (slice_index_or olds e d)).bytes = stand e d (omega (arith, below)) in record { read = at.read; told = at.told; stand = at.last };
  }
