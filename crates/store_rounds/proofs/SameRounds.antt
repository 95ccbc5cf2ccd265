-- Rounds as a store says them, and as a run makes them.
use Rattle.std.proofs.Common.{◌≡◌, ℕ, zero, suc, ◌-◌, ◌^◌, ◌<◌, ◌≤◌, true, List, inl, inr, refl, sym, ◌∙◌, ap, subst, arith}
use Rattle.std.specs.List.{count_by}
use Rattle.graph_model.specs.declared.edge.Edge.{Edge}
use Rattle.graph_model.specs.declared.job.Job.{Job}
use Rattle.graph_model.specs.Jobs.{IsWellFormedJob}
use Rattle.graph_model.specs.Programs.{rules_of}
use Rattle.graph_model.specs.Rounds.{values, has_changed}
use Rattle.store_model.specs.Slots.{slot_of, HoldsRound}
use Rattle.store_model.specs.Kept.{own_of, own_vertices, values_of, round_values, changed_in, IsReached, HasRound, IsValuesOf}
use Rattle.store_model.specs.Damage.{round_in}
use Rattle.store_reader.specs.declared.store.SlotHead.{SlotHead}
use Rattle.store_reader.specs.Reading.{TellsHead}
use Rattle.store_checks.proofs.SlotReads.{round_read}
use Rattle.restart.proofs.RoundsOfJobs.{reached_few}
use Rattle.round_loop.specs.Starts as run
use Rattle.round_loop.specs.Kept.{changed_by, Holds}

module _ (job : Job) (edges : List Edge) where
  -- how many of some vertices changed in a round
  pub changed_same : (vertices : List ℕ) (round : ℕ) → changed_in job edges vertices round ≡ changed_by (rules_of job.program) job edges round vertices
  changed_same vertices zero = refl
  changed_same vertices (suc round) =
      let back : round ≡ suc round - 1 = omega arith in
      ap (λ k. count_by (has_changed (values (rules_of job.program) job.vertices edges k) (values (rules_of job.program) job.vertices edges (suc round))) vertices) back

  pub reached_by_run : (round : ℕ) → IsReached job edges round → run.IsReached (rules_of job.program) job.vertices edges job.limit round
  reached_by_run round reached = record { no_later = reached.no_later; within = reached.within }

  pub reached_in_store : (round : ℕ) → run.IsReached (rules_of job.program) job.vertices edges job.limit round → IsReached job edges round
  reached_in_store round reached = record { no_later = reached.no_later; within = reached.within }

  -- what stands in the slot of a round with this number of changed vertices
  abbrev HoldsWith : (e round changed : ℕ) → List ℕ → Type 0
  HoldsWith e round changed bytes = HoldsRound (own_of job e) (slot_of round) round changed (values_of (own_vertices job e) (round_values job edges round)) bytes

  -- a round of the store stands as one of a run, and back
  pub held_by_run : (e round : ℕ) (bytes : List ℕ) → HasRound job edges e bytes round → Holds (rules_of job.program) job edges round e bytes
  held_by_run e round bytes has = subst (λ changed. HoldsWith e round changed bytes) (changed_same (own_vertices job e) round) has.holds

  pub held_in_store : (e round : ℕ) (bytes : List ℕ) → IsReached job edges round → Holds (rules_of job.program) job edges round e bytes → HasRound job edges e bytes round
  held_in_store e round bytes reached holds = record {
    reached = reached;
    holds = subst (λ changed. HoldsWith e round changed bytes) (sym (changed_same (own_vertices job e) round)) holds;
  }

  -- the number of the round that stands in a slot
  number_read : (e slot round changed : ℕ) (bytes : List ℕ) → slot_of round ≡ slot → round < 2 ^ 64 → HoldsWith e round changed bytes → round_in (own_of job e) slot bytes ≡ round
  number_read e slot round changed bytes here fits holds =
      let slot_head : SlotHead = record { is_open = true; round = round; changed = changed } in
      let tells : TellsHead (own_of job e) (slot_of round) slot_head bytes = record { gate = ((λ _. holds.is_open), λ _. refl); numbers = holds.numbers } in
      subst (λ s. round_in (own_of job e) s bytes ≡ round) here (round_read (own_of job e) (slot_of round) slot_head bytes fits tells)

  -- **What stands on a values device of the store as a round is one of the job.**
  pub known_round : (e round : ℕ) (bytes : List ℕ) → IsWellFormedJob job → round < 2 ^ 64 → IsValuesOf job edges e bytes → Holds (rules_of job.program) job edges round e bytes → HasRound job edges e bytes round
  known_round e round bytes well fits is holds = elim (is.slots (slot_of round) (omega arith)) [
    | inl closed ↦ absurd (closed holds.is_open)
    | inr found ↦
        let few : found.0 ≤ 1000000 = reached_few job edges found.0 well found.2.reached in
        let same : found.0 ≡ round =
        sym (number_read e (slot_of round) found.0 (changed_in job edges (own_vertices job e) found.0) bytes found.1 (omega (arith, few)) found.2.holds)
        ∙ number_read e (slot_of round) round (changed_by (rules_of job.program) job edges round (own_vertices job e)) bytes refl fits holds in
        subst (HasRound job edges e bytes) same found.2
  ]
