-- A gather epoch, in words of the lanes.
use Rattle.std.proofs.Common.{◌≡◌, ◌≢◌, ◌⊎◌, inl, inr, ℕ, Bool, false, List, length, sym, ◌∙◌, subst}
use Rattle.std.specs.Prelude.{Vec}
use Rattle.std.specs.Global.{Global}
use Rattle.graph_model.specs.declared.value.Update.{Update}
use Rattle.graph_model.specs.Programs.{Rules}
use Rattle.phase_model.specs.Shelves.{Shelf, records_at}
use Rattle.ports.specs.Disk.{DiskState}
use Rattle.chunk_cursor.specs.declared.view.View.{View}
use Rattle.store_reader.specs.declared.store.Outcome.TheVariants.{Done, DiskFault}
use Rattle.store_reader.specs.Indexed.{IsServing}
use Rattle.replica_merge.specs.declared.replicas.Replicas.{Replicas}
use Rattle.update_lanes.specs.Lanes.{GoOn}
use Rattle.gather_phase.specs.declared.desk.GatherContext.{GatherContext}
use Rattle.gather_phase.specs.Phases.{Takes, MayStopBy}
use Rattle.worker_outcomes.specs.declared.epoch_end.EpochEnd.{EpochEnd}
use Rattle.scatter_epoch.specs.Sent.{IsOfRows}
use Rattle.round_steps.specs.Standing.{IsSound}
use Rattle.round_steps.specs.Updates.{Stand, IsIdle, Gathers}
use Rattle.round_steps.proofs.Counts.{bytes_of, tell_still}
use Rattle.round_steps.proofs.Begun.{Either}
use Rattle.round_steps.proofs.Gathered.{EachIsDone, gathers_soundly, updates_merge}

module _ {P D G M : Type 0} (rules : P → Rules) (state : D → DiskState) (faults : M → ℕ) (c : GatherContext P D G M) (before after : View) (meters meters' : List M) (spills spills' : List D) (replicas : List Replicas) (result : EpochEnd) where
  -- updates are gathered without damage where their chunks stand
  pub gathers_updates_soundly : Either rules state faults c before after meters meters' spills spills' replicas result → (result.outcome ≢ Done → MayStopBy rules state c result.outcome) → c.counting ≡ false → (rows : List (Vec D Global)) (shelf : Shelf Update)
      → Stand M state c.serving.job.now c.serving.split.now rows c.serving.index.now shelf → IsOfRows c.serving.job.now c.serving.split.now rows c.serving.index.now c.serving → IsSound result.outcome
  gathers_updates_soundly either why gathering rows shelf stand is_of =
      gathers_soundly rules state c result.outcome why (records_at shelf) (subst (λ (b : Bool). Takes state b c.serving (records_at shelf)) (sym gathering) (stand c.serving is_of))

  pub gathers : Either rules state faults c before after meters meters' spills spills' replicas result → EachIsDone → (number : ℕ) (rows : List (Vec D Global)) → length meters ≡ c.serving.job.now.engines → length replicas ≡ c.serving.job.now.engines
      → length spills' ≡ c.serving.job.now.engines → c.counting ≡ false → GoOn state number spills spills' → IsOfRows c.serving.job.now c.serving.split.now rows c.serving.index.now c.serving → IsServing c.serving
      → IsIdle (result.outcome ≡ Done) before after result.claims result.admitted
      ⊎ Gathers M state (rules c.program.now) c.serving.job.now c.serving.split.now rows c.serving.index.now spills replicas spills' (result.outcome ≡ Done) before after result.claims result.admitted
  gathers either law number rows many replicas_many spills_many gathering goes_on is_of serves =
      elim either as (λ _. IsIdle (result.outcome ≡ Done) before after result.claims result.admitted
      ⊎ Gathers M state (rules c.program.now) c.serving.job.now c.serving.split.now rows c.serving.index.now spills replicas spills' (result.outcome ≡ Done) before after result.claims result.admitted) [
        | inl none ↦ inl (record { same = none.same; not_done = λ done. let no : DiskFault ≡ Done = sym none.outcome_is ∙ done in cc; none = none.none })
        | inr have ↦ inr (record {
          epoch = have.epoch;
          made = have.made;
          bounds = serves.few;
          merged_are = λ done shelf stand tell.
              updates_merge rules state faults c before after meters meters' spills spills' replicas result law many have done replicas_many spills_many gathering shelf (stand c.serving is_of)
              (bytes_of state spills' (tell_still state number spills spills' goes_on tell));
        })
      ]
