-- The epoch of a fork of workers, as one of a step.
use Rattle.std.proofs.Common.{◌≡◌, ◌≢◌, ◌⊎◌, inl, inr, ℕ, ◌≤◌, Bool, true, false, List, [], ◌∷◌, refl, sym, ◌∙◌, subst, arith}
use Rattle.graph_model.specs.declared.edge.Edge.{Edge}
use Rattle.std.proofs.lemmas.List.Elements.{All-nil, All-cons}
use Rattle.ports.specs.Disk.{DiskState}
use Rattle.chunk_object.specs.Epochs.{Terms, Epoch}
use Rattle.chunk_object.specs.History.{most_chunks}
use Rattle.graph_model.specs.Programs.{Rules}
use Rattle.graph_model.specs.declared.job.Job.{Job}
use Rattle.chunk_file.specs.declared.index.Place.{Place}
use Rattle.chunk_cursor.specs.declared.view.View.{View}
use Rattle.phase_model.specs.JobTerms.{terms_of}
use Rattle.phase_model.specs.Sums.{counts_of}
use Rattle.chunk_model.specs.Layout.{edge_layout}
use Rattle.store_reader.specs.declared.store.Outcome.TheVariants.{Done, DiskFault}
use Rattle.store_reader.specs.Indexed.{lens_of, HasRecords}
use Rattle.replica_merge.specs.declared.replicas.Replicas.{Replicas}
use Rattle.gather_phase.specs.declared.desk.GatherContext.{GatherContext}
use Rattle.gather_phase.specs.Phases.{Takes, MayStopBy}
use Rattle.epoch_seats.specs.Between.{IsBetweenEpochs}
use Rattle.epoch_seats.specs.Made.{HasMadeEpoch}
use Rattle.worker_outcomes.specs.declared.epoch_end.EpochEnd.{EpochEnd}
use Rattle.gather_epoch.specs.Gathering.{HaveGathered, IsNotBegun}
use Rattle.round_steps.specs.Epochs.{IsWhole, HasFewChunks}
use Rattle.round_steps.specs.Rounds.{MakesFirst}
use Rattle.round_steps.specs.Standing.{IsSound}
use Rattle.round_steps.proofs.Through.{through_none, through_one}
use Rattle.round_steps.proofs.Gathered.{gathers_soundly}

-- an epoch in which all workers are through is whole
pub whole_one : (terms : Terms) (lens : ℕ → ℕ) (IsThrough : Type 0) (before after : View) (took helped : ℕ) (epoch : Epoch) → HasMadeEpoch terms lens IsThrough before after took helped epoch → IsThrough → IsWhole terms epoch
whole_one terms lens IsThrough before after took helped epoch made through = record { duty = made.duty through; once = made.once through }

pub few_of : (lens : ℕ → ℕ) (epoch : Epoch) → epoch.lens ≡ lens → ((cursor : ℕ) → lens cursor ≤ most_chunks) → HasFewChunks epoch
few_of lens epoch are few cursor = subst (λ (l : ℕ → ℕ). l cursor ≤ most_chunks) (sym are) (few cursor)

module _ {P D G M : Type 0} (rules : P → Rules) (state : D → DiskState) (faults : M → ℕ) (c : GatherContext P D G M) (before after : View) (meters meters' : List M) (spills spills' : List D) (replicas : List Replicas) (result : EpochEnd) where
  abbrev pub Either : Type 0
  Either = IsNotBegun rules state faults c before after result ⊎ HaveGathered rules state faults c before after meters meters' spills spills' replicas result

  -- where all is done the epoch was made
  pub is_begun : result.outcome ≡ Done → Either → HaveGathered rules state faults c before after meters meters' spills spills' replicas result
  is_begun done either = elim either as (λ _. HaveGathered rules state faults c before after meters meters' spills spills' replicas result) [
    | inl none ↦ absurd (let no : DiskFault ≡ Done = sym none.outcome_is ∙ done in let never : ⊥ = cc in never)
    | inr have ↦ have
  ]

  -- edges are counted without damage where all chunks stand
  pub counts_soundly : Either → (result.outcome ≢ Done → MayStopBy rules state c result.outcome) → c.counting ≡ true → (records : ℕ → ℕ → List Edge) → HasRecords state (edge_layout c.serving.job.now.format) c.serving records → IsSound result.outcome
  counts_soundly either why counting records stand =
      gathers_soundly rules state c result.outcome why (λ cursor t. counts_of (records cursor t)) (subst (λ (b : Bool). Takes state b c.serving (λ cursor t. counts_of (records cursor t))) (sym counting) (records, stand, λ cursor t. refl))

  pub counts_epochs : IsBetweenEpochs before → ((cursor : ℕ) → lens_of c.serving.index.now cursor ≤ most_chunks) → Either →
      MakesFirst true c.serving.job.now c.serving.index.now (result.outcome ≡ Done) before after result.claims result.admitted
  counts_epochs between few either = elim either as (λ _. MakesFirst true c.serving.job.now c.serving.index.now (result.outcome ≡ Done) before after result.claims result.admitted) [
    | inl none ↦ record {
      epochs = [];
      through = through_none (terms_of c.serving.job.now) before after result.claims result.admitted between none.same none.none.0 none.none.1;
      are = tt;
      fronts = tt;
      bounds = All-nil HasFewChunks;
      all = λ done. absurd (let no : DiskFault ≡ Done = sym none.outcome_is ∙ done in let never : ⊥ = cc in never);
      few = omega arith;
    }
    | inr have ↦ record {
      epochs = have.epoch ∷ [];
      through = through_one (terms_of c.serving.job.now) (lens_of c.serving.index.now) (result.outcome ≡ Done) before after result.claims result.admitted have.epoch have.made;
      are = have.made.lens_are;
      fronts = have.made.begins;
      bounds = All-cons HasFewChunks have.epoch [] (few_of (lens_of c.serving.index.now) have.epoch have.made.lens_are few) (All-nil HasFewChunks);
      all = λ done. (
        All-cons (IsWhole (terms_of c.serving.job.now)) have.epoch [] (whole_one (terms_of c.serving.job.now) (lens_of c.serving.index.now) (result.outcome ≡ Done) before after result.claims result.admitted have.epoch have.made done) (All-nil (IsWhole (terms_of c.serving.job.now))),
        refl,
      );
      few = omega arith;
    }
  ]

-- no epoch is made where the program does not count
pub no_epochs : (counts : Bool) (job : Job) (index : List (List Place)) (done : Type 0) (before : View) → counts ≡ false → IsBetweenEpochs before → MakesFirst counts job index done before before 0 0
no_epochs counts job index done before is between =
    subst (λ (b : Bool). MakesFirst b job index done before before 0 0) (sym is)
    (record {
      epochs = [];
      through = through_none (terms_of job) before before 0 0 between refl refl refl;
      are = tt;
      fronts = tt;
      bounds = All-nil HasFewChunks;
      all = λ is_done. (All-nil (IsWhole (terms_of job)), refl);
      few = omega arith;
    })
