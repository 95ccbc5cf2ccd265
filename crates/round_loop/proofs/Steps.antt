-- What the first round and each further one come to for the run.
use Rattle.std.proofs.Common.{◌≡◌, ℕ, ◌+◌, ◌*◌, ◌^◌, ◌<◌, ◌≤◌, Bool, true, false, if◌then◌else◌, Option, None, Some, List, [], ◌++◌, length, Err, refl, sym, ◌∙◌, subst, arith}
use Rattle.std.proofs.lemmas.List.{length-append}
use Rattle.graph_model.specs.declared.edge.Edge.{Edge}
use Rattle.graph_model.specs.declared.job.Job.{Job}
use Rattle.graph_model.specs.Jobs.{IsWellFormedJob}
use Rattle.graph_model.specs.Programs.{Rules}
use Rattle.ports.specs.Disk.{DiskState, IsDisk}
use Rattle.partitioner.specs.declared.split.Split.{Split}
use Rattle.chunk_object.specs.Epochs.{Epoch}
use Rattle.chunk_file.specs.declared.index.Place.{Place}
use Rattle.store_reader.specs.declared.store.Outcome.{Outcome}
use Rattle.store_reader.specs.declared.store.Outcome.TheVariants.{Done}
use Rattle.phase_model.specs.JobTerms.{terms_of}
use Rattle.round_steps.specs.Going.{IsStore}
use Rattle.round_steps.specs.Standing.{HaveEdges}
use Rattle.round_steps.specs.Damage.{IsDamage, NamesDamage}
use Rattle.round_steps.proofs.Damage.{edges_in_round}
use Rattle.round_loop.specs.declared.run.Start.{Start}
use Rattle.round_loop.specs.declared.run.Start.TheVariants.{Fresh}
use Rattle.round_loop.specs.declared.course.Progress.{Progress}
use Rattle.round_loop.specs.declared.fault.RoundFault.{RoundFault}
use Rattle.round_loop.specs.Answers.{IsFaultOf}
use Rattle.partitioner.specs.Splits.{split_for}
use Rattle.round_loop.specs.Starts.{first_sent, counts_first}
use Rattle.round_loop.specs.Opening.{sends_changed}
use Rattle.round_loop.specs.Keeping.{Moment}
use Rattle.round_loop.specs.Conditions.{MOST_ROUNDS}
use Rattle.round_loop.specs.Coming.{GoesOn, bound, ComesWell, HasCome, IsAt}
use Rattle.round_loop.specs.Run.{HasRun}
use Rattle.round_loop.proofs.Advancing.{Stepped, comes_on}
use Rattle.round_loop.proofs.Beginning.{FirstMade, began}
use Rattle.round_loop.proofs.Ending.{ends_by_fault}
use Rattle.round_loop.proofs.Keeping.{told_still, rose_since}
use Rattle.round_loop.proofs.Counting.{MOST, claims_of_all}

module _ {D M : Type 0} (state : D → DiskState) (faults : M → ℕ) (rules : Rules) (job : Job) (index : List (List Place)) where
  -- a round that is done
  done_well : (start : Start) (edges : List Edge) (done : Type 0) (round changed : ℕ) (from new : Moment D M) (epochs : List Epoch) → done → ComesWell state rules job start edges done round changed from new epochs → ComesWell state rules job start edges (Unit {0}) round changed from new epochs
  done_well start edges done round changed from new epochs is well = record {
    are = well.are;
    kept = λ _. well.kept is;
    behind = well.behind;
    counted = λ _. well.counted is;
    due = well.due;
    any_stop = well.any_stop;
    since = well.since;
  }

  done_come : (start : Start) (done : Type 0) (round changed took helped : ℕ) (from new : Moment D M) (epochs : List Epoch) → done → HasCome state faults rules job start index done round changed took helped from new epochs →
      HasCome state faults rules job start index (Unit {0}) round changed took helped from new epochs
  done_come start done round changed took helped from new epochs is come = record {
    store = come.store;
    keeps = come.keeps;
    meters = come.meters;
    calm = λ _. come.calm is;
    through = come.through;
    fronts = come.fronts;
    few = come.few;
    since = come.since;
    begun = come.begun;
    most = come.most;
    helpers = λ _. come.helpers is;
    whole = λ _. come.whole is;
    many = λ _. come.many is;
    rises = come.rises;
    later = come.later;
    sooner = come.sooner;
    beat = λ _. come.beat is;
    opened = λ _. come.opened is;
    well = λ edges has told good. done_well start edges done round changed from new epochs is (come.well edges has told good);
  }

  -- Round 0.
  module _ (laws : (d : D) → IsDisk (state d)) (split : Split) (split_is : split ≡ split_for job) (from new : Moment D M) (ready : IsStore state split from.beat from.store) (outcome : Outcome) (changed took helped : ℕ)
      (first : FirstMade state faults rules job index from new outcome changed took helped split) where
    of_job : FirstMade state faults rules job index from new outcome changed took helped (split_for job)
    of_job = subst (FirstMade state faults rules job index from new outcome changed took helped) split_is first

    ready_for : IsStore state (split_for job) from.beat from.store
    ready_for = subst (λ s. IsStore state s from.beat from.store) split_is ready

    pub begins_at : (count : ℕ) → count ≡ (if rules.counts then 1 else 0) → outcome ≡ Done → IsAt state faults rules job Fresh index (record { round = 0; changed = changed; epochs = count; claims = took; admitted = helped }) from new
    begins_at count is done = record {
      epochs = of_job.epochs.epochs;
      come = done_come Fresh (outcome ≡ Done) 0 changed took helped from new of_job.epochs.epochs done (began state faults laws rules job index from ready_for new outcome changed took helped of_job);
      epochs_are = is ∙ sym (of_job.epochs.all done).1;
    }

    pub begins_not : (fault : RoundFault) → IsFaultOf outcome fault → HasRun state faults rules job Fresh index from new (Err fault)
    begins_not fault of =
        ends_by_fault state faults rules job Fresh index (outcome ≡ Done) 0 changed took helped from new of_job.epochs.epochs (began state faults laws rules job index from ready_for new outcome changed took helped of_job)
        outcome fault of of_job.cause (λ records have told. of_job.sound records have) (edges_in_round state job (split_for job) index from.store.graphs.items new.store.lanes.items outcome of_job.damaged)

  -- One round more.
  module _ (laws : (d : D) → IsDisk (state d)) (start : Start) (split : Split) (split_is : split ≡ split_for job) (so_far : Progress) (mid new : Moment D M) (goes : GoesOn rules job.limit so_far.round so_far.changed) (below : so_far.round < MOST_ROUNDS)
      (changed_only : Bool) (only : changed_only ≡ sends_changed rules job [] (first_sent start) (so_far.round + 1)) (outcome : Outcome) (changed took helped : ℕ)
      (step : Stepped state faults rules job index (so_far.round + 1) changed_only so_far.epochs mid new outcome changed took helped split) where
    -- so many chunks were taken in it
    pub few_claims : IsWellFormedJob job → outcome ≡ Done → took ≤ 512 * MOST * 2
    few_claims well done =
        let whole = step.epochs.all done in
        let few = claims_of_all (terms_of job) well.engines.1 well.few_parts step.epochs.epochs whole.0 step.epochs.bounds in
        omega (arith, few, whole.1, step.epochs.through.claims_are)

    module _ (from : Moment D M) (at : IsAt state faults rules job start index so_far from mid) where
      stepped : Stepped state faults rules job index (so_far.round + 1) changed_only (length at.epochs) mid new outcome changed took helped (split_for job)
      stepped =
          subst (λ t. Stepped state faults rules job index (so_far.round + 1) changed_only t mid new outcome changed took helped (split_for job)) at.epochs_are
          (subst (Stepped state faults rules job index (so_far.round + 1) changed_only so_far.epochs mid new outcome changed took helped) split_is step)

      abbrev all_epochs : List Epoch
      all_epochs = at.epochs ++ stepped.epochs.epochs

      come : HasCome state faults rules job start index (outcome ≡ Done) (so_far.round + 1) changed (so_far.claims + took) (so_far.admitted + helped) from new all_epochs
      come = comes_on state faults laws rules job start index from mid new so_far.round so_far.changed so_far.claims so_far.admitted at.epochs at.come changed_only only outcome changed took helped stepped goes below

      pub goes_to : outcome ≡ Done → IsAt state faults rules job start index (record { round = so_far.round + 1; changed = changed; epochs = so_far.epochs + 2; claims = so_far.claims + took; admitted = so_far.admitted + helped }) from new
      goes_to done = record {
        epochs = all_epochs;
        come = done_come start (outcome ≡ Done) (so_far.round + 1) changed (so_far.claims + took) (so_far.admitted + helped) from new all_epochs done come;
        epochs_are = omega (arith, at.epochs_are, (stepped.epochs.all done).1, length-append at.epochs stepped.epochs.epochs);
      }

      pub goes_not : (fault : RoundFault) → IsFaultOf outcome fault → HasRun state faults rules job start index from new (Err fault)
      goes_not fault of =
          ends_by_fault state faults rules job start index (outcome ≡ Done) (so_far.round + 1) changed (so_far.claims + took) (so_far.admitted + helped) from new all_epochs come
          outcome fault of (λ is. rose_since state faults from.store mid.store new.store from.meters mid.meters new.meters at.come.keeps at.come.meters (stepped.cause is))
          (λ records have told. stepped.sound records (subst (λ g. HaveEdges state job (split_for job) index g.items records) (sym at.come.keeps.graphs) have) (told_still state from.store mid.store at.come.keeps told).lanes)
          (subst (λ g. NamesDamage (IsDamage state job (split_for job) index g.items new.store.lanes.items) outcome) at.come.keeps.graphs stepped.damaged)

-- A further round is one of few.
pub small_round : (rules : Rules) (limit round changed : ℕ) → GoesOn rules limit round changed → limit ≤ MOST_ROUNDS → ((last : ℕ) → rules.rounds ≡ Some last → last ≤ MOST_ROUNDS) → round < MOST_ROUNDS
small_round rules limit round changed goes small few = by_rounds rules.rounds refl
  where
    by_rounds : (rounds : Option ℕ) → rules.rounds ≡ rounds → round < MOST_ROUNDS
    by_rounds (Some last) is = omega (arith, goes.fixed last is, few last is)
    by_rounds None is = omega (arith, goes.within is, small)

module _ {D M : Type 0} (state : D → DiskState) (faults : M → ℕ) (rules : Rules) (job : Job) (start : Start) (index : List (List Place)) (so_far : Progress) (from mid : Moment D M) (at : IsAt state faults rules job start index so_far from mid) where
  one_at_most : (b : Bool) → ◌≤◌ (if b then 1 else 0) 1
  one_at_most true = omega arith
  one_at_most false = omega arith

  few_epochs : so_far.round < MOST_ROUNDS → length at.epochs ≤ 2000001
  few_epochs below =
      let most = at.come.most in
      let one = one_at_most (counts_first rules start) in
      omega (arith, most, one, below)

  -- so few numbers that there is room for those of a further round
  pub few_so_far : IsWellFormedJob job → so_far.round < MOST_ROUNDS → (so_far.epochs ≤ 2000001) × (so_far.claims ≤ 2 ^ 62) × (so_far.admitted ≤ 2 ^ 62)
  few_so_far well below =
      let epochs = few_epochs below in
      let claimed = claims_of_all (terms_of job) well.engines.1 well.few_parts at.epochs (at.come.whole tt) at.come.few in
      (omega (arith, epochs, at.epochs_are), omega (arith, epochs, claimed, at.come.through.claims_are), omega (arith, below, at.come.helpers tt))

pub below_bound : (rules : Rules) (rounds : Option ℕ) (limit round changed : ℕ) → rules.rounds ≡ rounds → GoesOn rules limit round changed → round < bound rounds limit
below_bound rules (Some last) limit round changed is goes = goes.fixed last is
below_bound rules None limit round changed is goes = goes.within is
