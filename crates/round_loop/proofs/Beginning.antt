-- The first round, and a round that stands already.
use Rattle.std.proofs.Common.{◌≡◌, ℕ, ◌+◌, ◌<◌, ◌≤◌, false, List, [], length, get_or, refl, ◌∙◌, ap, arith}
use Rattle.std.proofs.lemmas.List.Elements.{All-nil}
use Rattle.graph_model.specs.declared.edge.Edge.{Edge}
use Rattle.graph_model.specs.declared.job.Job.{Job}
use Rattle.graph_model.specs.Programs.{Rules}
use Rattle.ports.specs.Disk.{DiskState, IsDisk}
use Rattle.ports.specs.Devices.{MetersGoOn}
use Rattle.partitioner.specs.declared.split.Split.{Split}
use Rattle.chunk_object.specs.Epochs.{Epoch}
use Rattle.chunk_file.specs.declared.index.Place.{Place}
use Rattle.store_reader.specs.Indexed.{lens_of}
use Rattle.store_reader.specs.declared.store.Outcome.{Outcome}
use Rattle.store_reader.specs.declared.store.Outcome.TheVariants.{Done, DiskFault}
use Rattle.epoch_seats.specs.Between.{IsBetweenEpochs}
use Rattle.phase_model.specs.JobTerms.{terms_of}
use Rattle.round_steps.specs.Epochs.{IsWhole, HasFewChunks}
use Rattle.round_steps.specs.Going.{IsStore, KeepsStore, SomeRose, NoCountRose}
use Rattle.round_steps.specs.Standing.{IsSound, HaveEdges, HasEdges, StandsBefore, IsBefore}
use Rattle.round_steps.specs.Damage.{IsEdgeDamage, NamesDamage}
use Rattle.round_steps.specs.Rounds.{StoresRound, MakesFirst}
use Rattle.round_loop.specs.declared.run.Start.TheVariants.{Fresh, At}
use Rattle.partitioner.specs.Splits.{split_for}
use Rattle.round_loop.specs.Starts.{IsDue}
use Rattle.round_loop.specs.Opening.{OpensEdges}
use Rattle.round_loop.specs.Keeping.{IsTold, Moment}
use Rattle.round_loop.specs.Coming.{ComesWell, HasCome}
use Rattle.round_loop.proofs.Reaching.{due_of_reached, reached_of_due}
use Rattle.round_loop.proofs.Stopping.{made_stands, one_more, more_since, none_yet}
use Rattle.round_steps.proofs.Kept.{meters_same}
use Rattle.round_loop.proofs.Keeping.{kept_same, kept_by_step, told_still, none_rose}
use Rattle.round_loop.proofs.Epochs.{through_none, of_first}

-- what is known of the first round
pub record FirstMade {D M : Type 0} (state : D → DiskState) (faults : M → ℕ) (rules : Rules) (job : Job) (index : List (List Place)) (from new : Moment D M) (outcome : Outcome) (changed took helped : ℕ) (split : Split) : Type 0 where
  pub store : IsStore state split new.beat new.store
  pub keeps : KeepsStore state split 0 (from.beat + 1) (outcome ≡ Done) from.store new.store
  pub meters : MetersGoOn faults from.meters new.meters
  pub beat : (from.beat ≤ new.beat) × (new.beat ≤ from.beat + 1)
  pub through : outcome ≡ Done → new.beat ≡ from.beat + 1
  pub few : helped ≤ 1024
  pub cause : outcome ≡ DiskFault → SomeRose state faults from.store new.store from.meters new.meters
  pub calm : outcome ≡ Done → NoCountRose state faults from.store new.store from.meters new.meters
  pub sound : (records : ℕ → ℕ → List Edge) → HaveEdges state job split index from.store.graphs.items records → IsSound outcome
  pub damaged : NamesDamage (IsEdgeDamage state job split index from.store.graphs.items) outcome
  pub epochs : MakesFirst rules.counts job index (outcome ≡ Done) from.seat new.seat took helped
  pub made : (edges : List Edge) → IsBefore state rules job split index edges 0 false from.store
      → StoresRound state rules split edges 0 (from.beat + 1) (outcome ≡ Done) changed from.store.values.items new.store.values.items

module _ {D M : Type 0} (state : D → DiskState) (faults : M → ℕ) (laws : (d : D) → IsDisk (state d)) (rules : Rules) (job : Job) (index : List (List Place)) (from : Moment D M) (ready : IsStore state (split_for job) from.beat from.store) where
  -- a round that stands already
  pub found : (round changed : ℕ) → IsBetweenEpochs from.seat → HasCome state faults rules job (At round changed) index (Unit {0}) round changed 0 0 from from []
  found round changed between = record {
    store = ready;
    keeps = kept_same state from.store;
    meters = meters_same faults from.meters;
    calm = λ _. none_rose state faults from.store from.meters;
    through = through_none (terms_of job) from.seat between;
    fronts = tt;
    few = All-nil HasFewChunks;
    since = omega arith;
    begun = λ sent. absurd (omega (arith, sent));
    most = omega arith;
    helpers = λ _. omega arith;
    whole = λ _. All-nil (IsWhole (terms_of job));
    many = λ _. omega arith;
    rises = (omega arith, omega arith);
    later = omega arith;
    sooner = omega arith;
    beat = λ _. omega arith;
    opened = λ _ made. absurd (omega (arith, made));
    well = λ edges has told good. record {
      are = tt;
      kept = λ _ e d within. record { read = good.read round changed refl e d within; images = λ had. had (omega arith) };
      behind = λ sent. absurd (omega (arith, sent));
      counted = λ _. good.counted round changed refl;
      due = due_of_reached rules job.vertices edges job.limit round (good.reached round changed refl);
      any_stop = λ e d within. none_yet rules job edges e from.beat (round + 1) (state (get_or from.store.values.items e d)) (laws (get_or from.store.values.items e d));
      since = λ e d within b t bytes after small before stop. absurd (omega (arith, after, small));
    };
  }

  module _ (new : Moment D M) (outcome : Outcome) (changed took helped : ℕ) (first : FirstMade state faults rules job index from new outcome changed took helped (split_for job)) where
    within_first : (e : ℕ) → e < job.engines → e < length from.store.values.items
    within_first e within = omega (arith, ready.values.all)

    reads_first : IsTold state from.store → (edges : List Edge) (e : ℕ) (d : D) → e < job.engines → StandsBefore rules (split_for job) edges 0 false e (state (get_or from.store.values.items e d)).bytes
    reads_first told edges e d within =
        let tells = told.values e d (within_first e within) in
        record { read = tells.0; told = tells.1; last = λ later. absurd (omega (arith, later)); earlier = λ is. absurd cc }

    before_first : (edges : List Edge) → HasEdges state job (split_for job) index from.store.graphs.items edges → IsTold state from.store → IsBefore state rules job (split_for job) index edges 0 false from.store
    before_first edges has told = record { has_edges = has; values_stand = reads_first told edges; lanes_tell = told.lanes; spills_tell = told.spills; may = λ is. absurd cc }

    due_first : (edges : List Edge) → IsDue rules job.vertices edges job.limit 0
    due_first edges = record { fixed = λ last is. omega arith; within = λ open_ended. omega arith; early = λ open_ended earlier below. absurd (omega (arith, below)) }

    opened_first : (edges : List Edge) → HasEdges state job (split_for job) index from.store.graphs.items edges → (x : Epoch) → x.lens ≡ lens_of index → OpensEdges rules job edges x
    opened_first edges has x is = λ cursor. ap (λ (f : ℕ → ℕ). f cursor) is ∙ has.lens cursor

    told_first : IsTold state from.store → IsTold state new.store
    told_first told = told_still state from.store new.store (kept_by_step state (split_for job) 0 (from.beat + 1) (outcome ≡ Done) from.store new.store first.keeps) told

    first_well : (edges : List Edge) → HasEdges state job (split_for job) index from.store.graphs.items edges → IsTold state from.store → ComesWell state rules job Fresh edges (outcome ≡ Done) 0 changed from new first.epochs.epochs
    first_well edges has told =
        let stores : StoresRound state rules (split_for job) edges 0 (from.beat + 1) (outcome ≡ Done) changed from.store.values.items new.store.values.items = first.made edges (before_first edges has told) in
        record {
          are = of_first rules job edges (λ count. count.lens ≡ lens_of index) rules.counts 1 (opened_first edges has) first.epochs.epochs first.epochs.few first.epochs.are;
          kept = λ done e d within.
              made_stands rules job edges e 0 0 (state (get_or from.store.values.items e d)) (state (get_or new.store.values.items e d)) (laws (get_or new.store.values.items e d))
              ((told_first told).values e d (omega (arith, within_first e within, first.keeps.values.going.many))) (stores.stored done e d (within_first e within));
          behind = λ sent. absurd (omega (arith, sent));
          counted = stores.changed_are;
          due = due_first edges;
          any_stop = λ e d within.
              one_more rules job edges e from.beat 0 (state (get_or from.store.values.items e d)) (state (get_or from.store.values.items e d)) 0 from.beat
              (omega arith) (omega arith) (omega arith) (laws (get_or from.store.values.items e d)) (ready.values.beats e d within)
              (reached_of_due rules job.vertices edges job.limit 0 (due_first edges)) (λ later had. absurd (omega (arith, later)))
              (none_yet rules job edges e from.beat 0 (state (get_or from.store.values.items e d)) (laws (get_or from.store.values.items e d)))
              (state (get_or new.store.values.items e d)) new.beat first.beat.1 (stores.any_moment e d (within_first e within));
          since = λ e d within.
              more_since rules job edges e from.beat 0 (state (get_or from.store.values.items e d)) (state (get_or from.store.values.items e d)) 0 from.beat
              (omega arith) (omega arith) (omega arith) (laws (get_or from.store.values.items e d)) (ready.values.beats e d within)
              (reached_of_due rules job.vertices edges job.limit 0 (due_first edges)) (λ later had. absurd (omega (arith, later)))
              (none_yet rules job edges e from.beat 0 (state (get_or from.store.values.items e d)) (laws (get_or from.store.values.items e d)))
              (state (get_or new.store.values.items e d)) new.beat first.beat.1 (stores.any_moment e d (within_first e within)) (λ b t bytes after small before stop. absurd (omega (arith, after, small)));
        }

    -- round 0
    pub began : HasCome state faults rules job Fresh index (outcome ≡ Done) 0 changed took helped from new first.epochs.epochs
    began = record {
      store = first.store;
      keeps = kept_by_step state (split_for job) 0 (from.beat + 1) (outcome ≡ Done) from.store new.store first.keeps;
      meters = first.meters;
      calm = first.calm;
      through = first.epochs.through;
      fronts = first.epochs.fronts;
      few = first.epochs.bounds;
      since = omega arith;
      begun = λ sent. absurd (omega (arith, sent));
      most = omega (arith, first.epochs.few);
      helpers = λ _. omega (arith, first.few);
      whole = λ done. (first.epochs.all done).0;
      many = λ done. omega (arith, (first.epochs.all done).1);
      rises = (first.beat.0, omega (arith, first.beat.1));
      later = omega (arith, first.beat.0);
      sooner = omega (arith, first.beat.1);
      beat = λ done. omega (arith, first.through done);
      opened = λ done made. first.keeps.values.opened done;
      well = λ edges has told good. first_well edges has told;
    }
