-- One round more.
use Rattle.std.proofs.Common.{◌≡◌, ℕ, ◌+◌, ◌-◌, ◌<◌, ◌≤◌, Bool, true, nat_lt, Option, Some, List, [], ◌∷◌, ◌++◌, length, get_or, sym, ◌∙◌, ap, subst, arith}
use Rattle.std.proofs.lemmas.Bool.{and_parts}
use Rattle.std.proofs.lemmas.List.{length-append}
use Rattle.std.proofs.lemmas.List.Elements.{All-append}
use Rattle.graph_model.specs.declared.edge.Edge.{Edge}
use Rattle.graph_model.specs.declared.job.Job.{Job}
use Rattle.graph_model.specs.Programs.{Rules}
use Rattle.ports.specs.Disk.{DiskState, IsDisk}
use Rattle.ports.specs.Devices.{MetersGoOn}
use Rattle.partitioner.specs.declared.split.Split.{Split}
use Rattle.partitioner.specs.Splits.{split_for}
use Rattle.chunk_object.specs.Epochs.{Epoch}
use Rattle.chunk_file.specs.declared.index.Place.{Place}
use Rattle.store_model.specs.Kept.{own_of}
use Rattle.store_model.specs.Slots.{slot_of, slot_values, values_bytes}
use Rattle.store_reader.specs.Indexed.{lens_of}
use Rattle.store_reader.specs.declared.store.Outcome.{Outcome}
use Rattle.store_reader.specs.declared.store.Outcome.TheVariants.{Done, DiskFault}
use Rattle.phase_model.specs.JobTerms.{terms_of}
use Rattle.round_steps.specs.Epochs.{IsWhole, HasFewChunks, ForRound}
use Rattle.round_steps.specs.Going.{IsStore, KeepsStore, SomeRose, NoCountRose}
use Rattle.round_steps.specs.Standing.{IsSound, HaveEdges, HasEdges, StandsBefore, IsBefore}
use Rattle.round_steps.specs.Damage.{IsDamage, NamesDamage}
use Rattle.round_steps.specs.Rounds.{StoresRound, MakesEpochs, earlier_values}
use Rattle.epoch_laws.specs.Phases.{Opens, updates_of, sending_in}
use Rattle.scatter_epoch.specs.Sent.{RowsTell}
use Rattle.round_loop.specs.declared.run.Start.{Start}
use Rattle.round_loop.specs.declared.run.Start.TheVariants.{Fresh, At}
use Rattle.round_loop.specs.Starts.{first_made, first_sent, counts_first, IsDue}
use Rattle.round_loop.specs.Opening.{OpensEdges, OpensUpdates, AreEpochsOf, sends_changed}
use Rattle.round_loop.specs.Kept.{share, Gives, Stands}
use Rattle.round_loop.specs.Keeping.{IsTold, Moment}
use Rattle.round_loop.specs.Conditions.{MOST_ROUNDS}
use Rattle.round_loop.specs.Coming.{GoesOn, ComesWell, HasCome}
use Rattle.round_loop.proofs.Reaching.{next_is_due, reached_of_due}
use Rattle.round_loop.proofs.Stopping.{other_slot, made_stands, before_still, one_more, more_since}
use Rattle.round_steps.proofs.Kept.{meters_then}
use Rattle.round_loop.proofs.Keeping.{kept_then, kept_by_step, told_still, none_rose_then}
use Rattle.round_loop.proofs.Epochs.{through_then, fronts_then, are_then, of_round}

pub made_before_sent : (start : Start) → first_made start ≤ first_sent start
made_before_sent Fresh = omega arith
made_before_sent (At round changed) = omega arith

pub sent_later : (start : Start) → 1 ≤ first_sent start
sent_later Fresh = omega arith
sent_later (At round changed) = omega arith

same_told : (a b : List ℕ) → ◌≡◌ {A = Option (List ℕ)} (Some a) (Some b) → a ≡ b
same_told a b same = cc

lt_true : (a b : ℕ) → nat_lt a b ≡ true → a < b
lt_true a b is = grind (arith, is)

few_of : (Scatters : Epoch → Type 0) (Gathers : Epoch → Epoch → Type 0) (ys : List Epoch) → ForRound Scatters Gathers ys → length ys ≤ 2
few_of Scatters Gathers [] all = omega arith
few_of Scatters Gathers (x ∷ []) all = omega arith
few_of Scatters Gathers (x ∷ y ∷ []) all = omega arith
few_of Scatters Gathers (x ∷ y ∷ z ∷ ys) all = absurd all

-- what is known of one round more
pub record Stepped {D M : Type 0} (state : D → DiskState) (faults : M → ℕ) (rules : Rules) (job : Job) (index : List (List Place)) (round : ℕ) (changed_only : Bool) (t : ℕ) (mid new : Moment D M) (outcome : Outcome) (changed took helped : ℕ) (split : Split) : Type 0 where
  pub store : IsStore state split new.beat new.store
  pub keeps : KeepsStore state split round (mid.beat + 1) (outcome ≡ Done) mid.store new.store
  pub meters : MetersGoOn faults mid.meters new.meters
  pub beat : (mid.beat ≤ new.beat) × (new.beat ≤ mid.beat + 1)
  pub through : outcome ≡ Done → new.beat ≡ mid.beat + 1
  pub few : helped ≤ 1024
  pub cause : outcome ≡ DiskFault → SomeRose state faults mid.store new.store mid.meters new.meters
  pub calm : outcome ≡ Done → NoCountRose state faults mid.store new.store mid.meters new.meters
  pub sound : (records : ℕ → ℕ → List Edge) → HaveEdges state job split index mid.store.graphs.items records → RowsTell state mid.store.lanes.items → IsSound outcome
  pub damaged : NamesDamage (IsDamage state job split index mid.store.graphs.items new.store.lanes.items) outcome
  pub epochs : MakesEpochs state rules job split index round changed_only t mid.store (outcome ≡ Done) mid.seat new.seat took helped
  pub made : (edges : List Edge) → IsBefore state rules job split index edges round changed_only mid.store
      → StoresRound state rules split edges round (mid.beat + 1) (outcome ≡ Done) changed mid.store.values.items new.store.values.items

module _ {D M : Type 0} (state : D → DiskState) (faults : M → ℕ) (laws : (d : D) → IsDisk (state d)) (rules : Rules) (job : Job) (start : Start) (index : List (List Place)) where
  module _ (from mid new : Moment D M) (round changed took helped : ℕ) (epochs : List Epoch) (come : HasCome state faults rules job start index (Unit {0}) round changed took helped from mid epochs) where
    module _ (changed_only : Bool) (only : changed_only ≡ sends_changed rules job [] (first_sent start) (round + 1)) (outcome : Outcome) (changed' took' helped' : ℕ) (step : Stepped state faults rules job index (round + 1) changed_only (length epochs) mid new outcome changed' took' helped' (split_for job)) where
      abbrev pub more : List Epoch
      more = step.epochs.epochs

      module _ (edges : List Edge) (has : HasEdges state job (split_for job) index from.store.graphs.items edges) (told : IsTold state from.store) (well : ComesWell state rules job start edges (Unit {0}) round changed from mid epochs) where
        back : round + 1 - 1 ≡ round
        back = omega arith

        sent_for : changed_only ≡ true → (rules.absorbs ≡ true) × (first_sent start ≤ round)
        sent_for is =
            let both : (nat_lt (first_sent start) (round + 1) ≡ true) × (rules.absorbs ≡ true) = and_parts (nat_lt (first_sent start) (round + 1)) rules.absorbs (sym only ∙ is) in
            let below : first_sent start < round + 1 = lt_true (first_sent start) (round + 1) both.0 in
            (both.1, omega (arith, below))

        told_now : IsTold state mid.store
        told_now = told_still state from.store mid.store come.keeps told

        within_values : (e : ℕ) → e < job.engines → e < length mid.store.values.items
        within_values e within = omega (arith, come.store.values.all)

        reads : (e : ℕ) (d : D) → e < job.engines → StandsBefore rules (split_for job) edges (round + 1) changed_only e (state (get_or mid.store.values.items e d)).bytes
        reads e d within =
            let now : Gives rules job edges round e (state (get_or mid.store.values.items e d)) = (well.kept tt e d within).read in
            record {
              read = now.0;
              told = now.1;
              last = λ later.
                  let here : slot_of round ≡ 1 - slot_of (round + 1) = ap slot_of (sym back) ∙ other_slot (round + 1) (omega arith) in
                  ap (λ s. slot_values (own_of job e) s now.0) (sym here) ∙ now.2.values_are ∙ ap (λ r. values_bytes (share rules job edges r e)) (sym back);
              earlier = λ is.
                  let sent : first_sent start ≤ round = (sent_for is).1 in
                  let before : Gives rules job edges (round - 1) e (state (get_or mid.store.values.items e d)) = (well.behind sent e d within).read in
                  let same_read : before.0 ≡ now.0 = same_told before.0 now.0 (sym before.1 ∙ now.1) in
                  let two : round + 1 - 2 ≡ round - 1 = omega arith in
                  let same : slot_of (round - 1) ≡ slot_of (round + 1) = omega (arith, sent, sent_later start) in
                  ap (λ s. slot_values (own_of job e) s now.0) (sym same) ∙ ap (slot_values (own_of job e) (slot_of (round - 1))) (sym same_read) ∙ before.2.values_are ∙ ap (λ r. values_bytes (share rules job edges r e)) (sym two);
            }

        before : IsBefore state rules job (split_for job) index edges (round + 1) changed_only mid.store
        before = record {
          has_edges = subst (λ g. HasEdges state job (split_for job) index g.items edges) (sym come.keeps.graphs) has;
          values_stand = reads;
          lanes_tell = told_now.lanes;
          spills_tell = told_now.spills;
          may = λ is. ((sent_for is).0, omega (arith, (sent_for is).1, sent_later start));
        }

        stores : StoresRound state rules (split_for job) edges (round + 1) (mid.beat + 1) (outcome ≡ Done) changed' mid.store.values.items new.store.values.items
        stores = step.made edges before

        stands_before : (e : ℕ) (d : D) → e < job.engines → Stands rules job edges (first_made start) (round + 1 - 1) e (state (get_or from.store.values.items e d)) (state (get_or mid.store.values.items e d))
        stands_before e d within = subst (λ r. Stands rules job edges (first_made start) r e (state (get_or from.store.values.items e d)) (state (get_or mid.store.values.items e d))) (sym back) (well.kept tt e d within)

        told_after : IsTold state new.store
        told_after = told_still state mid.store new.store (kept_by_step state (split_for job) (round + 1) (mid.beat + 1) (outcome ≡ Done) mid.store new.store step.keeps) told_now

        due_next : GoesOn rules job.limit round changed → IsDue rules job.vertices edges job.limit (round + 1)
        due_next goes = next_is_due rules job edges round changed well.due (well.counted tt) goes

        opened : (x : Epoch) → x.lens ≡ lens_of index → OpensEdges rules job edges x
        opened x is = λ cursor. ap (λ (f : ℕ → ℕ). f cursor) is ∙ has.lens cursor

        abbrev Gathers : Epoch → Epoch → Type 0
        Gathers scatter gather = (those : List Edge) → IsBefore state rules job (split_for job) index those (round + 1) changed_only mid.store
            → Opens (updates_of job those (sending_in rules job.vertices those (round + 1) (earlier_values rules job.vertices those (round + 1) changed_only)) (length epochs) scatter) gather

        are_all : AreEpochsOf rules job edges (counts_first rules start) (first_sent start) (epochs ++ more)
        are_all =
            are_then rules job edges (counts_first rules start) (first_sent start) (round + 1) epochs more
            (omega (arith, come.many tt, come.since))
            well.are
            (of_round rules job edges (λ scatter. scatter.lens ≡ lens_of index) Gathers (first_sent start) (length epochs) (round + 1) opened
            (λ x y gathers. subst (λ b. OpensUpdates rules job edges b (length epochs) (round + 1) x y) only (gathers edges before)) more step.epochs.are)

        pub comes_well : GoesOn rules job.limit round changed → ComesWell state rules job start edges (outcome ≡ Done) (round + 1) changed' from new (epochs ++ more)
        comes_well goes = record {
          are = are_all;
          kept = λ done e d within.
              made_stands rules job edges e (first_made start) (round + 1) (state (get_or from.store.values.items e d)) (state (get_or new.store.values.items e d)) (laws (get_or new.store.values.items e d))
              (told_after.values e d (omega (arith, within_values e within, step.keeps.values.going.many))) (stores.stored done e d (within_values e within));
          behind = λ _ e d within.
              before_still rules job edges e (mid.beat + 1) (first_made start) (round + 1) (state (get_or from.store.values.items e d)) (state (get_or mid.store.values.items e d)) (state (get_or new.store.values.items e d))
              (omega arith) (laws (get_or new.store.values.items e d)) (stands_before e d within) (step.keeps.values.bytes e d (within_values e within)) (stores.any_moment e d (within_values e within));
          counted = stores.changed_are;
          due = due_next goes;
          any_stop = λ e d within.
              one_more rules job edges e from.beat (first_made start) (state (get_or from.store.values.items e d)) (state (get_or mid.store.values.items e d)) (round + 1) mid.beat
              come.rises.0 (omega (arith, come.since, made_before_sent start)) (omega (arith, come.beat tt)) (laws (get_or mid.store.values.items e d)) (come.store.values.beats e d within)
              (reached_of_due rules job.vertices edges job.limit (round + 1) (due_next goes)) (λ _. (stands_before e d within).images) (well.any_stop e d within)
              (state (get_or new.store.values.items e d)) new.beat step.beat.1 (stores.any_moment e d (within_values e within));
          since = λ e d within.
              more_since rules job edges e from.beat (first_made start) (state (get_or from.store.values.items e d)) (state (get_or mid.store.values.items e d)) (round + 1) mid.beat
              come.rises.0 (omega (arith, come.since, made_before_sent start)) (omega (arith, come.beat tt)) (laws (get_or mid.store.values.items e d)) (come.store.values.beats e d within)
              (reached_of_due rules job.vertices edges job.limit (round + 1) (due_next goes)) (λ _. (stands_before e d within).images) (well.any_stop e d within)
              (state (get_or new.store.values.items e d)) new.beat step.beat.1 (stores.any_moment e d (within_values e within)) (well.since e d within);
        }

      long : length (epochs ++ more) ≡ length epochs + length more
      long = length-append epochs more

      few_more : length more ≤ 2
      few_more = few_of _ _ more step.epochs.are

      -- the run has come to the next round
      pub comes_on : GoesOn rules job.limit round changed → round < MOST_ROUNDS → HasCome state faults rules job start index (outcome ≡ Done) (round + 1) changed' (took + took') (helped + helped') from new (epochs ++ more)
      comes_on goes below = record {
        store = step.store;
        keeps = kept_then state from.store mid.store new.store come.keeps (kept_by_step state (split_for job) (round + 1) (mid.beat + 1) (outcome ≡ Done) mid.store new.store step.keeps);
        meters = meters_then faults from.meters mid.meters new.meters come.meters step.meters;
        calm = λ done. none_rose_then state faults from.store mid.store new.store from.meters mid.meters new.meters (come.calm tt) (step.calm done);
        through = through_then (terms_of job) from.seat mid.seat new.seat took helped took' helped' epochs more come.through step.epochs.through;
        fronts = fronts_then (terms_of job) epochs more (come.whole tt) step.epochs.some step.epochs.fronts;
        few = All-append HasFewChunks epochs more come.few step.epochs.bounds;
        since = omega (arith, come.since);
        begun = λ _. omega (arith, long, come.many tt, step.epochs.some);
        most = omega (arith, long, come.many tt, few_more, come.since);
        helpers = λ done. omega (arith, come.helpers tt, step.few);
        whole = λ done. All-append (IsWhole (terms_of job)) epochs more (come.whole tt) (step.epochs.all done).0;
        many = λ done. omega (arith, long, come.many tt, (step.epochs.all done).1, come.since);
        rises = (omega (arith, come.rises.0, step.beat.0), omega (arith, come.beat tt, step.beat.1, below, come.since, made_before_sent start));
        later = omega (arith, come.beat tt, step.beat.0);
        sooner = omega (arith, come.beat tt, step.beat.1);
        beat = λ done. omega (arith, come.beat tt, step.through done);
        opened = λ done made. step.keeps.values.opened done;
        well = λ edges has told good. comes_well edges has told (come.well edges has told good) goes;
      }
