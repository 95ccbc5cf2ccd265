-- How a run ends.
use Rattle.std.proofs.Common.{◌≡◌, ◌≢◌, ℕ, ◌+◌, ◌-◌, ◌*◌, ◌<◌, ◌≤◌, Bool, true, false, if◌then◌else◌, None, List, [], ◌∷◌, ◌++◌, length, get_or, Result, Ok, Err, IsErrOf, inl, inr, refl, sym, ◌∙◌, ap, subst, arith}
use Rattle.std.proofs.lemmas.Bool.{cases_lt}
use Rattle.std.proofs.lemmas.List.{get_or_append_left, length-append, map-append}
use Rattle.graph_model.specs.declared.edge.Edge.{Edge}
use Rattle.graph_model.specs.declared.job.Job.{Job}
use Rattle.graph_model.specs.Programs.{Rules}
use Rattle.graph_model.specs.Rounds.{IsUnsettled, IsLastRound}
use Rattle.graph_model.proofs.RoundLemmas.{unsettled_has_no_last}
use Rattle.ports.specs.Disk.{DiskState, IsDisk}
use Rattle.ports.specs.Faults.{Rose}
use Rattle.ports.specs.Devices.{MetersGoOn, SameCounts}
use Rattle.chunk_object.specs.Epochs.{Epoch, all_calls}
use Rattle.chunk_cursor.specs.declared.view.View.{View}
use Rattle.chunk_file.specs.declared.index.Place.{Place}
use Rattle.store_reader.specs.declared.store.Store.{Store}
use Rattle.store_reader.specs.declared.store.Part.{Part}
use Rattle.store_reader.specs.declared.store.Outcome.{Outcome}
use Rattle.store_reader.specs.declared.store.Outcome.TheVariants as outcomes
use Rattle.epoch_seats.specs.Between.{IsBetweenEpochs}
use Rattle.phase_model.specs.JobTerms.{terms_of}
use Rattle.phase_model.specs.Taken.{claims, admissions}
use Rattle.std.specs.List.{flat_map}
use Rattle.round_steps.specs.Epochs.{GoesThrough}
use Rattle.round_steps.specs.Going.{IsStore, SomeRose, NoDeviceRose}
use Rattle.round_steps.specs.Standing.{IsSound, HaveEdges}
use Rattle.round_steps.specs.Damage.{IsDamage, NamesDamage}
use Rattle.round_loop.specs.declared.run.Start.{Start}
use Rattle.std.proofs.Math.Seq.{get_or-append_seam}
use Rattle.round_loop.specs.declared.run.Done.{Done}
use Rattle.round_loop.specs.declared.fault.RoundFault.{RoundFault}
use Rattle.round_loop.specs.declared.fault.RoundFault.TheVariants as faulty
use Rattle.round_loop.specs.Answers.{IsFaultOf}
use Rattle.partitioner.specs.Splits.{split_for}
use Rattle.round_loop.specs.Starts.{first_made, first_sent, counts_first, epochs_to, IsLastBegun}
use Rattle.round_loop.specs.Opening.{AreEpochsOf}
use Rattle.round_loop.specs.Kept.{StandsAfter}
use Rattle.round_loop.specs.Keeping.{IsTold, Moment, moment}
use Rattle.round_loop.specs.Coming.{EndsAt, ComesWell, HasCome}
use Rattle.round_loop.specs.Run.{OnMade, HasComeTo, HasRun}
use Rattle.round_loop.proofs.Reaching.{ends_at_last, ends_unsettled}
use Rattle.round_loop.proofs.Stopping.{none_yet}
use Rattle.round_steps.proofs.Kept.{meters_same}
use Rattle.round_loop.proofs.Keeping.{kept_same}
use Rattle.round_loop.proofs.Epochs.{through_none}
use Rattle.round_loop.proofs.Advancing.{made_before_sent, sent_later}

-- Outcomes as faults.
disk_fault_of : (outcome : Outcome) (fault : RoundFault) → IsFaultOf outcome fault → fault ≡ faulty.DiskFault → outcome ≡ outcomes.DiskFault
disk_fault_of outcomes.Done fault of is = absurd of
disk_fault_of outcomes.DiskFault fault of is = refl
disk_fault_of (outcomes.Damaged part engine place) fault of is = absurd cc
disk_fault_of outcomes.Memory fault of is = absurd cc

pub no_limit : (outcome : Outcome) (fault : RoundFault) → IsFaultOf outcome fault → fault ≡ faulty.RoundLimit → ⊥
no_limit outcomes.Done fault of is = of
no_limit outcomes.DiskFault fault of is = cc
no_limit (outcomes.Damaged part engine place) fault of is = cc
no_limit outcomes.Memory fault of is = cc

not_damaged : (outcome : Outcome) (fault : RoundFault) → IsFaultOf outcome fault → IsSound outcome → (part : Part) (engine place : ℕ) → fault ≡ faulty.Damaged part engine place → ⊥
not_damaged outcomes.Done fault of sound part engine place is = of
not_damaged outcomes.DiskFault fault of sound part engine place is = cc
not_damaged (outcomes.Damaged p e a) fault of sound part engine place is = sound
not_damaged outcomes.Memory fault of sound part engine place is = cc

-- such damage as the outcome names
abbrev IsFaultNaming : (IsDamaged : Part → (engine at : ℕ) → Type 0) → RoundFault → Type 0
IsFaultNaming IsDamaged faulty.RoundLimit = Unit {0}
IsFaultNaming IsDamaged faulty.DiskFault = Unit {0}
IsFaultNaming IsDamaged (faulty.Damaged part engine place) = IsDamaged part engine place
IsFaultNaming IsDamaged faulty.Memory = Unit {0}

named_damage : (IsDamaged : Part → (engine at : ℕ) → Type 0) (outcome : Outcome) (fault : RoundFault) → IsFaultOf outcome fault → NamesDamage IsDamaged outcome → (part : Part) (engine place : ℕ) → fault ≡ faulty.Damaged part engine place → IsDamaged part engine place
named_damage IsDamaged outcomes.Done fault of names part engine place is = absurd of
named_damage IsDamaged outcomes.DiskFault fault of names part engine place is = absurd cc
named_damage IsDamaged (outcomes.Damaged p e a) fault of names part engine place is = subst (IsFaultNaming IsDamaged) (sym of ∙ is) names
named_damage IsDamaged outcomes.Memory fault of names part engine place is = absurd cc

err_is : (a b : RoundFault) → IsErrOf {T = Done} (Err a) b → a ≡ b
err_is a b is = cc

-- nothing is said of a run that a fault has stopped
pub not_made : (P : Type 0) (fault : RoundFault) → (fault ≡ faulty.RoundLimit → ⊥) → OnMade (Err fault) P
not_made P faulty.RoundLimit by_fault = absurd (by_fault refl)
not_made P faulty.DiskFault by_fault = tt
not_made P (faulty.Damaged part engine place) by_fault = tt
not_made P faulty.Memory by_fault = tt

pub on_made_weaker : (P Q : Type 0) (result : Result Done RoundFault) → (P → Q) → OnMade result P → OnMade result Q
on_made_weaker P Q (Ok done) weaker made = weaker made
on_made_weaker P Q (Err faulty.RoundLimit) weaker made = weaker made
on_made_weaker P Q (Err faulty.DiskFault) weaker made = tt
on_made_weaker P Q (Err (faulty.Damaged part engine place)) weaker made = tt
on_made_weaker P Q (Err faulty.Memory) weaker made = tt

-- the numbers of epochs tell the round
same_round : (base first round r long : ℕ) → base + 2 * (round - 1 + 1 - first) < long → long ≤ base + 2 * (round + 1 - first) → base + 2 * (r - 1 + 1 - first) < long → long ≤ base + 2 * (r + 1 - first) → 1 ≤ round → 1 ≤ r → r ≡ round
same_round base first round r long a b c d some later = omega arith

pub no_epochs : (rules : Rules) (job : Job) (edges : List Edge) (counts : Bool) (first : ℕ) → AreEpochsOf rules job edges counts first []
no_epochs rules job edges true first = tt
no_epochs rules job edges false first = tt

module _ {D M : Type 0} (state : D → DiskState) (faults : M → ℕ) (rules : Rules) (job : Job) (start : Start) (index : List (List Place)) where
  module _ (done : Type 0) (round changed took helped : ℕ) (from new : Moment D M) (epochs : List Epoch) (come : HasCome state faults rules job start index done round changed took helped from new epochs) where
    stored_at : (edges : List Edge) → ComesWell state rules job start edges done round changed from new epochs → (r : ℕ) → IsLastBegun rules start epochs r → StandsAfter rules job edges state start (r - 1) from.store.values.items new.store.values.items
    stored_at edges well r last = elim (cases_lt round (first_sent start)) [
      | inl early ↦ absurd (omega (arith, early, last.begun, come.most))
      | inr sent ↦
          let same : r ≡ round
          = same_round (if counts_first rules start then 1 else 0) (first_sent start) round r (length epochs) (come.begun sent) come.most last.begun last.within (omega (arith, sent, sent_later start)) last.later in
          subst (λ k. StandsAfter rules job edges state start (k - 1) from.store.values.items new.store.values.items) (sym same) (well.behind sent)
    ]

    through : GoesThrough (terms_of job) from.seat new.seat (claims (flat_map all_calls epochs)) (admissions (flat_map all_calls epochs)) epochs
    through = record {
      story = come.through.story;
      splits = come.through.splits;
      held = come.through.held;
      between = come.through.between;
      whole = come.through.whole;
      claims_are = refl;
      admissions_are = refl;
    }

    -- at a fault
    pub ends_by_fault : (outcome : Outcome) (fault : RoundFault) → IsFaultOf outcome fault → (outcome ≡ outcomes.DiskFault → SomeRose state faults from.store new.store from.meters new.meters) →
        ((records : ℕ → ℕ → List Edge) → HaveEdges state job (split_for job) index from.store.graphs.items records → IsTold state from.store → IsSound outcome) →
        NamesDamage (IsDamage state job (split_for job) index from.store.graphs.items new.store.lanes.items) outcome → HasRun state faults rules job start index from new (Err fault)
    ends_by_fault outcome fault of rose sound names = record {
      store = come.store;
      keeps = come.keeps;
      meters = come.meters;
      rose = λ is. rose (disk_fault_of outcome fault of (err_is fault faulty.DiskFault is));
      calm = not_made (NoDeviceRose state from.store new.store) fault (no_limit outcome fault of);
      beats = (come.rises.0, omega (arith, come.rises.1));
      epochs = epochs;
      through = through;
      fronts = come.fronts;
      done = tt;
      counts = tt;
      limited = λ is. absurd (no_limit outcome fault of (err_is fault faulty.RoundLimit is));
      at_limit = λ is. absurd (no_limit outcome fault of (err_is fault faulty.RoundLimit is));
      sound = λ records have told part engine place is. not_damaged outcome fault of (sound records have told) part engine place (err_is fault (faulty.Damaged part engine place) is);
      damaged = λ part engine place is. named_damage (IsDamage state job (split_for job) index from.store.graphs.items new.store.lanes.items) outcome fault of names part engine place (err_is fault (faulty.Damaged part engine place) is);
      well = λ edges has told good.
          let well : ComesWell state rules job start edges done round changed from new epochs = come.well edges has told good in
          record {
            are = well.are;
            last = tt;
            unsettled = λ is. absurd (no_limit outcome fault of (err_is fault faulty.RoundLimit is));
            settles = λ _. refl;
            stored = stored_at edges well;
            any_stop = well.any_stop;
            since = well.since;
          };
    }

    module _ (is_done : done) (ends : EndsAt rules job.limit round changed) where
      -- at the last round
      pub ends_at : (rules.rounds ≡ None → (1 ≤ round) × (changed ≡ 0)) → HasRun state faults rules job start index from new (Ok (record { round = round; claims = took; admitted = helped }))
      ends_at settled = record {
        store = come.store;
        keeps = come.keeps;
        meters = come.meters;
        rose = λ is. absurd cc;
        calm = (come.calm is_done).1;
        beats = (come.rises.0, omega (arith, come.rises.1));
        epochs = epochs;
        through = through;
        fronts = come.fronts;
        done = (come.whole is_done, come.many is_done, come.beat is_done);
        counts = (come.through.claims_are, come.through.admissions_are);
        limited = λ is. absurd cc;
        at_limit = λ is. absurd cc;
        sound = λ records have told part engine place is. cc;
        damaged = λ part engine place is. absurd cc;
        well = λ edges has told good.
            let well : ComesWell state rules job start edges done round changed from new epochs = come.well edges has told good in
            let last : IsLastRound rules job.vertices edges job.limit round = ends_at_last rules job edges round changed well.due (well.counted is_done) ends settled in
            record {
              are = well.are;
              last = (last, well.kept is_done);
              unsettled = λ is. absurd cc;
              settles = λ unsettled. absurd (unsettled_has_no_last rules job.vertices edges job.limit round unsettled last);
              stored = stored_at edges well;
              any_stop = well.any_stop;
              since = well.since;
            };
      }

      -- the round was handed in or made
      come_to : HasComeTo state faults rules job start index round new
      come_to = elim (cases_lt round (first_made start)) [
        | inl handed ↦ inl (omega (arith, handed, made_before_sent start, come.since))
        | inr made ↦ inr (made, come.opened is_done made)
      ]

      -- at the limit
      pub ends_at_limit : rules.rounds ≡ None → (1 ≤ round → changed ≢ 0) → HasRun state faults rules job start index from new (Err faulty.RoundLimit)
      ends_at_limit open_ended some =
          let beyond : job.limit ≤ round = elim (ends.open_ended open_ended) [ inl beyond ↦ beyond | inr settled ↦ absurd (some settled.0 settled.1) ] in
          record {
            store = come.store;
            keeps = come.keeps;
            meters = come.meters;
            rose = λ is. absurd cc;
            calm = (come.calm is_done).1;
            beats = (come.rises.0, omega (arith, come.rises.1));
            epochs = epochs;
            through = through;
            fronts = come.fronts;
            done = tt;
            counts = tt;
            limited = λ _. (come.whole is_done, open_ended, omega (arith, beyond, come.beat is_done));
            at_limit = λ _. (round, beyond, come_to);
            sound = λ records have told part engine place is. cc;
            damaged = λ part engine place is. absurd cc;
            well = λ edges has told good.
                let well : ComesWell state rules job start edges done round changed from new epochs = come.well edges has told good in
                let found : IsUnsettled rules job.vertices edges job.limit × (round ≡ job.limit) = ends_unsettled rules job edges round changed well.due (well.counted is_done) open_ended ends some in
                record {
                  are = well.are;
                  last = tt;
                  unsettled = λ _. (found.0, subst (λ k. length epochs ≡ epochs_to rules start k) found.1 (come.many is_done), subst (λ k. StandsAfter rules job edges state start k from.store.values.items new.store.values.items) found.1 (well.kept is_done));
                  settles = λ _. refl;
                  stored = stored_at edges well;
                  any_stop = well.any_stop;
                  since = well.since;
                };
          }

  -- before it has begun
  pub not_begun : ((d : D) → IsDisk (state d)) → (from : Moment D M) → IsStore state (split_for job) from.beat from.store → IsBetweenEpochs from.seat → HasRun state faults rules job start index from from (Err faulty.Memory)
  not_begun laws from ready between = record {
    store = ready;
    keeps = kept_same state from.store;
    meters = meters_same faults from.meters;
    rose = λ is. absurd cc;
    calm = tt;
    beats = (omega arith, omega arith);
    epochs = [];
    through = through_none (terms_of job) from.seat between;
    fronts = tt;
    done = tt;
    counts = tt;
    limited = λ is. absurd cc;
    at_limit = λ is. absurd cc;
    sound = λ records have told part engine place is. cc;
    damaged = λ part engine place is. absurd cc;
    well = λ edges has told good. record {
      are = no_epochs rules job edges (counts_first rules start) (first_sent start);
      last = tt;
      unsettled = λ is. absurd cc;
      settles = λ _. refl;
      stored = λ r last. absurd (omega (arith, last.begun));
      any_stop = λ e d within. none_yet rules job edges e from.beat (first_made start) (state (get_or from.store.values.items e d)) (laws (get_or from.store.values.items e d));
      since = λ e d within b t bytes after small before stop. absurd (omega (arith, after, small));
    };
  }

  -- with a meter more, which no round is handed
  module _ (old_store new_store : Store D M) (olds news : List M) (own : M) (old_seat new_seat : View) (old_beat new_beat : ℕ) (result : Result Done RoundFault)
      (run : HasRun state faults rules job start index (moment old_store olds old_seat old_beat) (moment new_store news new_seat new_beat) result) where
    old_at : (k : ℕ) (m : M) → k < length olds → get_or (olds ++ own ∷ []) k m ≡ get_or olds k m
    old_at k m within = get_or_append_left olds (own ∷ []) m k within

    new_at : (k : ℕ) (m : M) → k < length olds → get_or (news ++ own ∷ []) k m ≡ get_or news k m
    new_at k m within = get_or_append_left news (own ∷ []) m k (omega (arith, within, run.meters.many))

    longer : (xs : List M) → length (xs ++ own ∷ []) ≡ length xs + 1
    longer xs = length-append xs (own ∷ [])

    meters_with : MetersGoOn faults (olds ++ own ∷ []) (news ++ own ∷ [])
    meters_with = record {
      many = longer news ∙ ap (λ n. n + 1) run.meters.many ∙ sym (longer olds);
      later = λ k m within. elim (cases_lt k (length olds)) [
        | inl inside ↦ subst (λ a. faults a ≤ faults (get_or (news ++ own ∷ []) k m)) (sym (old_at k m inside)) (subst (λ a. faults (get_or olds k m) ≤ faults a) (sym (new_at k m inside)) (run.meters.later k m inside))
        | inr last ↦
            let here : k ≡ length olds = omega (arith, within, longer olds, last) in
            let there : k ≡ length news = here ∙ sym run.meters.many in
            let old_own : get_or (olds ++ own ∷ []) k m ≡ own = ap (λ n. get_or (olds ++ own ∷ []) n m) here ∙ get_or-append_seam olds own [] m in
            let new_own : get_or (news ++ own ∷ []) k m ≡ own = ap (λ n. get_or (news ++ own ∷ []) n m) there ∙ get_or-append_seam news own [] m in
            let same : faults (get_or (olds ++ own ∷ []) k m) ≡ faults (get_or (news ++ own ∷ []) k m) = ap faults (old_own ∙ sym new_own) in
            omega (arith, same)
      ];
    }

    rose_with : SomeRose state faults old_store new_store olds news → SomeRose state faults old_store new_store (olds ++ own ∷ []) (news ++ own ∷ [])
    rose_with rose = elim rose [
      | inl meter ↦ inl (
        meter.0,
        omega (arith, meter.1, longer olds),
        λ m.
            subst (λ a. Rose (faults a) (faults (get_or (news ++ own ∷ []) meter.0 m))) (sym (old_at meter.0 m meter.1)) (subst (λ a. Rose (faults (get_or olds meter.0 m)) (faults a)) (sym (new_at meter.0 m meter.1)) (meter.2 m)),
      )
      | inr device ↦ inr device
    ]

    pub calm_with : OnMade result (SameCounts faults olds news) → OnMade result (SameCounts faults (olds ++ own ∷ []) (news ++ own ∷ []))
    calm_with calm = on_made_weaker (SameCounts faults olds news) (SameCounts faults (olds ++ own ∷ []) (news ++ own ∷ [])) result (λ still. map-append faults news (own ∷ []) ∙ (ap (λ counts. counts ++ faults own ∷ []) still ∙ sym (map-append faults olds (own ∷ [])))) calm

    pub run_with : HasRun state faults rules job start index (moment old_store (olds ++ own ∷ []) old_seat old_beat) (moment new_store (news ++ own ∷ []) new_seat new_beat) result
    run_with = record {
      store = run.store;
      keeps = run.keeps;
      meters = meters_with;
      rose = λ is. rose_with (run.rose is);
      calm = run.calm;
      beats = run.beats;
      epochs = run.epochs;
      through = run.through;
      fronts = run.fronts;
      done = run.done;
      counts = run.counts;
      limited = run.limited;
      at_limit = run.at_limit;
      sound = run.sound;
      damaged = run.damaged;
      well = λ edges has told good.
          let well = run.well edges has told good in
          record { are = well.are; last = well.last; unsettled = well.unsettled; settles = well.settles; stored = well.stored; any_stop = well.any_stop; since = well.since };
    }
