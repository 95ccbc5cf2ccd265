-- From what each desk came to, to what all workers have done.
use Rattle.std.proofs.Common.{◌≡◌, ◌≢◌, ℕ, ◌-◌, ◌^◌, ◌<◌, ◌≤◌, min, Vec, List, map, length, get_or, ap, sym, ◌∙◌, subst, inl, inr, ⊎_elim, arith}
use Rattle.std.specs.List.{All, range_with_len, sum_by}
use Rattle.std.specs.Vec.{with_items}
use Rattle.std.proofs.lemmas.List.{get_or-map, length-map}
use Rattle.graph_model.specs.Programs.{Rules}
use Rattle.ports.specs.Devices.{Each, NoneRose, SameCounts}
use Rattle.ports.specs.Disk.{DiskState, ContinuesUnder}
use Rattle.ports.specs.Stops.{Empties}
use Rattle.ports.specs.Faults.{Rose}
use Rattle.ports.proofs.Rising.{count_rose_before}
use Rattle.chunk_object.specs.History.{most_chunks}
use Rattle.chunk_object.specs.Epochs.{Terms, list_of}
use Rattle.chunk_object.specs.Duty.{IsDutiful}
use Rattle.chunk_cursor.specs.declared.view.View.{View}
use Rattle.chunk_cursor.specs.Hold.{Hold}
use Rattle.phase_model.specs.JobTerms.{terms_of}
use Rattle.worker_duty.specs.Views.{calls_of, MayWork}
use Rattle.store_reader.specs.declared.store.Outcome.{Outcome}
use Rattle.store_reader.specs.declared.store.Outcome.TheVariants.{Done, DiskFault}
use Rattle.store_reader.specs.Indexed.{lens_of}
use Rattle.replica_merge.specs.declared.replicas.Replicas.{Replicas}
use Rattle.replica_merge.specs.Accumulators.{split_of}
use Rattle.gather_phase.specs.declared.desk.GatherContext.{GatherContext}
use Rattle.gather_phase.specs.declared.desk.GatherDesk.{GatherDesk}
use Rattle.gather_phase.specs.declared.desk.GatherRoom.{GatherRoom}
use Rattle.gather_phase.specs.Rooms.{IsRoom}
use Rattle.gather_phase.specs.Phases.{MayStopBy}
use Rattle.worker_outcomes.specs.Lowest.{lowest_outcome}
use Rattle.worker_outcomes.specs.declared.epoch_end.EpochEnd.{EpochEnd}
use Rattle.worker_outcomes.proofs.Lowest.{all_done, is_of, own_outcome, lowest_meets}
use Rattle.epoch_seats.specs.Between.{HasEnded}
use Rattle.epoch_seats.specs.Seats.{AreNewSeats, AreSeats, epoch_with}
use Rattle.epoch_seats.specs.Made.{HasMadeEpoch}
use Rattle.epoch_seats.proofs.Worked as seated
use Rattle.epoch_seats.proofs.Made.{list_is}
use Rattle.list_moves.proofs.Moving.{given_back}
use Rattle.list_moves.proofs.Desks.{some_of, at_desk, same_len, listed, same_by}
use Rattle.gather_epoch.specs.Desks.{IsReady, HasWorkedAt}
use Rattle.gather_epoch.specs.Dealing.{seat_at, meter_at, replicas_at, spill_at, room_at, number_at, outcome_at, claims_at, admitted_at, AreDealt}
use Rattle.gather_epoch.specs.Gathering.{GoesOn, SomeCountRose, RoseOfOne, HasGatheredBy, HasGatheredAs, HaveGathered}

module _ {P D G M : Type 0} (rules : P → Rules) (state : D → DiskState) (faults : M → ℕ) (c : GatherContext P D G M) where
  abbrev the_terms : Terms
  the_terms = terms_of c.serving.job.now

  abbrev the_lens : ℕ → ℕ
  the_lens = lens_of c.serving.index.now

  -- Before the work.
  module _ (desks : List (GatherDesk D M)) (seats : List Hold) (meters : List M) (replicas : List Replicas) (emptied : List D) (rooms : List GatherRoom) (dealt : AreDealt desks seats meters replicas emptied rooms)
      (numbers : map number_at desks ≡ range_with_len 0 the_terms.engines) (before : ℕ) (news : AreNewSeats the_terms the_lens before c.serving.table.now seats) where
    all_desks : length desks ≡ the_terms.engines
    all_desks = seated.all_desks seat_at number_at the_terms the_lens before c.serving.table.now desks seats dealt.seats_are numbers news

    seat_is : (w : ℕ) (d : GatherDesk D M) → w < length desks → seat_at (get_or desks w d) ≡ get_or seats w (seat_at d)
    seat_is = seated.seat_is seat_at number_at the_terms the_lens before c.serving.table.now desks seats dealt.seats_are numbers news

    number_is : (w : ℕ) (d : GatherDesk D M) → w < length desks → number_at (get_or desks w d) ≡ w
    number_is = seated.number_is seat_at number_at the_terms the_lens before c.serving.table.now desks seats dealt.seats_are numbers news

    pub ready : All (λ r. split_of r ≡ c.serving.split.now) replicas → All (IsRoom c.serving.job.now) rooms → All (λ d. (state d).size ≡ 0) emptied → All (λ d. (state d).beat ≤ c.beat.now) emptied
        → (w : ℕ) (d : GatherDesk D M) → w < length desks → IsReady rules state c (get_or desks w d)
    ready splits all_rooms empty early w d below =
        let new = news.each w (seat_at d) (omega (arith, all_desks)) in
        let seat = seat_is w d below in
        let spill = at_desk spill_at desks emptied dealt.spills_are w d (spill_at d) below in
        record {
          table = ap (λ (s : Hold). s.table) seat ∙ new.of_table;
          number = number_is w d below ∙ sym (ap (λ (s : Hold). s.view.worker) seat ∙ new.is.number);
          story = ap (λ (s : Hold). s.view.story) seat ∙ new.story;
          may = subst (λ (s : Hold). MayWork the_terms the_lens s.view) (sym seat) new.may;
          split = ap split_of (at_desk replicas_at desks replicas dealt.replicas_are w d (replicas_at d) below) ∙ splits w (replicas_at d) (omega (arith, same_len replicas_at desks replicas dealt.replicas_are));
          room = subst (IsRoom c.serving.job.now) (sym (at_desk room_at desks rooms dealt.rooms_are w d (room_at d) below)) (all_rooms w (room_at d) (omega (arith, same_len room_at desks rooms dealt.rooms_are)));
          spill = subst (λ (s : D). ((state s).size ≡ 0) × ((state s).beat ≤ c.beat.now)) (sym spill) (empty w (spill_at d) (within w below), early w (spill_at d) (within w below));
        }
      where
        within : (w : ℕ) → w < length desks → w < length emptied
        within w below = omega (arith, same_len spill_at desks emptied dealt.spills_are)

    -- After it.
    module _ (done : List (GatherDesk D M)) (all : length done ≡ length desks) (worked : (w : ℕ) (d : GatherDesk D M) → w < length desks → HasWorkedAt rules state faults c (get_or desks w d) (get_or done w d))
        (seats' : List Hold) (meters' : List M) (replicas' : List Replicas) (spills' : List D) (rooms' : List GatherRoom) (back : AreDealt done seats' meters' replicas' spills' rooms') where
      pub tables : All (λ (seat : Hold). seat.table ≡ c.serving.table.now) seats'
      tables = seated.tables seat_at number_at the_terms the_lens before c.serving.table.now desks seats dealt.seats_are numbers news claims_at admitted_at (λ (d : GatherDesk D M). outcome_at d ≡ Done) done all (λ w d below. (worked w d below).table) (λ w d below. (worked w d below).duty) seats' back.seats_are

      pub are_seats : AreSeats the_terms.engines before seats'
      are_seats = seated.are_seats seat_at number_at the_terms the_lens before c.serving.table.now desks seats dealt.seats_are numbers news claims_at admitted_at (λ (d : GatherDesk D M). outcome_at d ≡ Done) done all (λ w d below. (worked w d below).table) (λ w d below. (worked w d below).duty) seats' back.seats_are

      pub splits' : All (λ r. split_of r ≡ c.serving.split.now) replicas'
      splits' = listed replicas_at (λ r. split_of r ≡ c.serving.split.now) done replicas' back.replicas_are (λ w d below. (worked w d (omega (arith, all))).split)

      pub beats' : All (λ d. (state d).beat ≤ c.beat.now) spills'
      beats' = listed spill_at (λ d. (state d).beat ≤ c.beat.now) done spills' back.spills_are (λ w d below. (worked w d (omega (arith, all))).beat)

      pub rooms_still : All (IsRoom c.serving.job.now) rooms'
      rooms_still = listed room_at (IsRoom c.serving.job.now) done rooms' back.rooms_are (λ w d below. (worked w d (omega (arith, all))).room)

      pub made : the_terms.engines ≤ 8 → the_terms.partitions ≤ 64 → ((cursor : ℕ) → the_lens cursor ≤ most_chunks) → (old new : View) → HasEnded the_terms old new (epoch_with the_lens seats')
          → (result : EpochEnd) → result.outcome ≡ lowest_outcome (map outcome_at done) → result.claims ≡ min (sum_by claims_at done) (2 ^ 64 - 1) → result.admitted ≡ min (sum_by admitted_at done) (2 ^ 64 - 1)
          → HasMadeEpoch the_terms the_lens (result.outcome ≡ Done) old new result.claims result.admitted (epoch_with the_lens seats')
      made few few_partitions small old new ended result outcome took helped =
          subst (λ (o : Outcome). HasMadeEpoch the_terms the_lens (o ≡ Done) old new result.claims result.admitted (epoch_with the_lens seats')) (sym outcome)
          (seated.made seat_at number_at the_terms the_lens before c.serving.table.now desks seats dealt.seats_are numbers news claims_at admitted_at (λ (d : GatherDesk D M). outcome_at d ≡ Done) done all (λ w d below. (worked w d below).table) (λ w d below. (worked w d below).duty) seats' back.seats_are (lowest_outcome (map outcome_at done) ≡ Done) (λ through w d below. sym (get_or-map outcome_at done w d Done below) ∙ all_done (map outcome_at done) through w Done (omega (arith, length-map done outcome_at)))
          few few_partitions small old new ended result.claims result.admitted took helped)

      -- the outcome of a worker that is not done is that of the epoch
      module _ (spills : List D) (later : (w : ℕ) (d : D) → w < length spills → ContinuesUnder c.beat.now (state (get_or spills w d)) (state (get_or emptied w d))) (all_spills : length spills ≡ the_terms.engines) where
        module _ (w : ℕ) (below : w < the_terms.engines) where
          pub within : w < length desks
          within = omega (arith, all_desks)

          within_done : w < length done
          within_done = omega (arith, all_desks, all)

          abbrev pub desk : GatherDesk D M
          desk = some_of desks w within

          module _ (m : M) (d : D) where
            meter_was : get_or meters w m ≡ meter_at (get_or desks w desk)
            meter_was = sym (at_desk meter_at desks meters dealt.meters_are w desk m within)

            meter_is : get_or meters' w m ≡ meter_at (get_or done w desk)
            meter_is = sym (at_desk meter_at done meters' back.meters_are w desk m within_done)

            spill_was : get_or emptied w d ≡ spill_at (get_or desks w desk)
            spill_was = sym (at_desk spill_at desks emptied dealt.spills_are w desk d within)

            spill_is : get_or spills' w d ≡ spill_at (get_or done w desk)
            spill_is = sym (at_desk spill_at done spills' back.spills_are w desk d within_done)

            step : ContinuesUnder c.beat.now (state (get_or spills w d)) (state (get_or emptied w d))
            step = later w d (omega (arith, all_spills))

            pub goes_on : GoesOn state faults (get_or meters w m) (get_or meters' w m) (get_or spills w d) (get_or spills' w d)
            goes_on =
                let cause = (worked w desk within).cause in
                record {
                  reads = omega (arith, ap faults meter_was, ap faults meter_is, cause.reads);
                  writes = omega (arith, step.faults, ap (λ (s : D). (state s).faults) spill_was, ap (λ (s : D). (state s).faults) spill_is, cause.writes);
                  told = λ bytes is.
                      let cut = step.told bytes is in
                      let now = (worked w desk within).told cut.0 (sym (ap (λ (s : D). (state s).bytes) spill_was) ∙ cut.1) in
                      (now.0, ap (λ (s : D). (state s).bytes) spill_is ∙ now.1);
                }

            pub rose : outcome_at (get_or done w desk) ≡ DiskFault → SomeCountRose state faults (get_or meters w m) (get_or meters' w m) (get_or spills w d) (get_or spills' w d)
            rose fault = ⊎_elim
                (λ read. inl (subst (λ (x : M). Rose (faults x) (faults (get_or meters' w m))) (sym meter_was) (subst (λ (x : M). Rose (faults (meter_at (get_or desks w desk))) (faults x)) (sym meter_is) read)))
                (λ written. inr (count_rose_before _ _ _ (omega (arith, step.faults, ap (λ (s : D). (state s).faults) spill_was)) (subst (λ (x : D). Rose (state (spill_at (get_or desks w desk))).faults (state x).faults) (sym spill_is) written)))
                ((worked w desk within).cause.rose fault)

            -- neither rose where the worker is done
            pub calm : outcome_at (get_or done w desk) ≡ Done → (faults (get_or meters' w m) ≡ faults (get_or meters w m)) × ((state (get_or spills' w d)).faults ≡ (state (get_or emptied w d)).faults)
            calm through =
                let none = (worked w desk within).cause.calm through in (
                  ap faults meter_is ∙ (none.0 ∙ sym (ap faults meter_was)),
                  ap (λ (s : D). (state s).faults) spill_is ∙ (none.1 ∙ sym (ap (λ (s : D). (state s).faults) spill_was)),
                )

            pub gathered_as : (r : Replicas) (o : Outcome) → HasGatheredAs rules state faults c (get_or meters w m) (get_or meters' w m) (get_or spills w d) (get_or spills' w d) (get_or replicas' w r) w (list_of (epoch_with the_lens seats') w) (get_or (map outcome_at done) w o)
            gathered_as r o =
                let at = worked w desk within in
                let outcome : get_or (map outcome_at done) w o ≡ outcome_at (get_or done w desk) = get_or-map outcome_at done w desk o within_done in
                let list : list_of (epoch_with the_lens seats') w ≡ calls_of (seat_at (get_or done w desk)).view =
                ap (λ (s : List Hold). list_of (epoch_with the_lens s) w) (sym back.seats_are) ∙ list_is seat_at done w desk within_done in
                let own_duty : outcome_at (get_or done w desk) ≡ Done → IsDutiful the_terms w (calls_of (seat_at (get_or done w desk)).view) =
                seated.own_duty seat_at number_at the_terms the_lens before c.serving.table.now desks seats dealt.seats_are numbers news claims_at admitted_at (λ (d : GatherDesk D M). outcome_at d ≡ Done) done all (λ w d below. (worked w d below).table) (λ w d below. (worked w d below).duty) seats' back.seats_are w desk within in
                record {
                  rose = λ fault. rose (sym outcome ∙ fault);
                  stopped = λ not. subst (MayStopBy rules state c) (sym outcome) (at.stopped (λ through. not (outcome ∙ through)));
                  dutiful = λ through. subst (IsDutiful the_terms w) (sym list) (own_duty (sym outcome ∙ through));
                  gathered = λ through.
                      let has = at.gathered (sym outcome ∙ through) in
                      subst (λ (x : Replicas). HasGatheredBy rules state c x (get_or spills' w d) (list_of (epoch_with the_lens seats') w)) (at_desk replicas_at done replicas' back.replicas_are w desk r within_done)
                      (subst (λ (x : D). HasGatheredBy rules state c (replicas_at (get_or done w desk)) x (list_of (epoch_with the_lens seats') w)) (sym spill_is)
                      (subst (HasGatheredBy rules state c (replicas_at (get_or done w desk)) (spill_at (get_or done w desk))) (sym list)
                      (record { within = has.within; width = has.width; summed = has.summed; counted = has.counted })));
                }

        -- the outcome of a worker whose outcome counts
        abbrev all_outcomes : List Outcome
        all_outcomes = map outcome_at done

        pub rose_of : lowest_outcome all_outcomes ≡ DiskFault → RoseOfOne state faults the_terms.engines meters meters' spills spills'
        rose_of fault =
            let lowest = is_of all_outcomes (λ (through : lowest_outcome all_outcomes ≡ Done). absurd (cc)) in
            let below : lowest.0 < the_terms.engines = omega (arith, lowest.1.within, length-map done outcome_at, all, all_desks) in
            (lowest.0, below, λ m d. rose lowest.0 below m d (own_outcome outcome_at done lowest.0 (desk lowest.0 below) lowest.1 ∙ fault))

        -- and none where all are
        pub none_rose : lowest_outcome all_outcomes ≡ Done → NoneRose state spills emptied → SameCounts faults meters meters' × NoneRose state spills spills'
        none_rose through cut = (
          same_by faults meters meters' (omega (arith, same_len meter_at done meters' back.meters_are, same_len meter_at desks meters dealt.meters_are, all))
              (λ w m less.
              let below : w < the_terms.engines = omega (arith, same_len meter_at desks meters dealt.meters_are, all_desks) in
              (calm w below m (spill_at (desk w below)) (is_done w below)).0),
          same_by (λ (s : D). (state s).faults) emptied spills' (omega (arith, same_len spill_at done spills' back.spills_are, same_len spill_at desks emptied dealt.spills_are, all))
              (λ w d less.
              let below : w < the_terms.engines = omega (arith, same_len spill_at desks emptied dealt.spills_are, all_desks) in
              (calm w below (meter_at (desk w below)) d (is_done w below)).1)
              ∙ cut,
        )
          where
            is_done : (w : ℕ) (below : w < the_terms.engines) → outcome_at (get_or done w (desk w below)) ≡ Done
            is_done w below =
                sym (get_or-map outcome_at done w (desk w below) Done (omega (arith, all_desks, all)))
                ∙ all_done all_outcomes through w Done (omega (arith, length-map done outcome_at, all_desks, all))

        pub stopped_by : lowest_outcome all_outcomes ≢ Done → MayStopBy rules state c (lowest_outcome all_outcomes)
        stopped_by = lowest_meets outcome_at done (MayStopBy rules state c) (λ w below. some_of done w below) (λ w below. (worked w (some_of done w below) (omega (arith, all))).stopped)

        pub have_gathered : (old new : View) (result : EpochEnd) → result.outcome ≡ lowest_outcome all_outcomes → HasMadeEpoch the_terms the_lens (result.outcome ≡ Done) old new result.claims result.admitted (epoch_with the_lens seats')
            → HaveGathered rules state faults c old new meters meters' spills spills' replicas' result
        have_gathered old new result outcome has_made = record {
          epoch = epoch_with the_lens seats';
          made = has_made;
          outcomes = all_outcomes;
          many = length-map done outcome_at ∙ (all ∙ all_desks);
          outcome_is = outcome;
          each = λ w m d r o below. gathered_as w below m d r o;
        }

-- Devices that were emptied in the list where they are kept.
module _ {D Z : Type 0} (state : D → DiskState) (number : ℕ) (spills : Vec D Z) (lent news : List D) (same : lent ≡ spills.items) (cut : Each state (Empties number) lent news) where
  news_are : (with_items spills news).items ≡ news
  news_are = given_back spills lent news same cut.many

  pub emptied_steps : (w : ℕ) (d : D) → w < length spills.items → ContinuesUnder number (state (get_or spills.items w d)) (state (get_or (with_items spills news).items w d))
  emptied_steps w d below =
      subst (λ l. ContinuesUnder number (state (get_or spills.items w d)) (state (get_or l w d))) (sym news_are)
      (subst (λ l. ContinuesUnder number (state (get_or l w d)) (state (get_or news w d))) same (cut.each w d (omega (arith, below, ap (λ l. length l) same))).goes_on)

  pub emptied_early : All (λ d. (state d).beat ≤ number) spills.items → All (λ d. (state d).beat ≤ number) (with_items spills news).items
  emptied_early early w d below =
      let within : w < length spills.items = omega (arith, below, ap (λ l. length l) news_are, cut.many, ap (λ l. length l) same) in
      (emptied_steps w d within).beat (early w d within)

  pub emptied_size : All (λ d. (state d).size ≡ 0) news → All (λ d. (state d).size ≡ 0) (with_items spills news).items
  emptied_size empty = subst (All (λ d. (state d).size ≡ 0)) (sym news_are) empty

  pub emptied_calm : NoneRose state lent news → NoneRose state spills.items (with_items spills news).items
  emptied_calm none = ap (map (λ (d : D). (state d).faults)) news_are ∙ (none ∙ ap (map (λ (d : D). (state d).faults)) same)
