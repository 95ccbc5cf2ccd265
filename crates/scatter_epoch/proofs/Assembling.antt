-- From what each desk came to, to what all workers have done.
use Rattle.std.proofs.Common.{◌≡◌, ◌≢◌, ℕ, ◌-◌, ◌^◌, ◌<◌, ◌≤◌, min, List, [], map, length, get_or, ap, sym, ◌∙◌, subst, ◌⊎◌, inl, inr, ⊎_elim, arith}
use Rattle.std.specs.Prelude.{Vec}
use Rattle.std.specs.Global.{Global}
use Rattle.std.specs.List.{All, range_with_len, sum_by}
use Rattle.std.proofs.lemmas.List.{get_or-map, length-map}
use Rattle.graph_model.specs.Programs.{Rules}
use Rattle.ports.specs.Disk.{DiskState}
use Rattle.ports.specs.Faults.{Rose}
use Rattle.ports.specs.Devices.{AreDevices, AreRows, OneRose, NoneRose, MetersGoOn, NoRowRose, SameCounts}
use Rattle.chunk_object.specs.History.{most_chunks}
use Rattle.chunk_object.specs.Epochs.{Terms, list_of}
use Rattle.chunk_object.specs.Duty.{IsDutiful}
use Rattle.chunk_cursor.specs.declared.view.View.{View}
use Rattle.chunk_cursor.specs.Hold.{Hold}
use Rattle.phase_model.specs.JobTerms.{terms_of}
use Rattle.phase_model.specs.declared.placed.Placed.{Placed}
use Rattle.worker_duty.specs.Views.{calls_of, MayWork}
use Rattle.store_reader.specs.declared.store.Outcome.{Outcome}
use Rattle.store_reader.specs.declared.store.Outcome.TheVariants.{Done, DiskFault, Memory}
use Rattle.store_reader.specs.Indexed.{lens_of}
use Rattle.update_lanes.specs.Lanes.{IsWithin, GoOn}
use Rattle.scatter_phase.specs.declared.desk.ScatterContext.{ScatterContext}
use Rattle.scatter_phase.specs.declared.desk.ScatterDesk.{ScatterDesk}
use Rattle.scatter_phase.specs.declared.desk.ScatterRoom.{ScatterRoom}
use Rattle.scatter_phase.specs.Rooms.{IsRoom}
use Rattle.scatter_phase.specs.Phases.{MayStopBy}
use Rattle.scatter_phase.specs.Scattered.{HasScattered}
use Rattle.chunk_file.specs.declared.index.Place.{Place}
use Rattle.worker_outcomes.specs.Lowest.{lowest_outcome}
use Rattle.worker_outcomes.specs.declared.epoch_end.EpochEnd.{EpochEnd}
use Rattle.worker_outcomes.proofs.Lowest.{all_done, is_of, own_outcome, lowest_meets}
use Rattle.epoch_seats.specs.Between.{HasEnded}
use Rattle.epoch_seats.specs.Seats.{AreNewSeats, AreSeats, epoch_with}
use Rattle.epoch_seats.specs.Made.{HasMadeEpoch}
use Rattle.epoch_seats.proofs.Worked as seated
use Rattle.epoch_seats.proofs.Made.{list_is}
use Rattle.list_moves.proofs.Desks.{some_of, at_desk, same_len, listed, same_by}
use Rattle.scatter_epoch.specs.Desks.{IsReady, HasWorkedAt}
use Rattle.scatter_epoch.specs.Dealing.{seat_at, meter_at, lanes_at, places_on, room_at, number_at, outcome_at, claims_at, admitted_at, AreDealt}
use Rattle.scatter_epoch.specs.Scattering.{RowsGoOn, SomeRose, RoseOfOne, HasScatteredAs, HaveScattered}
use Rattle.scatter_epoch.specs.Sent.{HaveSent}

module _ {P D G M : Type 0} (rules : P → Rules) (state : D → DiskState) (faults : M → ℕ) (c : ScatterContext P D G M) where
  abbrev the_terms : Terms
  the_terms = terms_of c.serving.job.now

  abbrev the_lens : ℕ → ℕ
  the_lens = lens_of c.serving.index.now

  -- Before the work.
  module _ (desks : List (ScatterDesk D M)) (seats : List Hold) (meters : List M) (rows : List (Vec D Global)) (rooms : List ScatterRoom) (dealt : AreDealt desks seats meters rows rooms)
      (numbers : map number_at desks ≡ range_with_len 0 the_terms.engines) (before : ℕ) (news : AreNewSeats the_terms the_lens before c.serving.table.now seats) where
    all_desks : length desks ≡ the_terms.engines
    all_desks = seated.all_desks seat_at number_at the_terms the_lens before c.serving.table.now desks seats dealt.seats_are numbers news

    seat_is : (w : ℕ) (d : ScatterDesk D M) → w < length desks → seat_at (get_or desks w d) ≡ get_or seats w (seat_at d)
    seat_is = seated.seat_is seat_at number_at the_terms the_lens before c.serving.table.now desks seats dealt.seats_are numbers news

    number_is : (w : ℕ) (d : ScatterDesk D M) → w < length desks → number_at (get_or desks w d) ≡ w
    number_is = seated.number_is seat_at number_at the_terms the_lens before c.serving.table.now desks seats dealt.seats_are numbers news

    pub ready : All (IsRoom c.serving.job.now) rooms → All (λ d. (places_on d).items ≡ []) desks → AreRows state c.serving.job.now.engines c.beat.now rows
        → (w : ℕ) (d : ScatterDesk D M) → w < length desks → IsReady rules state c (get_or desks w d)
    ready all_rooms none lanes w d below =
        let new = news.each w (seat_at d) (omega (arith, all_desks)) in
        let seat = seat_is w d below in
        let row = at_desk lanes_at desks rows dealt.lanes_are w d (lanes_at d) below in
        record {
          table = ap (λ (s : Hold). s.table) seat ∙ new.of_table;
          number = number_is w d below ∙ sym (ap (λ (s : Hold). s.view.worker) seat ∙ new.is.number);
          story = ap (λ (s : Hold). s.view.story) seat ∙ new.story;
          may = subst (λ (s : Hold). MayWork the_terms the_lens s.view) (sym seat) new.may;
          room = subst (IsRoom c.serving.job.now) (sym (at_desk room_at desks rooms dealt.rooms_are w d (room_at d) below)) (all_rooms w (room_at d) (omega (arith, same_len room_at desks rooms dealt.rooms_are)));
          places = none w d below;
          lanes = subst (λ (r : Vec D Global). AreDevices state c.serving.job.now.engines c.beat.now r.items) (sym row) (lanes.each w (lanes_at d) (omega (arith, all_desks)));
        }

    -- After it.
    module _ (done : List (ScatterDesk D M)) (all : length done ≡ length desks) (worked : (w : ℕ) (d : ScatterDesk D M) → w < length desks → HasWorkedAt rules state faults c (get_or desks w d) (get_or done w d))
        (seats' : List Hold) (meters' : List M) (rows' : List (Vec D Global)) (rooms' : List ScatterRoom) (back : AreDealt done seats' meters' rows' rooms') where
      pub tables : All (λ (seat : Hold). seat.table ≡ c.serving.table.now) seats'
      tables = seated.tables seat_at number_at the_terms the_lens before c.serving.table.now desks seats dealt.seats_are numbers news claims_at admitted_at (λ (d : ScatterDesk D M). outcome_at d ≡ Done) done all (λ w d below. (worked w d below).table) (λ w d below. (worked w d below).duty) seats' back.seats_are

      pub are_seats : AreSeats the_terms.engines before seats'
      are_seats = seated.are_seats seat_at number_at the_terms the_lens before c.serving.table.now desks seats dealt.seats_are numbers news claims_at admitted_at (λ (d : ScatterDesk D M). outcome_at d ≡ Done) done all (λ w d below. (worked w d below).table) (λ w d below. (worked w d below).duty) seats' back.seats_are

      pub rooms_still : All (IsRoom c.serving.job.now) rooms'
      rooms_still = listed room_at (IsRoom c.serving.job.now) done rooms' back.rooms_are (λ w d below. (worked w d (omega (arith, all))).room)

      -- the worker of a desk, after the work
      pub number_still : (w : ℕ) (d : ScatterDesk D M) → w < length done → number_at (get_or done w d) ≡ w
      number_still w d below = let within : w < length desks = omega (arith, all) in (worked w d within).number ∙ number_is w d within

      pub made : the_terms.engines ≤ 8 → the_terms.partitions ≤ 64 → ((cursor : ℕ) → the_lens cursor ≤ most_chunks) → (old new : View) → HasEnded the_terms old new (epoch_with the_lens seats')
          → (took helped : ℕ) → took ≡ min (sum_by claims_at done) (2 ^ 64 - 1) → helped ≡ min (sum_by admitted_at done) (2 ^ 64 - 1)
          → HasMadeEpoch the_terms the_lens (lowest_outcome (map outcome_at done) ≡ Done) old new took helped (epoch_with the_lens seats')
      made = seated.made seat_at number_at the_terms the_lens before c.serving.table.now desks seats dealt.seats_are numbers news claims_at admitted_at (λ (d : ScatterDesk D M). outcome_at d ≡ Done) done all (λ w d below. (worked w d below).table) (λ w d below. (worked w d below).duty) seats' back.seats_are (lowest_outcome (map outcome_at done) ≡ Done) (λ through w d below. sym (get_or-map outcome_at done w d Done below) ∙ all_done (map outcome_at done) through w Done (omega (arith, length-map done outcome_at)))

      module _ (w : ℕ) (below : w < the_terms.engines) where
        within : w < length desks
        within = omega (arith, all_desks)

        within_done : w < length done
        within_done = omega (arith, all_desks, all)

        desk : ScatterDesk D M
        desk = some_of desks w within

        module _ (m : M) (row : Vec D Global) where
          meter_was : get_or meters w m ≡ meter_at (get_or desks w desk)
          meter_was = sym (at_desk meter_at desks meters dealt.meters_are w desk m within)

          meter_is : get_or meters' w m ≡ meter_at (get_or done w desk)
          meter_is = sym (at_desk meter_at done meters' back.meters_are w desk m within_done)

          row_was : get_or rows w row ≡ lanes_at (get_or desks w desk)
          row_was = sym (at_desk lanes_at desks rows dealt.lanes_are w desk row within)

          row_is : get_or rows' w row ≡ lanes_at (get_or done w desk)
          row_is = sym (at_desk lanes_at done rows' back.lanes_are w desk row within_done)

          read_later : faults (get_or meters w m) ≤ faults (get_or meters' w m)
          read_later = let cause = (worked w desk within).cause.reads in omega (arith, ap faults meter_was, ap faults meter_is, cause)

          lanes_later : GoOn state c.beat.now (get_or rows w row).items (get_or rows' w row).items
          lanes_later =
              subst (λ (r : Vec D Global). GoOn state c.beat.now r.items (get_or rows' w row).items) (sym row_was)
              (subst (λ (r : Vec D Global). GoOn state c.beat.now (lanes_at (get_or desks w desk)).items r.items) (sym row_is) (worked w desk within).lanes)

          rose : outcome_at (get_or done w desk) ≡ DiskFault → SomeRose state faults (get_or meters w m) (get_or meters' w m) (get_or rows w row) (get_or rows' w row)
          rose fault = ⊎_elim
              (λ read. inl (subst (λ (x : M). Rose (faults x) (faults (get_or meters' w m))) (sym meter_was) (subst (λ (x : M). Rose (faults (meter_at (get_or desks w desk))) (faults x)) (sym meter_is) read)))
              (λ written. inr (subst (λ (r : Vec D Global). OneRose state r.items (get_or rows' w row).items) (sym row_was) (subst (λ (r : Vec D Global). OneRose state (lanes_at (get_or desks w desk)).items r.items) (sym row_is) written)))
              ((worked w desk within).cause.rose fault)

          -- where its worker is done, none of its counts rose
          read_calm : outcome_at (get_or done w desk) ≡ Done → faults (get_or meters' w m) ≡ faults (get_or meters w m)
          read_calm through = ap faults meter_is ∙ (((worked w desk within).cause.calm through).0 ∙ sym (ap faults meter_was))

          lanes_calm : outcome_at (get_or done w desk) ≡ Done → NoneRose state (get_or rows w row).items (get_or rows' w row).items
          lanes_calm through =
              subst (λ (r : Vec D Global). NoneRose state r.items (get_or rows' w row).items) (sym row_was)
              (subst (λ (r : Vec D Global). NoneRose state (lanes_at (get_or desks w desk)).items r.items) (sym row_is) ((worked w desk within).cause.calm through).1)

          pub scattered_as : (o : Outcome) → HasScatteredAs rules state faults c (get_or meters w m) (get_or meters' w m) (get_or rows w row) (get_or rows' w row) w (list_of (epoch_with the_lens seats') w) (get_or (map outcome_at done) w o)
          scattered_as o =
              let at = worked w desk within in
              let outcome : get_or (map outcome_at done) w o ≡ outcome_at (get_or done w desk) = get_or-map outcome_at done w desk o within_done in
              let list : list_of (epoch_with the_lens seats') w ≡ calls_of (seat_at (get_or done w desk)).view =
              ap (λ (s : List Hold). list_of (epoch_with the_lens s) w) (sym back.seats_are) ∙ list_is seat_at done w desk within_done in
              let own_duty : outcome_at (get_or done w desk) ≡ Done → IsDutiful the_terms w (calls_of (seat_at (get_or done w desk)).view) =
              seated.own_duty seat_at number_at the_terms the_lens before c.serving.table.now desks seats dealt.seats_are numbers news claims_at admitted_at (λ (d : ScatterDesk D M). outcome_at d ≡ Done) done all (λ w d below. (worked w d below).table) (λ w d below. (worked w d below).duty) seats' back.seats_are w desk within in
              record {
                rose = λ fault. rose (sym outcome ∙ fault);
                stopped = λ not. subst (MayStopBy rules state c) (sym outcome) (at.stopped (λ through. not (outcome ∙ through)));
                dutiful = λ through. subst (IsDutiful the_terms w) (sym list) (own_duty (sym outcome ∙ through));
              }

      abbrev all_outcomes : List Outcome
      all_outcomes = map outcome_at done

      pub rose_of : lowest_outcome all_outcomes ≡ DiskFault → RoseOfOne state faults the_terms.engines meters meters' rows rows'
      rose_of fault =
          let lowest = is_of all_outcomes (λ (through : lowest_outcome all_outcomes ≡ Done). absurd (cc)) in
          let below : lowest.0 < the_terms.engines = omega (arith, lowest.1.within, length-map done outcome_at, all, all_desks) in
          (lowest.0, below, λ m row. rose lowest.0 below m row (own_outcome outcome_at done lowest.0 (desk lowest.0 below) lowest.1 ∙ fault))

      pub stopped_by : lowest_outcome all_outcomes ≢ Done → MayStopBy rules state c (lowest_outcome all_outcomes)
      stopped_by = lowest_meets outcome_at done (MayStopBy rules state c) (λ w below. some_of done w below) (λ w below. (worked w (some_of done w below) (omega (arith, all))).stopped)

      pub counts_go_on : MetersGoOn faults meters meters'
      counts_go_on = record {
        many = same_len meter_at done meters' back.meters_are ∙ (all ∙ sym (same_len meter_at desks meters dealt.meters_are));
        later = λ w m below.
            let inside : w < the_terms.engines = omega (arith, same_len meter_at desks meters dealt.meters_are, all_desks) in
            let here : w < length desks = omega (arith, all_desks) in
            read_later w inside m (lanes_at (some_of desks w here));
      }

      pub rows_go_on : RowsGoOn state c.beat.now rows rows'
      rows_go_on = record {
        many = same_len lanes_at done rows' back.lanes_are ∙ (all ∙ sym (same_len lanes_at desks rows dealt.lanes_are));
        each = λ w row below.
            let inside : w < the_terms.engines = omega (arith, same_len lanes_at desks rows dealt.lanes_are, all_desks) in
            let here : w < length desks = omega (arith, all_desks) in
            lanes_later w inside (meter_at (some_of desks w here)) row;
      }

      done_at : lowest_outcome all_outcomes ≡ Done → (w : ℕ) (d : ScatterDesk D M) → w < length done → outcome_at (get_or done w d) ≡ Done
      done_at through w d below = sym (get_or-map outcome_at done w d Done below) ∙ all_done all_outcomes through w Done (omega (arith, length-map done outcome_at))

      pub none_rose : lowest_outcome all_outcomes ≡ Done → SameCounts faults meters meters' × NoRowRose state rows rows'
      none_rose through = (
        same_by faults meters meters' counts_go_on.many (λ w m below.
            let inside : w < the_terms.engines = omega (arith, same_len meter_at desks meters dealt.meters_are, all_desks) in
            read_calm w inside m (lanes_at (desk w inside)) (done_at through w (desk w inside) (omega (arith, all, all_desks)))),
        same_by (λ (row : Vec D Global). map (λ (x : D). (state x).faults) row.items) rows rows' rows_go_on.many (λ w row below.
            let inside : w < the_terms.engines = omega (arith, same_len lanes_at desks rows dealt.lanes_are, all_desks) in
            lanes_calm w inside (meter_at (desk w inside)) row (done_at through w (desk w inside) (omega (arith, all, all_desks)))),
      )

      pub within_places : (lists : List (Vec Placed Global)) → map places_on done ≡ lists → the_terms.engines ≤ 8 → c.serving.split.now.parts ≤ 64 → All (λ (own : Vec Placed Global). All (IsWithin 8 64) own.items) lists
      within_places lists are few few_parts =
          listed places_on (λ (own : Vec Placed Global). All (IsWithin 8 64) own.items) done lists are (λ w d below.
          let own = (worked w d (omega (arith, all))).within in
          λ k q inside. let place = own k q inside in record { engine = omega (arith, place.engine, few); partition = omega (arith, place.partition, few_parts) })

      pub each_scattered : lowest_outcome all_outcomes ≡ Done → (w : ℕ) (d : ScatterDesk D M) → w < length done → HasScattered rules state c (get_or done w d)
      each_scattered through w d below =
          (worked w d (omega (arith, all))).scattered (done_at through w d below)

      pub wide : AreRows state c.serving.job.now.engines c.beat.now rows → (w : ℕ) (row : Vec D Global) → w < length rows' → length (get_or rows' w row).items ≡ c.serving.job.now.engines
      wide lanes w row below =
          let there : w < length rows = omega (arith, rows_go_on.many) in
          (rows_go_on.each w row there).many ∙ (lanes.each w row (omega (arith, there, lanes.all))).all

      -- the outcome of the epoch is that of its workers, or there was no memory for the index
      module _ (result : EpochEnd) (index : List (List Place)) (ended_as : (result.outcome ≡ lowest_outcome all_outcomes) ⊎ ((lowest_outcome all_outcomes ≡ Done) × (result.outcome ≡ Memory))) where
        pub through : result.outcome ≡ Done → lowest_outcome all_outcomes ≡ Done
        through is = ⊎_elim (λ same. sym same ∙ is) (λ both. both.0) ended_as

        pub cause : result.outcome ≡ DiskFault → RoseOfOne state faults the_terms.engines meters meters' rows rows'
        cause fault = ⊎_elim (λ same. rose_of (sym same ∙ fault)) (λ both. let memory = both.1 in let no : ⊥ = cc (memory, fault) in absurd no) ended_as

        pub calm : result.outcome ≡ Done → SameCounts faults meters meters' × NoRowRose state rows rows'
        calm is = none_rose (through is)

        pub stopped : result.outcome ≢ Done → MayStopBy rules state c result.outcome
        stopped not = ⊎_elim (λ same. subst (MayStopBy rules state c) (sym same) (stopped_by (λ is. not (same ∙ is)))) (λ both. subst (MayStopBy rules state c) (sym both.1) tt) ended_as

        pub have_scattered : (old new : View) → HasMadeEpoch the_terms the_lens (lowest_outcome all_outcomes ≡ Done) old new result.claims result.admitted (epoch_with the_lens seats') →
            (result.outcome ≡ Done → HaveSent rules state c rows' index (epoch_with the_lens seats').lists) → HaveScattered rules state faults c old new meters meters' rows rows' index result
        have_scattered old new is_made sent = record {
          epoch = epoch_with the_lens seats';
          made = record {
            lens_are = is_made.lens_are;
            ended = is_made.ended;
            begins = is_made.begins;
            duty = λ is. is_made.duty (through is);
            once = λ is. is_made.once (through is);
            claims_are = is_made.claims_are;
            admissions_are = is_made.admissions_are;
            few = is_made.few;
          };
          outcomes = all_outcomes;
          many = length-map done outcome_at ∙ (all ∙ all_desks);
          outcome_is = ended_as;
          each = λ w m row o below. scattered_as w below m row o;
          sent = sent;
        }
