-- What all workers have sent stands on their lanes, and the index names it.
use Rattle.std.proofs.Common.{◌≡◌, ℕ, zero, suc, ◌+◌, ◌*◌, ◌/◌, ◌%◌, ◌<◌, ◌≤◌, nat_lt, Bool, true, false, List, [], ◌∷◌, ◌++◌, length, map, Option, Some, refl, sym, ◌∙◌, ap, subst, arith, get_or, add-zero, zero-add}
use Rattle.std.specs.Prelude.{Vec, slice_get, option_and_then, IfSome}
use Rattle.std.specs.Global.{Global}
use Rattle.std.specs.List.{All}
use denote.Ref.{Bor}
use Rattle.std.proofs.lemmas.Bool.{ltb-true, ltb-false}
use Rattle.std.proofs.lemmas.Option.{slice_get-get_or}
use Rattle.std.proofs.lemmas.List.{get_or_past, get_or-map, length-map}
use Rattle.graph_model.specs.declared.edge.Edge.{Edge}
use Rattle.graph_model.specs.declared.value.Value.{Value}
use Rattle.graph_model.specs.declared.value.Update.{Update}
use Rattle.graph_model.specs.declared.job.Job.{Job}
use Rattle.graph_model.specs.Jobs.{IsWellFormedJob, parts_of}
use Rattle.graph_model.specs.Programs.{Rules}
use Rattle.partitioner.specs.declared.split.Split.{Split}
use Rattle.partitioner.specs.Splits.{IsSplit, IsSplitOf}
use Rattle.partitioner.proofs.Made.{some_part}
use Rattle.ports.specs.Disk.{DiskState}
use Rattle.chunk_object.specs.Epochs.{cursor_of}
use Rattle.chunk_object.specs.History.{most_chunks}
use Rattle.chunk_cursor.specs.Hold.{Hold}
use Rattle.chunk_model.specs.Chunks.{Chunk}
use Rattle.chunk_model.specs.Layout.{edge_layout, update_layout}
use Rattle.chunk_model.specs.ChunkBytes.{StandsAt, chunk_bytes, bytes_of_chunks}
use Rattle.seeded_place.specs.Placing.{on_engine}
use Rattle.phase_model.specs.declared.placed.Placed.{Placed}
use Rattle.phase_model.specs.Shelves.{Shelf, at_cursor, no_chunk, width_of_chunks, places_of}
use Rattle.phase_model.specs.Shelves as shelves
use Rattle.phase_model.specs.Lanes.{update_shelf, all_updates}
use Rattle.phase_model.specs.Sends.{sent_by, sending_of}
use Rattle.phase_model.specs.Taken.{records_taken}
use Rattle.worker_duty.specs.Views.{calls_of}
use Rattle.chunk_file.specs.declared.index.Place.{Place}
use Rattle.chunk_file.specs.Chunks.{IsChunkIn}
use Rattle.chunk_file.specs.Places as index_places
use Rattle.store_reader.specs.declared.serving.Serving.{Serving}
use Rattle.store_reader.specs.declared.serving.Shelf.{Shelf as DeviceShelf}
use Rattle.store_reader.specs.declared.serving.Shelf.TheVariants.{Lanes}
use Rattle.store_reader.specs.Serving.{told_at, has_device, HasDevices, place_at}
use Rattle.store_reader.specs.Indexed.{IsServing, HasRecords, lens_of}
use Rattle.update_lanes.specs.Lanes.{HasChunks}
use Rattle.update_lanes.specs.Outgoing.{FitsJob}
use Rattle.scatter_phase.specs.declared.desk.ScatterContext.{ScatterContext}
use Rattle.scatter_phase.specs.declared.desk.ScatterDesk.{ScatterDesk}
use Rattle.scatter_phase.specs.Scattered.{HasScattered}
use Rattle.store_reader.specs.Values.{HoldValues, HoldBefore}
use Rattle.list_moves.proofs.Desks.{some_of}
use Rattle.scatter_epoch.specs.Joining.{places_at, all_places, IsIndexOf}
use Rattle.scatter_epoch.specs.Dealing.{seat_at, lanes_at, places_on, number_at}
use Rattle.scatter_epoch.specs.Desks.{IsContext}
use Rattle.scatter_epoch.specs.Sent.{RowsTell, IsOfRows, HaveSent}
use Rattle.scatter_epoch.proofs.Pairs.{Paired, paired-length, paired-at}
use Rattle.scatter_epoch.proofs.Walks.{chunk_stands, all_at}
use Rattle.scatter_epoch.proofs.Workers.{IsGood, shelf_good, chunk_is, EachWorker, each_weaker, paired_all, IsWorker, paired_worker, none_far, lanes_below}

first_below : {A : Type 0} (x : A) (xs : List A) → 0 < length (x ∷ xs)
first_below x xs = omega arith

later_below : {A : Type 0} (x : A) (xs : List A) (w : ℕ) → w < length xs → suc w < length (x ∷ xs)
later_below x xs w below = omega arith

module _ {P D G M : Type 0} (rules : P → Rules) (state : D → DiskState) (c : ScatterContext P D G M) where
  abbrev EachScattered : List (ScatterDesk D M) → Type 0
  EachScattered desks = (w : ℕ) (d : ScatterDesk D M) → w < length desks → HasScattered rules state c (get_or desks w d)

  abbrev others : (x : ScatterDesk D M) (xs : List (ScatterDesk D M)) → EachScattered (x ∷ xs) → EachScattered xs
  others x xs each = λ w d below. each (suc w) d (later_below x xs w below)

  -- the updates of each desk
  abbrev sent_of : (desks : List (ScatterDesk D M)) → EachScattered desks → List (List Update)
  sent_of [] each = []
  sent_of (x ∷ xs) each = (each 0 x (first_below x xs)).updates ∷ sent_of xs (others x xs each)

  abbrev lists_of : List (ScatterDesk D M) → List (List Placed)
  lists_of desks = map (λ (own : Vec Placed Global). own.items) (map places_on desks)

  sent_many : (desks : List (ScatterDesk D M)) (each : EachScattered desks) → length (sent_of desks each) ≡ length desks
  sent_many [] each = refl
  sent_many (x ∷ xs) each = ap suc (sent_many xs (others x xs each))

  sent_fit : (desks : List (ScatterDesk D M)) (each : EachScattered desks) → All (All (FitsJob c.serving.job.now)) (sent_of desks each)
  sent_fit [] each k d below = absurd (omega arith)
  sent_fit (x ∷ xs) each zero d below = (each 0 x (first_below x xs)).fit
  sent_fit (x ∷ xs) each (suc k) d below = sent_fit xs (others x xs each) k d (omega arith)

  each_of : (Q : ℕ → List Placed → List Update → Type 0) (desks : List (ScatterDesk D M)) (each : EachScattered desks) (start : ℕ) →
      ((w : ℕ) (d : ScatterDesk D M) (below : w < length desks) → Q (start + w) (places_on (get_or desks w d)).items (each w d below).updates) → EachWorker Q start (lists_of desks) (sent_of desks each)
  each_of Q [] each start all = tt
  each_of Q (x ∷ xs) each start all = (
    subst (λ k. Q k (places_on x).items (each 0 x (first_below x xs)).updates) (add-zero start) (all 0 x (first_below x xs)),
    each_of Q xs (others x xs each) (start + 1) (λ w d below.
        subst (λ k. Q k (places_on (get_or xs w d)).items (each (suc w) d (later_below x xs w below)).updates) (omega arith) (all (suc w) d (later_below x xs w below))),
  )

  sent_are : (desks : List (ScatterDesk D M)) (each : EachScattered desks) (records : ℕ → ℕ → List Edge) → HasRecords state (edge_layout c.serving.job.now.format) c.serving records
      → (now : List Value) → HoldValues state c.serving.split.now c.values.now c.slot now → (before : Option (List Value)) → HoldBefore state c.serving.split.now c.values.now c.before before
      → sent_of desks each ≡ map (λ calls. sent_by (sending_of (rules c.program.now) before now) (records_taken records calls)) (map (λ (seat : Hold). calls_of seat.view) (map seat_at desks))
  sent_are [] each records has now holds before holds_before = refl
  sent_are (x ∷ xs) each records has now holds before holds_before =
      ap (λ updates. updates ∷ sent_of xs (others x xs each)) ((each 0 x (first_below x xs)).are records has now holds before holds_before)
      ∙ ap (λ rest. sent_by (sending_of (rules c.program.now) before now) (records_taken records (calls_of x.seat.view)) ∷ rest) (sent_are xs (others x xs each) records has now holds before holds_before)

  module _ (context : IsContext rules state c) (done : List (ScatterDesk D M)) (each : EachScattered done) (numbers : (w : ℕ) (d : ScatterDesk D M) → w < length done → number_at (get_or done w d) ≡ w) (many : length done ≡ c.serving.job.now.engines)
      (rows : List (Vec D Global)) (rows_are : map lanes_at done ≡ rows) (wide : (w : ℕ) (row : Vec D Global) → w < length rows → length (get_or rows w row).items ≡ c.serving.job.now.engines)
      (index : List (List Place)) (is_index : IsIndexOf (lists_of done) index) where
    abbrev job : Job
    job = c.serving.job.now

    abbrev split : Split
    split = c.serving.split.now

    abbrev sent : List (List Update)
    sent = sent_of done each

    abbrev made : Shelf Update
    made = all_updates job c.epoch 0 sent

    some_parts : 1 ≤ parts_of job
    some_parts = let some = some_part split context.serving.split in let parts = context.serving.of_job.parts in omega (arith, some, parts)

    -- a worker's chunks are on its row of lanes
    record IsOnRow (w : ℕ) (own : List Placed) (updates : List Update) : Type 0 where
      worker : IsWorker job context.serving.job c.epoch w own updates
      row : Vec D Global
      row_is : slice_get rows w ≡ Some row
      row_at : (r : Vec D Global) → get_or rows w r ≡ row
      below : w < length rows
      long : length row.items ≡ job.engines
      lanes : (e : ℕ) (d : D) → e < length row.items → HasChunks (on_engine e (update_shelf job c.epoch w updates)) (state (get_or row.items e d))

    rows_long : length rows ≡ length done
    rows_long = sym (ap (λ l. length l) rows_are) ∙ length-map done lanes_at

    on_row : (w : ℕ) (d : ScatterDesk D M) (below : w < length done) → IsOnRow (0 + w) (places_on (get_or done w d)).items (each w d below).updates
    on_row w d below =
        let has = each w d below in
        let number : number_at (get_or done w d) ≡ 0 + w = numbers w d below ∙ sym (zero-add w) in
        let within : w < length rows = omega (arith, rows_long) in
        let row_at : (r : Vec D Global) → get_or rows (0 + w) r ≡ lanes_at (get_or done w d) = λ r.
        ap (λ k. get_or rows k r) (zero-add w) ∙ sym (ap (λ l. get_or l w r) rows_are) ∙ get_or-map lanes_at done w d r below in
        record {
          worker = record { fit = has.fit; places = subst (λ k. (places_on (get_or done w d)).items ≡ places_of 12 (λ engine. 0) (update_shelf job c.epoch k has.updates)) number has.written.places_are };
          row = lanes_at (get_or done w d);
          row_is = slice_get-get_or rows (0 + w) (lanes_at d) (omega (arith, within)) ∙ ap (λ r. Some r) (row_at (lanes_at d));
          row_at = row_at;
          below = omega (arith, within);
          long = sym (ap (λ (r : Vec D Global). length r.items) (row_at (lanes_at d))) ∙ wide (0 + w) (lanes_at d) (omega (arith, within));
          lanes = λ e lane inside. subst (λ k. HasChunks (on_engine e (update_shelf job c.epoch k has.updates)) (state (get_or (lanes_at (get_or done w d)).items e lane))) number (has.written.lanes_are e lane inside);
        }

    on_rows : EachWorker IsOnRow 0 (lists_of done) sent
    on_rows = each_of IsOnRow done each 0 on_row

    pairs : (R : Place → Chunk Update → Type 0) (e p : ℕ) → p < 64 → ((w : ℕ) (own : List Placed) (updates : List Update) → IsOnRow w own updates → (before : Shelf Update) (d : ℕ × Chunk Update) (behind : Shelf Update) → before ++ d ∷ behind ≡ update_shelf job c.epoch w updates → d.0 ≡ e → d.1.partition ≡ p →
        R (record { lane = w; at = 0 + width_of_chunks 12 (on_engine d.0 before) }) d.1) → Paired R (all_places 0 e p (lists_of done)) (at_cursor made (cursor_of e p))
    pairs R e p small all =
        paired_all job context.serving.job c.epoch R e p 0 (lists_of done) sent
        (each_weaker IsOnRow (λ w own updates. Paired R (places_at w e p own) (at_cursor (update_shelf job c.epoch w updates) (cursor_of e p)))
        (λ w own updates on. paired_worker job context.serving.job c.epoch some_parts R e p w small own updates on.worker (all w own updates on)) 0 (lists_of done) sent on_rows)

    lens : (cursor : ℕ) → lens_of index cursor ≡ shelves.lens_of made cursor
    lens cursor = by (nat_lt cursor 512) refl
      where
        by : (near : Bool) → nat_lt cursor 512 ≡ near → lens_of index cursor ≡ shelves.lens_of made cursor
        by true is =
            let below : cursor < 512 = ltb-true cursor 512 is in
            let e : ℕ = cursor / 64 in
            let p : ℕ = cursor % 64 in
            let same : 64 * e + p ≡ cursor = omega arith in
            let places : get_or index (64 * e + p) index_places.no_places ≡ all_places 0 e p (lists_of done) = is_index.places e p (omega arith) (omega arith) in
            let both = paired-length (λ place chunk. Unit {0}) (all_places 0 e p (lists_of done)) (at_cursor made (cursor_of e p)) (pairs (λ place chunk. Unit {0}) e p (omega arith) (λ w own updates on before d behind whole engine partition. tt)) in
            subst (λ k. lens_of index k ≡ shelves.lens_of made k) same (ap (λ (l : List Place). length l) places ∙ both)
        by false is =
            let far : 512 ≤ cursor = ltb-false cursor 512 is in
            let none : get_or index cursor index_places.no_places ≡ [] = get_or_past index cursor index_places.no_places (omega (arith, is_index.long)) in
            ap (λ (l : List Place). length l) none ∙ sym (ap (λ (l : List (Chunk Update)). length l) (none_far job context.serving.job c.epoch some_parts cursor 0 far sent (sent_fit done each)))

    served : (serving : Serving D M) → IsOfRows job split rows index serving → IsServing serving
    served serving of = record {
      job = subst (λ j. IsWellFormedJob j) (sym of.job_is) context.serving.job;
      split = subst (λ s. IsSplit s) (sym of.split_is) context.serving.split;
      of_job = subst (λ j. IsSplitOf j serving.split.now) (sym of.job_is) (subst (IsSplitOf job) (sym of.split_is) context.serving.of_job);
      few = λ cursor. subst (λ l. lens_of l cursor ≤ most_chunks) (sym of.index_is) (is_index.few cursor);
      devices = λ engine partition below below'.
          let e : engine < job.engines = subst (λ (j : Job). engine < j.engines) of.job_is below in
          let p : partition < split.parts = subst (λ (s : Split). partition < s.parts) of.split_is below' in
          let engines = context.serving.job.engines.1 in
          let parts = context.serving.split.few in
          subst (λ shelf. HasDevices {M = M} shelf engine (index_places.places_of serving.index.now engine partition)) (sym of.shelf)
          (subst (λ l. HasDevices {M = M} (Lanes of.lanes) engine (index_places.places_of l engine partition)) (sym of.index_is)
          (subst (λ places. All (λ (place : Place). has_device {M = M} (Lanes of.lanes) engine place.lane) places) (sym (is_index.places engine partition (omega (arith, e, engines)) (omega (arith, p, parts))))
          (λ k d inside.
          let lane = lanes_below 0 engine partition (lists_of done) k d inside in (
            subst (λ (l : List (Vec D Global)). (get_or (all_places 0 engine partition (lists_of done)) k d).lane < length l) (sym of.rows_are) (omega (arith, lane, rows_long, length-map (map places_on done) (λ (own : Vec Placed Global). own.items), length-map done places_on)),
            subst (λ (l : List (Vec D Global)). All (λ own. engine < length own.items) l) (sym of.rows_are) (λ w row there. let width = wide w row there in omega (arith, width, e)),
          ))));
    }

    module _ (tell : RowsTell state rows) (lanes : Bor (List (Vec D Global))) (same : lanes.now ≡ rows) where
      -- a chunk stands at a place of a lane
      Stands : (e p : ℕ) → Place → Chunk Update → Type 0
      Stands e p place chunk = (bytes : List ℕ) × (told_at {M = M} state (Lanes lanes) e place.lane ≡ Some bytes) × IsChunkIn update_layout split job.chunk p place.at bytes chunk.items

      told_row : (w e : ℕ) (own : List Placed) (updates : List Update) → (on : IsOnRow w own updates) → (d : D) → e < length on.row.items → (bytes : List ℕ) → (state (get_or on.row.items e d)).bytes ≡ Some bytes → told_at {M = M} state (Lanes lanes) e w ≡ Some bytes
      told_row w e own updates on d below bytes is =
          ap (option_and_then (λ (r : Vec D Global). option_and_then (λ (disk : D). (state disk).bytes) (slice_get r.items e))) (ap (λ l. slice_get l w) same ∙ on.row_is)
          ∙ ap (option_and_then (λ (disk : D). (state disk).bytes)) (slice_get-get_or on.row.items e d below)
          ∙ is

      chunk_on : (e p : ℕ) → e < job.engines → (w : ℕ) (own : List Placed) (updates : List Update) → IsOnRow w own updates → (before : Shelf Update) (d : ℕ × Chunk Update) (behind : Shelf Update) → before ++ d ∷ behind ≡ update_shelf job c.epoch w updates → d.0 ≡ e → d.1.partition ≡ p →
          Stands e p (record { lane = w; at = 0 + width_of_chunks 12 (on_engine d.0 before) }) d.1
      unfolding Stands
      chunk_on e p below w own updates on before d behind whole engine partition =
          let inside : e < length on.row.items = omega (arith, on.long) in
          let disk : D = some_of on.row.items e inside in
          let told = tell w on.row on.below e disk (subst (λ (r : Vec D Global). e < length r.items) (sym (on.row_at on.row)) inside) in
          let bytes : List ℕ = told.0 in
          let is : (state (get_or on.row.items e disk)).bytes ≡ Some bytes = ap (λ (r : Vec D Global). (state (get_or r.items e disk)).bytes) (sym (on.row_at on.row)) ∙ told.1 in
          let content : bytes ≡ bytes_of_chunks update_layout (on_engine e (update_shelf job c.epoch w updates)) =
          subst (λ (x : Option (List ℕ)). IfSome x (λ b. b ≡ bytes_of_chunks update_layout (on_engine e (update_shelf job c.epoch w updates)))) is (on.lanes e disk inside).bytes_are in
          let at : ℕ = 0 + width_of_chunks 12 (on_engine d.0 before) in
          let stands : StandsAt at (chunk_bytes update_layout d.1.partition d.1.items) bytes =
          subst (StandsAt at (chunk_bytes update_layout d.1.partition d.1.items)) (ap (λ cs. bytes_of_chunks update_layout (on_engine e cs)) whole ∙ sym content) (chunk_stands e before d behind engine) in
          let good = all_at (IsGood job context.serving.job c.epoch) before d behind (update_shelf job c.epoch w updates) whole (shelf_good job context.serving.job c.epoch some_parts w updates on.worker.fit) in
          (bytes, told_row w e own updates on disk inside bytes is, subst (λ k. IsChunkIn update_layout split job.chunk k at bytes d.1.items) partition (record { stands = stands; are = chunk_is job context.serving.job c.epoch split context.serving.of_job d good }))

      stands_at : (e p t : ℕ) → e < job.engines → p < split.parts → t < length (index_places.places_of index e p) →
          (bytes : List ℕ) × (told_at {M = M} state (Lanes lanes) e (place_at index e p t).lane ≡ Some bytes) × IsChunkIn update_layout split job.chunk p (place_at index e p t).at bytes (shelves.records_at made (cursor_of e p) t)
      unfolding Stands
      stands_at e p t below below' inside =
          let engines = context.serving.job.engines.1 in
          let parts = context.serving.split.few in
          let p_small : p < 64 = omega (arith, below', parts) in
          let places : index_places.places_of index e p ≡ all_places 0 e p (lists_of done) = is_index.places e p (omega (arith, below, engines)) p_small in
          let there : t < length (all_places 0 e p (lists_of done)) = subst (λ (l : List Place). t < length l) places inside in
          subst (λ (l : List Place). Stands e p (get_or l t (index_places.on_graph 0)) (get_or (at_cursor made (cursor_of e p)) t no_chunk)) (sym places)
          (paired-at (Stands e p) (all_places 0 e p (lists_of done)) (at_cursor made (cursor_of e p)) (pairs (Stands e p) e p p_small (chunk_on e p below)) t (index_places.on_graph 0) no_chunk there)

    stand : RowsTell state rows → (serving : Serving D M) → IsOfRows job split rows index serving → HasRecords state update_layout serving (shelves.records_at made)
    stand tell serving of e p t =
        subst (λ (shelf : DeviceShelf D M). e < serving.job.now.engines → p < serving.split.now.parts → t < length (index_places.places_of serving.index.now e p) → (bytes : List ℕ) × (told_at state shelf e (place_at serving.index.now e p t).lane ≡ Some bytes) × IsChunkIn update_layout serving.split.now serving.job.now.chunk p (place_at serving.index.now e p t).at bytes (shelves.records_at made (cursor_of e p) t)) (sym of.shelf)
        (subst (λ (l : List (List Place)). e < serving.job.now.engines → p < serving.split.now.parts → t < length (index_places.places_of l e p) → (bytes : List ℕ) × (told_at {M = M} state (Lanes of.lanes) e (place_at l e p t).lane ≡ Some bytes) × IsChunkIn update_layout serving.split.now serving.job.now.chunk p (place_at l e p t).at bytes (shelves.records_at made (cursor_of e p) t)) (sym of.index_is)
        (subst (λ (j : Job). e < j.engines → p < serving.split.now.parts → t < length (index_places.places_of index e p) → (bytes : List ℕ) × (told_at {M = M} state (Lanes of.lanes) e (place_at index e p t).lane ≡ Some bytes) × IsChunkIn update_layout serving.split.now j.chunk p (place_at index e p t).at bytes (shelves.records_at made (cursor_of e p) t)) (sym of.job_is)
        (subst (λ (s : Split). e < job.engines → p < s.parts → t < length (index_places.places_of index e p) → (bytes : List ℕ) × (told_at {M = M} state (Lanes of.lanes) e (place_at index e p t).lane ≡ Some bytes) × IsChunkIn update_layout s job.chunk p (place_at index e p t).at bytes (shelves.records_at made (cursor_of e p) t)) (sym of.split_is)
        (stands_at tell of.lanes of.rows_are e p t))))

    pub have_sent : (seats : List Hold) → map seat_at done ≡ seats → HaveSent rules state c rows index (map (λ (seat : Hold). calls_of seat.view) seats)
    have_sent seats seats_are = record {
      sent = sent;
      many = sent_many done each ∙ many;
      fit = sent_fit done each;
      lens = lens;
      served = served;
      stand = stand;
      are = λ records has now holds before holds_before.
          sent_are done each records has now holds before holds_before
          ∙ ap (λ (s : List Hold). map (λ calls. sent_by (sending_of (rules c.program.now) before now) (records_taken records calls)) (map (λ (seat : Hold). calls_of seat.view) s)) seats_are;
    }
