-- What a worker has sent, chunk by chunk.
use Rattle.std.proofs.Common.{◌≡◌, ◌≢◌, ℕ, ◌+◌, ◌*◌, ◌<◌, ◌≤◌, Some, None, List, [], ◌∷◌, ◌++◌, length, inl, inr, ◌⊎◌, ⊎_elim, refl, sym, ◌∙◌, ap, subst, arith, length-append, append-nil}
use Rattle.std.specs.List.{All}
use Rattle.std.proofs.lemmas.Grind.{flat_map-append}
use Rattle.std.proofs.lemmas.List.Elements.{All-nil, All-cons, All-append}
use Rattle.graph_model.specs.declared.edge.Edge.{Edge}
use Rattle.graph_model.specs.declared.value.Update.{Update}
use Rattle.graph_model.specs.declared.job.Job.{Job}
use Rattle.graph_model.specs.Programs.{Rules}
use Rattle.ports.specs.Disk.{DiskState}
use Rattle.ports.specs.Faults.{Rose}
use Rattle.ports.proofs.Rising.{count_rose_before, count_rose_after}
use Rattle.ports.specs.Devices.{OneRose, NoneRose}
use Rattle.partitioner.specs.declared.split.Split.{Split}
use Rattle.partitioner.specs.Splits.{IsSplitOf}
use Rattle.chunk_object.specs.declared.call.Call.{Call}
use Rattle.chunk_cursor.specs.declared.view.View.{View}
use Rattle.chunk_cursor.specs.View.{with_calls, MayTake}
use Rattle.chunk_model.specs.Layout.{edge_layout}
use Rattle.chunk_file.specs.Chunks.{AreChunkIn}
use Rattle.phase_model.specs.declared.placed.Placed.{Placed}
use Rattle.phase_model.specs.Sends.{sent_along, sent_by, sending_of}
use Rattle.phase_model.specs.Taken.{taken, records_of}
use Rattle.phase_model.proofs.Lists.{records_of-append}
use Rattle.store_reader.specs.Indexed.{IsServing, HasRecords}
use Rattle.store_reader.specs.Serving.{IsFoundChunk}
use Rattle.update_lanes.specs.declared.outgoing.Outgoing.{Outgoing}
use Rattle.update_lanes.specs.Lanes.{GoOn, IsWithin}
use Rattle.update_lanes.specs.Outgoing.{HasRoom, HasSent, IsSameRoom, SendsOn, StopsOn}
use Rattle.update_lanes.proofs.GoingOn.{goes_on, rose_before, rose_since}
use Rattle.update_lanes.proofs.Sends.{length-sent_by}
use Rattle.update_lanes.proofs.Sent.{places_few}
use Rattle.worker_duty.specs.declared.acts.Step.{Step}
use Rattle.worker_duty.specs.declared.acts.Step.TheVariants as step
use Rattle.worker_duty.specs.Views.{taken_by_seat, IsReady}
use Rattle.worker_duty.specs.Working.{HasTaken, HasClaimed}
use Rattle.worker_duty.proofs.Elsewhere.{taken-more}
use Rattle.worker_duty.proofs.Beginnings.{nothing_taken}
use Rattle.store_reader.specs.declared.store.Outcome.TheVariants.{Done, DiskFault}
use Rattle.scatter_phase.specs.declared.desk.ScatterContext.{ScatterContext}
use Rattle.scatter_phase.specs.declared.desk.ScatterDesk.{ScatterDesk}
use Rattle.scatter_phase.specs.declared.desk.ScatterRoom.{ScatterRoom}
use Rattle.scatter_phase.specs.Rooms.{IsRoom}
use Rattle.scatter_phase.specs.Phases.{GoesOn, IsSetAtFront, IsSetBefore, AreMarked, AreLoaded, AreWithin, IsOpen, HasSentOf, DeskHolds, DeskStops, AreFound}
use Rattle.scatter_phase.specs.Scattered.{HasFaultCause}
use Rattle.scatter_phase.specs.Sending.{KeepsBuffers, sending_in, HasSentFor}
use Rattle.scatter_phase.proofs.Counts.{no_more, one_more, within_as}
use Rattle.scatter_phase.proofs.Sends.{edges_from, sends_as_all}

-- a room in which something was sent
pub room_after : (job : Job) (old new : ScatterRoom) → KeepsBuffers old new → IsSameRoom old.outgoing new.outgoing → HasRoom new.outgoing → IsRoom job old → IsRoom job new
room_after job old new kept same room is = record {
  outgoing = room;
  of_job = subst (IsSplitOf job) (sym same.split) is.of_job;
  size = same.size ∙ is.size;
  edges = ap (λ v. length v.items) kept.edges ∙ is.edges;
  bytes = ap (λ v. length v.items) kept.bytes ∙ is.bytes;
  now = ap (λ v. length v.items) kept.now ∙ is.now;
  before = ap (λ v. length v.items) kept.before ∙ is.before;
  changed = ap (λ v. length v.items) kept.changed ∙ is.changed;
}

-- marks stay where the buffers do
marks_kept : (split : Split) (p : ℕ) (old new : ScatterRoom) → KeepsBuffers old new → AreMarked split p old.before.items old.now.items old.changed.items → AreMarked split p new.before.items new.now.items new.changed.items
marks_kept split p old new kept marked =
    subst (λ v. AreMarked split p v.items new.now.items new.changed.items) (sym kept.before)
    (subst (λ v. AreMarked split p old.before.items v.items new.changed.items) (sym kept.now) (subst (λ v. AreMarked split p old.before.items old.now.items v.items) (sym kept.changed) marked))

-- a desk that goes on twice
pub goes_on_then : {D M : Type 0} (state : D → DiskState) (faults : M → ℕ) (number : ℕ) (a b d : ScatterDesk D M) → GoesOn state faults number a b → GoesOn state faults number b d → GoesOn state faults number a d
goes_on_then state faults number a b d x y = record {
  worker = y.worker ∙ x.worker;
  room = λ job is. y.room job (x.room job is);
  reads = omega (arith, x.reads, y.reads);
  lanes = goes_on state number a.lanes.items b.lanes.items d.lanes.items x.lanes y.lanes;
  caused = λ is. ⊎_elim
      (λ middle. ⊎_elim (λ first. inl first) (λ rose. inr (⊎_elim (λ read. inl (count_rose_after (faults a.meter) (faults b.meter) (faults d.meter) read y.reads)) (λ lane. inr (rose_before state number a.lanes.items b.lanes.items d.lanes.items x.lanes.many lane y.lanes)) rose)) (x.caused middle))
      (λ rose. inr (⊎_elim (λ read. inl (count_rose_before (faults a.meter) (faults b.meter) (faults d.meter) x.reads read)) (λ lane. inr (rose_since state number a.lanes.items b.lanes.items d.lanes.items x.lanes lane)) rose))
      (y.caused is);
  calm = λ is. let later = y.calm is in let first = x.calm later.0 in (first.0, later.1 ∙ first.1, later.2 ∙ first.2);
}

module _ {P D G M : Type 0} (rules : P → Rules) (state : D → DiskState) (c : ScatterContext P D G M) where
  abbrev IsFound : ℕ × ℕ → Type 0
  IsFound chunk = IsFoundChunk state (edge_layout c.serving.job.now.format) c.serving c.serving.job.now.chunk chunk.0 chunk.1

  -- no more places are noted than chunks were taken
  pub places_of_chunks : (desk : ScatterDesk D M) (chunks : List (ℕ × ℕ)) → 1 ≤ c.serving.job.now.chunk → HasSentOf rules state c desk chunks → length desk.places.items ≤ length chunks
  places_of_chunks desk chunks some has =
      no_more (length desk.places.items) c.serving.job.now.chunk (length chunks) some
      (let few = places_few state c.serving.job.now c.epoch desk.worker has.updates desk.room.outgoing.buffers.items desk.room.outgoing.placer desk.lanes.items desk.places.items some has.sent in omega (arith, few, has.few))

  -- the places that a room's split allows are those of the phase's split
  pub within_all : (room : ScatterRoom) (places : List Placed) → IsServing c.serving → IsRoom c.serving.job.now room → All (IsWithin room.outgoing.split.engines room.outgoing.split.parts) places → AreWithin rules state c places
  within_all room places serving is all = within_as room.outgoing.split.engines c.serving.job.now.engines room.outgoing.split.parts c.serving.split.now.parts places is.of_job.engines (is.of_job.parts ∙ sym serving.of_job.parts) all

  pub within_room : (room : ScatterRoom) (places : List Placed) → IsServing c.serving → IsRoom c.serving.job.now room → AreWithin rules state c places → All (IsWithin room.outgoing.split.engines room.outgoing.split.parts) places
  within_room room places serving is all = within_as c.serving.job.now.engines room.outgoing.split.engines c.serving.split.now.parts room.outgoing.split.parts places (sym is.of_job.engines) (sym (is.of_job.parts ∙ sym serving.of_job.parts)) all

  -- what is loaded stays where the buffers do
  pub loaded_kept : (old new : ScatterRoom) → KeepsBuffers old new → AreLoaded rules state c old → AreLoaded rules state c new
  loaded_kept old new kept loaded = λ p is.
      let there = loaded p (sym kept.loaded ∙ is) in (
        subst (λ v. IsSetAtFront state c.serving.split.now c.values.now c.slot p v.items) (sym kept.now) there.0,
        subst (λ v. IsSetBefore state c.serving.split.now c.values.now c.before p v.items) (sym kept.before) there.1,
        λ s some. marks_kept c.serving.split.now p old new kept (there.2 s some),
      )

  -- what was sent does not depend on the rest of the desk
  pub same_sent : (old new : ScatterDesk D M) (chunks : List (ℕ × ℕ)) → new.worker ≡ old.worker → new.room.outgoing ≡ old.room.outgoing → new.lanes ≡ old.lanes → new.places ≡ old.places → HasSentOf rules state c old chunks → HasSentOf rules state c new chunks
  same_sent old new chunks worker outgoing lanes places has = record {
    updates = has.updates;
    sent = subst (λ w. HasSent state c.serving.job.now c.epoch w has.updates new.room.outgoing.buffers.items new.room.outgoing.placer new.lanes.items new.places.items) (sym worker)
        (subst (λ (o : Outgoing). HasSent state c.serving.job.now c.epoch old.worker has.updates o.buffers.items o.placer new.lanes.items new.places.items) (sym outgoing)
        (subst (λ l. HasSent state c.serving.job.now c.epoch old.worker has.updates old.room.outgoing.buffers.items old.room.outgoing.placer l.items new.places.items) (sym lanes)
        (subst (λ p. HasSent state c.serving.job.now c.epoch old.worker has.updates old.room.outgoing.buffers.items old.room.outgoing.placer old.lanes.items p.items) (sym places) has.sent)));
    few = has.few;
    are = has.are;
  }

  module _ (serving : IsServing c.serving) (p : ℕ) where
    -- **One chunk more was sent.**
    pub sent_chunk : (old new : ScatterDesk D M) (mid : ScatterRoom) (es : List Edge) → new.worker ≡ old.worker → mid.outgoing ≡ old.room.outgoing → IsRoom c.serving.job.now mid → AreLoaded rules state c mid → mid.loaded ≡ Some p
        → AreChunkIn (edge_layout c.serving.job.now.format) c.serving.split.now c.serving.job.now.chunk p es
        → SendsOn state c.beat.now mid.outgoing new.room.outgoing old.lanes.items new.lanes.items old.places.items new.places.items (sent_by (sending_in (rules c.program.now) c.serving.split.now p c.before mid) es)
        → (chunks : List (ℕ × ℕ)) (cursor t : ℕ) → HasSentOf rules state c old chunks
        → ((records : ℕ → ℕ → List Edge) → HasRecords state (edge_layout c.serving.job.now.format) c.serving records → records cursor t ≡ es)
        → HasSentOf rules state c new (chunks ++ (cursor, t) ∷ [])
    sent_chunk old new mid es worker outgoing room loaded here are sends chunks cursor t has reads = record {
      updates = has.updates ++ us;
      sent = subst (λ w. HasSent state c.serving.job.now c.epoch w (has.updates ++ us) new.room.outgoing.buffers.items new.room.outgoing.placer new.lanes.items new.places.items) (sym worker)
          (sends.sent c.serving.job.now c.epoch old.worker has.updates room.of_job room.size
          (subst (λ (o : Outgoing). HasSent state c.serving.job.now c.epoch old.worker has.updates o.buffers.items o.placer old.lanes.items old.places.items) (sym outgoing) has.sent));
      few =
          let more : c.serving.job.now.chunk * (length chunks + 1) ≡ c.serving.job.now.chunk * length chunks + c.serving.job.now.chunk = grind arith in
          let long : length (chunks ++ (cursor, t) ∷ []) ≡ length chunks + 1 = length-append chunks ((cursor, t) ∷ []) in
          subst (λ n. length (has.updates ++ us) ≤ c.serving.job.now.chunk * n) (sym long)
          (omega (arith, length-append has.updates us, length-sent_by (sending_in (rules c.program.now) c.serving.split.now p c.before mid) es, are.few, has.few, more));
      are = λ records describes now holds before holds_before.
          let all = sending_of (rules c.program.now) before now in
          let last : us ≡ sent_by all es = sends_as_all state (rules c.program.now) c.serving.split.now c.values.now p c.slot c.before mid es
          (edges_from c.serving.split.now c.serving.job.now.format c.serving.job.now.chunk p es serving.split are) ((loaded p here).0) ((loaded p here).1) now holds before holds_before in
          (λ i. has.are records describes now holds before holds_before i ++ last i)
          ∙ (sym (flat_map-append (sent_along all) (records_of records chunks) es)
          ∙ ap (sent_by all) (ap (λ xs. records_of records chunks ++ xs) (sym (append-nil (records cursor t) ∙ reads records describes)) ∙ sym (records_of-append records chunks ((cursor, t) ∷ []))));
    }
      where
        us : List Update
        us = sent_by (sending_in (rules c.program.now) c.serving.split.now p c.before mid) es

  -- or the work was stopped at it
  pub stopped_chunk : (old : ScatterDesk D M) (mid new : ScatterRoom) (written : List D) (noted : List Placed) (edges : ℕ) → IsServing c.serving → mid.outgoing ≡ old.room.outgoing → IsRoom c.serving.job.now mid → edges ≤ c.serving.job.now.chunk
      → StopsOn state c.beat.now mid.outgoing new.outgoing old.lanes.items written old.places.items noted edges
      → (chunks : List (ℕ × ℕ)) → HasSentOf rules state c old chunks → length noted ≤ length chunks + 1
  stopped_chunk old mid new written noted edges serving outgoing room few stops chunks has =
      one_more (length noted) c.serving.job.now.chunk (length chunks) (length has.updates) edges serving.job.chunk.0
      (stops.few c.serving.job.now c.epoch old.worker has.updates room.of_job room.size
      (subst (λ (o : Outgoing). HasSent state c.serving.job.now c.epoch old.worker has.updates o.buffers.items o.placer old.lanes.items old.places.items) (sym outgoing) has.sent))
      has.few few

  -- a desk at which nothing was sent yet
  pub holds_first : (desk : ScatterDesk D M) → desk.seat.view.story ≡ [] → IsOpen rules state c desk → HasSent state c.serving.job.now c.epoch desk.worker [] desk.room.outgoing.buffers.items desk.room.outgoing.placer desk.lanes.items desk.places.items
      → DeskHolds rules state c desk (taken_by_seat desk.seat.view)
  holds_first desk none fit sent = subst (DeskHolds rules state c desk) (sym (nothing_taken desk.seat.view none))
      (record { fit = fit; has = record { updates = []; sent = sent; few = omega arith; are = λ records describes now holds before holds_before. refl }; found = All-nil IsFound })

  -- What a claim and the work on its chunk come to.
  module _ (mid new : ScatterDesk D M) (es : List Edge) (chunks : List (ℕ × ℕ)) (cursor t : ℕ) (has : HasSentOf rules state c mid chunks) (are_found : AreFound rules state c chunks) (is_found : IsFound (cursor, t)) (reads : (records : ℕ → ℕ → List Edge) → HasRecords state (edge_layout c.serving.job.now.format) c.serving records → records cursor t ≡ es) where
    pub sent_at : (result : Step) → HasSentFor rules state c mid new es result → result ≢ step.Stopped → DeskHolds rules state c new (chunks ++ (cursor, t) ∷ [])
    sent_at step.Took sent ne = record {
      fit = sent.fit;
      has = sent.has chunks cursor t has reads;
      found = All-append IsFound chunks ((cursor, t) ∷ []) are_found (All-cons IsFound (cursor, t) [] is_found (All-nil IsFound));
    }
    sent_at step.Exhausted sent ne = absurd sent
    sent_at step.Stopped sent ne = absurd (ne refl)

    pub stopped_at : (result : Step) → HasSentFor rules state c mid new es result → result ≡ step.Stopped → DeskStops rules state c new (chunks ++ (cursor, t) ∷ [])
    stopped_at step.Took sent is = cc
    stopped_at step.Exhausted sent is = absurd sent
    stopped_at step.Stopped sent is = record { why = sent.why; within = sent.within; few = let long = length-append chunks ((cursor, t) ∷ []) in let most = sent.few chunks has in omega (arith, most, long) }

    pub claimed_at : (v u : View) (result : Step) → HasSentFor rules state c mid new es result → HasTaken v u cursor → HasClaimed v u cursor result
    claimed_at v u step.Took sent took = took
    claimed_at v u step.Exhausted sent took = absurd sent
    claimed_at v u step.Stopped sent took = took

pub nothing_loaded : (p : ℕ) → None ≡ Some p → ⊥
nothing_loaded p is = cc

-- a worker that began with an empty list took what its calls say
pub chunks_of : (old new : View) (calls : List Call) → old.story ≡ [] → new ≡ with_calls old calls → taken_by_seat new ≡ taken calls
chunks_of old new calls none grown = ap taken_by_seat grown ∙ (taken-more old calls ∙ ap (λ xs. xs ++ taken calls) (nothing_taken old none))

-- why a disk fault was answered, and that Done is calm, where before the duty the lanes alone were touched
pub cause_of : {D M : Type 0} (state : D → DiskState) (faults : M → ℕ) (number : ℕ) (a b d : ScatterDesk D M) → b.meter ≡ a.meter → GoOn state number a.lanes.items b.lanes.items → NoneRose state a.lanes.items b.lanes.items → b.outcome ≡ Done → GoesOn state faults number b d → HasFaultCause state faults a d
cause_of state faults number a b d meter lanes none done goes = record {
  reads = subst (λ m. faults m ≤ faults d.meter) meter goes.reads;
  rose = λ is. ⊎_elim (λ early. absurd (not_done (sym done ∙ early)))
      (λ rose. ⊎_elim (λ read. inl (subst (λ m. Rose (faults m) (faults d.meter)) meter read)) (λ lane. inr (rose_since state number a.lanes.items b.lanes.items d.lanes.items lanes lane)) rose)
      (goes.caused is);
  calm = λ is. let later = goes.calm is in (later.1 ∙ ap faults meter, later.2 ∙ none);
}
  where
    not_done : Done ≡ DiskFault → ⊥
    not_done is = cc

-- a desk whose numbers are noted
pub noted : {D M : Type 0} (state : D → DiskState) (faults : M → ℕ) (number : ℕ) (old mid new : ScatterDesk D M) → new.worker ≡ mid.worker → new.room ≡ mid.room → new.meter ≡ mid.meter → new.lanes ≡ mid.lanes → new.outcome ≡ mid.outcome → GoesOn state faults number old mid → GoesOn state faults number old new
noted state faults number old mid new worker room meter lanes outcome goes = record {
  worker = worker ∙ goes.worker;
  room = λ job is. subst (IsRoom job) (sym room) (goes.room job is);
  reads = subst (λ m. faults old.meter ≤ faults m) (sym meter) goes.reads;
  lanes = subst (λ l. GoOn state number old.lanes.items l.items) (sym lanes) goes.lanes;
  caused = λ is. subst (λ m. (old.outcome ≡ DiskFault) ⊎ (Rose (faults old.meter) (faults m) ⊎ OneRose state old.lanes.items new.lanes.items)) (sym meter)
      (subst (λ l. (old.outcome ≡ DiskFault) ⊎ (Rose (faults old.meter) (faults mid.meter) ⊎ OneRose state old.lanes.items l.items)) (sym lanes) (goes.caused (sym outcome ∙ is)));
  calm = λ is. let was = goes.calm (sym outcome ∙ is) in (was.0, ap faults meter ∙ was.1, subst (λ l. NoneRose state old.lanes.items l.items) (sym lanes) was.2);
}

-- the chunk that was taken is one of those of its cursor
pub taken_of : (lens : ℕ → ℕ) (v : View) (cursor t : ℕ) → IsReady v cursor (lens cursor) → MayTake v cursor t → t < lens cursor
taken_of lens v cursor t ready may = let len = ready.opened in omega (arith, may.1, len)
