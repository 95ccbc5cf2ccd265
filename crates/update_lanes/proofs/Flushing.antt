-- What waits in the buffers, written partition by partition.
use Rattle.std.proofs.Common.{◌≡◌, ◌≢◌, ◌⊎◌, inl, inr, ℕ, ◌+◌, ◌==◌, ◌<◌, ◌≤◌, Bool, true, false, cond, List, [], ◌∷◌, ◌++◌, length, get_or, refl, sym, ◌∙◌, ap, subst, arith, append-nil, append_assoc, add-one, zero-add}
use Rattle.std.specs.Prelude.{Vec}
use Rattle.std.specs.Global.{Global}
use Rattle.std.specs.List.{All, range_with_len, flat_map, count_by}
use Rattle.std.proofs.lemmas.List.Elements.{All-push}
use Rattle.std.proofs.lemmas.Bool.{ne_eqb}
use Rattle.std.proofs.lemmas.List.Sums.{sum_by-append}
use Rattle.graph_model.specs.declared.job.Job.{Job}
use Rattle.graph_model.specs.declared.value.Update.{Update}
use Rattle.graph_model.specs.Jobs.{parts_of}
use Rattle.ports.specs.Disk.{DiskState}
use Rattle.ports.specs.Devices.{NoneRose}
use Rattle.partitioner.specs.declared.split.Split.{Split}
use Rattle.partitioner.specs.Splits.{IsSplitOf}
use Rattle.chunk_model.specs.Chunks.{Chunk, chunk_of, full_chunks, left_over}
use Rattle.chunk_model.proofs.Waiting.{flat_map-more, same_or_other}
use Rattle.seeded_place.specs.Placing.{Placing, update_stream, placed}
use Rattle.phase_model.specs.declared.placed.Placed.{Placed}
use Rattle.phase_model.specs.Lanes.{update_home, update_shelf}
use Rattle.update_lanes.specs.declared.outgoing.Outgoing.{Outgoing}
use Rattle.update_lanes.specs.Lanes.{HasMade, AreWritten, AreReady, GoOn, IsWithin, HasNoted, HasFlushed, places_in}
use Rattle.update_lanes.specs.Outgoing.{HasSent, HasRoom, IsSameRoom, waiting}
use Rattle.update_lanes.proofs.Sent.{waiting_at}
use Rattle.update_lanes.proofs.GoingOn.{goes_on}

-- the chunks of the rests of the partitions below q
abbrev pub rests_below : Job → List Update → ℕ → List (Chunk Update)
rests_below job updates q = flat_map (λ p. chunk_of p (left_over job.chunk (update_home job) updates p)) (range_with_len 0 q)

-- the rests of the partitions below q were written
pub record IsFlushing {X : Type 0} (state : X → DiskState) (number q : ℕ) (old now : Outgoing) (lanes written : List X) (places noted : List Placed) : Type 0 where
  pub same : IsSameRoom old now
  pub room : HasRoom now
  pub buffers : now.buffers ≡ old.buffers
  pub go_on : GoOn state number lanes written
  pub calm : NoneRose state lanes written
  pub ready : AreReady state now.split.engines number (length noted) written
  pub few : (p : ℕ) → (places_in p noted ≤ places_in p places + 1) × (q ≤ p → places_in p noted ≤ places_in p places)
  pub within : All (IsWithin old.split.engines old.split.parts) places → All (IsWithin old.split.engines old.split.parts) noted
  pub made : (job : Job) (epoch worker : ℕ) (updates : List Update) → IsSplitOf job old.split
      → HasSent state job epoch worker updates old.buffers.items old.placer lanes places
      → HasMade state job.seed (update_stream epoch worker) job.engines now.placer written noted (full_chunks job.chunk (update_home job) [] updates ++ rests_below job updates q)

chunk_of_some : (p : ℕ) (items : List Update) → 0 < length items → chunk_of p items ≡ record { partition = p; items = items } ∷ []
chunk_of_some p [] some = absurd (omega (arith, some))
chunk_of_some p (u ∷ us) some = refl

chunk_of_none : (p : ℕ) (items : List Update) → length items ≡ 0 → chunk_of p items ≡ []
chunk_of_none p [] none = refl
chunk_of_none p (u ∷ us) none = absurd (omega (arith, none))

rests-more : (job : Job) (updates : List Update) (q : ℕ) → rests_below job updates (q + 1) ≡ rests_below job updates q ++ chunk_of q (left_over job.chunk (update_home job) updates q)
rests-more job updates q =
    let rest : ℕ → List (Chunk Update) = λ p. chunk_of p (left_over job.chunk (update_home job) updates p) in
    ap (λ k. flat_map rest (range_with_len 0 k)) (add-one q) ∙ flat_map-more rest 0 q ∙ ap (λ k. flat_map rest (range_with_len 0 q) ++ rest k) (zero-add q)

pub flushing_none : {X : Type 0} (state : X → DiskState) (number : ℕ) (old : Outgoing) (lanes : List X) (places : List Placed) → HasRoom old → AreReady state old.split.engines number (length places) lanes → GoOn state number lanes lanes → IsFlushing state number 0 old old lanes lanes places places
flushing_none state number old lanes places room ready go = record {
  same = record { split = refl; size = refl; format = refl; bytes = refl };
  room = room;
  buffers = refl;
  go_on = go;
  calm = refl;
  ready = ready;
  few = λ p. (omega arith, λ _. omega arith);
  within = λ all. all;
  made = λ job epoch worker updates of_job has. subst (λ made. HasMade state job.seed (update_stream epoch worker) job.engines old.placer lanes places made) (sym (append-nil (full_chunks job.chunk (update_home job) [] updates))) has.made;
}

-- what is left over of a partition waits in its buffer
left_waits : {X : Type 0} (state : X → DiskState) (job : Job) (epoch worker q : ℕ) (updates : List Update) (old now : Outgoing) (placer : Placing) (lanes : List X) (places : List Placed) (d : Vec Update Global) → q < length old.buffers.items → now.buffers ≡ old.buffers
    → HasSent state job epoch worker updates old.buffers.items placer lanes places → (get_or now.buffers.items q d).items ≡ left_over job.chunk (update_home job) updates q
left_waits state job epoch worker q updates old now placer lanes places d within same has =
    ap (λ v. (get_or v.items q d).items) same ∙ sym (waiting_at old.buffers.items q d within) ∙ has.holds.hold q (omega (arith, has.holds.many, length_waiting old.buffers.items, within))
  where
    length_waiting : (xs : List (Vec Update Global)) → length (waiting xs) ≡ length xs
    length_waiting [] = refl
    length_waiting (x ∷ xs) = omega (arith, length_waiting xs)

pub flushing_skip : {X : Type 0} (state : X → DiskState) (number q : ℕ) (old now : Outgoing) (lanes written : List X) (places noted : List Placed) (d : Vec Update Global) → q < length old.buffers.items
    → length (get_or now.buffers.items q d).items ≡ 0 → IsFlushing state number q old now lanes written places noted → IsFlushing state number (q + 1) old now lanes written places noted
flushing_skip state number q old now lanes written places noted d below none is = record {
  same = is.same;
  room = is.room;
  buffers = is.buffers;
  go_on = is.go_on;
  calm = is.calm;
  ready = is.ready;
  few = λ p. ((is.few p).0, λ later. (is.few p).1 (omega (arith, later)));
  within = is.within;
  made = λ job epoch worker updates of_job has.
      let left = left_waits state job epoch worker q updates old now old.placer lanes places d below is.buffers has in
      let more : rests_below job updates (q + 1) ≡ rests_below job updates q = rests-more job updates q ∙ ap (λ cs. rests_below job updates q ++ cs) (chunk_of_none q (left_over job.chunk (update_home job) updates q) (ap length (sym left) ∙ none)) ∙ append-nil (rests_below job updates q) in
      subst (λ made. HasMade state job.seed (update_stream epoch worker) job.engines now.placer written noted (full_chunks job.chunk (update_home job) [] updates ++ made)) (sym more) (is.made job epoch worker updates of_job has);
}

abbrev one_chunk : ℕ → List Update → List (Chunk Update)
one_chunk p items = record { partition = p; items = items } ∷ []

-- places with one more
places_in-here : (p : ℕ) (old new : List Placed) (place : Placed) → new ≡ old ++ place ∷ [] → places_in p new ≤ places_in p old + 1
places_in-here p old new place is = by_test (place.partition == p) refl
  where
    more : places_in p new ≡ places_in p old + count_by (λ (other : Placed). other.partition == p) (place ∷ [])
    more = ap (places_in p) is ∙ sum_by-append _ old (place ∷ [])

    by_test : (b : Bool) → (place.partition == p) ≡ b → places_in p new ≤ places_in p old + 1
    by_test true e = let one : count_by (λ (other : Placed). other.partition == p) (place ∷ []) ≡ 1 = ap (λ b. 0 + cond b 1 0) e in omega (arith, more, one)
    by_test false e = let none : count_by (λ (other : Placed). other.partition == p) (place ∷ []) ≡ 0 = ap (λ b. 0 + cond b 1 0) e in omega (arith, more, none)

places_in-other : (p : ℕ) (old new : List Placed) (place : Placed) → new ≡ old ++ place ∷ [] → (place.partition == p) ≡ false → places_in p new ≡ places_in p old
places_in-other p old new place is other =
    let none : count_by (λ (place : Placed). place.partition == p) (place ∷ []) ≡ 0 = ap (λ b. 0 + cond b 1 0) other in
    omega (arith, ap (places_in p) is, sum_by-append (λ (place : Placed). cond (place.partition == p) 1 0) old (place ∷ []), none)

-- the places where the chunk of partition q is noted
few_more : (q p : ℕ) (start old new : List Placed) (engines : ℕ) → HasNoted engines q old new
    → (places_in p old ≤ places_in p start + 1) × (q ≤ p → places_in p old ≤ places_in p start)
    → (places_in p new ≤ places_in p start + 1) × (q + 1 ≤ p → places_in p new ≤ places_in p start)
few_more q p start old new engines noted few = by_place (same_or_other q p)
  where
    here : places_in p new ≤ places_in p old + 1
    here = places_in-here p old new noted.place noted.is

    by_place : (q ≡ p) ⊎ (q ≢ p) → (places_in p new ≤ places_in p start + 1) × (q + 1 ≤ p → places_in p new ≤ places_in p start)
    by_place (inl same) = (omega (arith, here, few.1 (omega (arith, same))), λ later. absurd (omega (arith, same, later)))
    by_place (inr apart) =
        let other = places_in-other p old new noted.place noted.is (ne_eqb noted.place.partition p (λ is. apart (sym noted.partition_is ∙ is))) in
        (omega (arith, other, few.0), λ later. omega (arith, other, few.1 (omega (arith, later))))

pub flushing_one : {X : Type 0} (state : X → DiskState) (number q : ℕ) (old now new : Outgoing) (lanes mid written : List X) (places noted after : List Placed) (d : Vec Update Global) → q < length old.buffers.items → q < old.split.parts
    → 0 < length (get_or now.buffers.items q d).items → IsFlushing state number q old now lanes mid places noted
    → IsSameRoom now new → HasRoom new → new.buffers ≡ now.buffers → GoOn state number mid written → NoneRose state mid written → AreReady state new.split.engines number (length after) written → HasNoted now.split.engines q noted after
    → ((seed stream engines : ℕ) (made : List (Chunk Update)) (e : Vec Update Global) → HasMade state seed stream engines now.placer mid noted made
    → HasMade state seed stream engines new.placer written after (made ++ record { partition = q; items = (get_or now.buffers.items q e).items } ∷ []))
    → IsFlushing state number (q + 1) old new lanes written places after
flushing_one {X} state number q old now new lanes mid written places noted after d below in_parts some is same room buffers go calm ready one more = record {
  same = record { split = same.split ∙ is.same.split; size = same.size ∙ is.same.size; format = same.format ∙ is.same.format; bytes = same.bytes ∙ is.same.bytes };
  room = room;
  buffers = buffers ∙ is.buffers;
  go_on = goes_on state number lanes mid written is.go_on go;
  calm = calm ∙ is.calm;
  ready = ready;
  few = λ p. few_more q p places noted after now.split.engines one (is.few p);
  within = λ all.
      let engine : one.place.engine < old.split.engines = omega (arith, one.engine_is, ap (λ (s : Split). s.engines) is.same.split) in
      let partition : one.place.partition < old.split.parts = omega (arith, one.partition_is, in_parts) in
      subst (λ ps. All (IsWithin old.split.engines old.split.parts) ps) (sym one.is)
      (All-push (IsWithin old.split.engines old.split.parts) noted one.place (is.within all) (record { engine = engine; partition = partition }));
  made = λ job epoch worker updates of_job has.
      let left : (get_or now.buffers.items q d).items ≡ left_over job.chunk (update_home job) updates q = left_waits state job epoch worker q updates old now old.placer lanes places d below is.buffers has in
      let full : List (Chunk Update) = full_chunks job.chunk (update_home job) [] updates in
      let chunk : chunk_of q (left_over job.chunk (update_home job) updates q) ≡ one_chunk q (get_or now.buffers.items q d).items = ap (chunk_of q) (sym left) ∙ chunk_of_some q (get_or now.buffers.items q d).items some in
      let longer : full ++ rests_below job updates (q + 1) ≡ (full ++ rests_below job updates q) ++ one_chunk q (get_or now.buffers.items q d).items =
      ap (λ cs. full ++ cs) (rests-more job updates q ∙ ap (λ cs. rests_below job updates q ++ cs) chunk) ∙ sym (append_assoc full (rests_below job updates q) (one_chunk q (get_or now.buffers.items q d).items)) in
      subst (λ made. HasMade state job.seed (update_stream epoch worker) job.engines new.placer written after made) (sym longer)
      (more job.seed (update_stream epoch worker) job.engines (full ++ rests_below job updates q) d (is.made job epoch worker updates of_job has));
}

pub flushed_all : {X : Type 0} (state : X → DiskState) (number : ℕ) (old now : Outgoing) (lanes written : List X) (places noted : List Placed) (job : Job) (epoch worker : ℕ) (updates : List Update) → IsSplitOf job old.split
    → IsFlushing state number old.split.parts old now lanes written places noted → HasSent state job epoch worker updates old.buffers.items old.placer lanes places → AreWritten state written noted (update_shelf job epoch worker updates)
flushed_all state number old now lanes written places noted job epoch worker updates of_job is has =
    let whole : full_chunks job.chunk (update_home job) [] updates ++ rests_below job updates old.split.parts ≡ full_chunks job.chunk (update_home job) [] updates ++ rests_below job updates (parts_of job) = ap (λ k. full_chunks job.chunk (update_home job) [] updates ++ rests_below job updates k) of_job.parts in
    subst (λ made. AreWritten state written noted (placed job.seed (update_stream epoch worker) job.engines made)) whole (is.made job epoch worker updates of_job has).written

pub flushed_few : {X : Type 0} (state : X → DiskState) (number q : ℕ) (old now : Outgoing) (lanes written : List X) (places noted : List Placed) → IsFlushing state number q old now lanes written places noted → HasFlushed old.split.engines old.split.parts places noted
flushed_few state number q old now lanes written places noted is = record { few = λ p. (is.few p).0; within = is.within }
