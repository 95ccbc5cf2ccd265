-- One update more in a buffer, and a buffer that is emptied.
use Rattle.std.proofs.Common.{◌≡◌, ℕ, zero, suc, ◌+◌, ◌*◌, ◌<◌, ◌≤◌, true, List, [], ◌∷◌, ◌++◌, length, get_or, set, refl, sym, ◌∙◌, ap, subst, arith, append-nil, length-append, length-set}
use Rattle.std.specs.Prelude.{Vec, vec_len}
use Rattle.std.specs.Global.{Global}
use Rattle.std.specs.List.{All}
use Rattle.std.proofs.lemmas.List.{get_or-set_same, get_or-set_other, map-set}
use Rattle.std.proofs.lemmas.List.Elements.{All-push, All-nil}
use Rattle.graph_model.specs.declared.job.Job.{Job}
use Rattle.graph_model.specs.declared.value.Update.{Update}
use Rattle.graph_model.specs.Jobs.{parts_of}
use Rattle.graph_model.specs.Partitions.{partition_of}
use Rattle.graph_model.proofs.ListLemmas.{at_set, set-twice}
use Rattle.partitioner.specs.declared.split.Split.{Split}
use Rattle.partitioner.specs.Splits.{IsSplitOf}
use Rattle.ports.specs.Disk.{DiskState}
use Rattle.chunk_model.specs.Chunks.{Chunk, filled_by, full_chunks}
use Rattle.chunk_model.specs.Buffers.{Holds}
use Rattle.chunk_model.specs.Layout.{holds_update}
use Rattle.chunk_model.proofs.Counted.{full_chunks_few}
use Rattle.chunk_model.proofs.Waiting.{item_kept, item_fills, full_chunks-more}
use Rattle.seeded_place.specs.Placing.{Placing, update_stream, placed}
use Rattle.phase_model.specs.declared.placed.Placed.{Placed}
use Rattle.phase_model.specs.Lanes.{update_home}
use Rattle.update_lanes.specs.Lanes.{HasMade}
use Rattle.update_lanes.specs.Outgoing.{Lists, waiting, IsBuffer, AreBuffers, NoneFull, FitsJob, HasSent, Gains, Empties}
use Rattle.update_lanes.proofs.Written.{length-places_of, length-placed}

-- the partition of an update, by the split of the job
pub home_of_update : (job : Job) (split : Split) (u : Update) (p : ℕ) → IsSplitOf job split → p ≡ partition_of split.vertices split.parts u.dst → p ≡ update_home job u
home_of_update job split u p of_job is = is ∙ ap (λ n. partition_of n split.parts u.dst) of_job.vertices ∙ ap (λ k. partition_of job.vertices k u.dst) of_job.parts

-- the buffer that gained
pub gained_here : (p : ℕ) (u : Update) (old new : Lists) → p < length old → (g : Gains p u old new) → (d : Vec Update Global) → get_or new p d ≡ g.buffer
gained_here p u old new within g d = ap (λ xs. get_or xs p d) g.is ∙ get_or-set_same old p g.buffer d within

pub length-gains : (p : ℕ) (u : Update) (old new : Lists) → Gains p u old new → length new ≡ length old
length-gains p u old new g = ap length g.is ∙ length-set old p g.buffer

pub gains_room : (size p : ℕ) (u : Update) (old new : Lists) → p < length old → holds_update u ≡ true → AreBuffers size old → Gains p u old new → AreBuffers size new
gains_room size p u old new within held rooms g = λ k d below.
    let here : IsBuffer size (get_or old p g.buffer) = rooms p g.buffer within in
    let below_old : k < length old = omega (arith, length-gains p u old new g, below) in
    subst (λ xs. IsBuffer size (get_or xs k d)) (sym g.is)
    (at_set (λ j x. IsBuffer size x) old p k g.buffer d within
    (λ same. record {
      room = omega (arith, here.room, g.room g.buffer);
      held = subst (λ items. All (λ (v : Update). holds_update v ≡ true) items) (sym (g.gained g.buffer)) (All-push (λ (v : Update). holds_update v ≡ true) (get_or old p g.buffer).items u here.held held);
    })
    (λ other. rooms k d below_old))

pub gains_open : (size p : ℕ) (u : Update) (old new : Lists) → p < length old → NoneFull size old → (g : Gains p u old new) → vec_len g.buffer < size → NoneFull size new
gains_open size p u old new within open_all g left = λ k d below.
    let below_old : k < length old = omega (arith, length-gains p u old new g, below) in
    subst (λ xs. vec_len (get_or xs k d) < size) (sym g.is)
    (at_set (λ j x. vec_len x < size) old p k g.buffer d within (λ same. left) (λ other. open_all k d below_old))

pub length-empties : (p : ℕ) (mid new : Lists) → Empties p mid new → length new ≡ length mid
length-empties p mid new g = ap length g.is ∙ length-set mid p g.buffer

pub empties_room : (size p : ℕ) (mid new : Lists) → p < length mid → AreBuffers size mid → Empties p mid new → AreBuffers size new
empties_room size p mid new within rooms g = λ k d below.
    let here : IsBuffer size (get_or mid p g.buffer) = rooms p g.buffer within in
    let below_mid : k < length mid = omega (arith, length-empties p mid new g, below) in
    subst (λ xs. IsBuffer size (get_or xs k d)) (sym g.is)
    (at_set (λ j x. IsBuffer size x) mid p k g.buffer d within
    (λ same. record { room = omega (arith, here.room, g.room g.buffer); held = subst (λ items. All (λ (v : Update). holds_update v ≡ true) items) (sym g.none) (All-nil (λ (u : Update). holds_update u ≡ true)) })
    (λ other. rooms k d below_mid))

pub empties_open : (size p : ℕ) (u : Update) (old mid new : Lists) → p < length old → 1 ≤ size → NoneFull size old → Gains p u old mid → Empties p mid new → NoneFull size new
empties_open size p u old mid new within some open_all g e = λ k d below.
    let long = length-gains p u old mid g in
    let longer = length-empties p mid new e in
    let within_mid : p < length mid = omega (arith, long, within) in
    let below_old : k < length old = omega (arith, long, longer, below) in
    subst (λ xs. vec_len (get_or xs k d) < size) (sym e.is)
    (at_set (λ j x. vec_len x < size) mid p k e.buffer d within_mid (λ same. omega (arith, e.short, some))
    (λ other. subst (λ xs. vec_len (get_or xs k d) < size) (sym g.is) (subst (λ x. vec_len x < size) (sym (get_or-set_other old p k g.buffer d other)) (open_all k d below_old))))

-- what waits in one buffer
pub waiting_at : (xs : Lists) (p : ℕ) (d : Vec Update Global) → p < length xs → get_or (waiting xs) p [] ≡ (get_or xs p d).items
waiting_at [] p d within = absurd (omega (arith, within))
waiting_at (x ∷ xs) zero d within = refl
waiting_at (x ∷ xs) (suc p) d within = waiting_at xs p d (omega (arith, within))

pub length-waiting : (xs : Lists) → length (waiting xs) ≡ length xs
length-waiting [] = refl
length-waiting (x ∷ xs) = omega (arith, length-waiting xs)

waiting-gains : (p : ℕ) (u : Update) (old new : Lists) → p < length old → (g : Gains p u old new) → waiting new ≡ set (waiting old) p (get_or (waiting old) p [] ++ u ∷ [])
waiting-gains p u old new within g =
    ap waiting g.is ∙ map-set (λ (v : Vec Update Global). v.items) old p g.buffer
    ∙ ap (λ ys. set (waiting old) p ys) (g.gained g.buffer ∙ ap (λ ys. ys ++ u ∷ []) (sym (waiting_at old p g.buffer within)))

waiting-empties : (p : ℕ) (u : Update) (old mid new : Lists) → Gains p u old mid → Empties p mid new → waiting new ≡ set (waiting old) p []
waiting-empties p u old mid new g e =
    ap waiting (e.is ∙ ap (λ xs. set xs p e.buffer) g.is ∙ set-twice old p g.buffer e.buffer)
    ∙ map-set (λ (v : Vec Update Global). v.items) old p e.buffer
    ∙ ap (λ ys. set (waiting old) p ys) e.none

-- **An update that fills no buffer waits.**
pub sent_kept : {X : Type 0} (state : X → DiskState) (job : Job) (epoch worker : ℕ) (updates : List Update) (u : Update) (p : ℕ) (old new : Lists) (placer : Placing) (lanes : List X) (places : List Placed)
    → FitsJob job u → p ≡ update_home job u → p < length old → (g : Gains p u old new) → length g.buffer.items < job.chunk
    → HasSent state job epoch worker updates old placer lanes places → HasSent state job epoch worker (updates ++ u ∷ []) new placer lanes places
sent_kept {X} state job epoch worker updates u p old new placer lanes places fits home_is within g left has = record {
  fit = All-push (FitsJob job) updates u has.fit fits;
  below = All-push (λ (v : Update). update_home job v < parts_of job) updates u has.below below;
  holds = kept.0;
  made = subst (λ made. HasMade state job.seed (update_stream epoch worker) job.engines placer lanes places made)
      (sym (full_chunks-more job.chunk (update_home job) [] updates u ∙ ap (λ cs. full_chunks job.chunk (update_home job) [] updates ++ cs) kept.1 ∙ append-nil (full_chunks job.chunk (update_home job) [] updates))) has.made;
}
  where
    at : waiting new ≡ set (waiting old) (update_home job u) (get_or (waiting old) (update_home job u) [] ++ u ∷ [])
    at = subst (λ k. waiting new ≡ set (waiting old) k (get_or (waiting old) k [] ++ u ∷ [])) home_is (waiting-gains p u old new within g)

    below : update_home job u < parts_of job
    below = omega (arith, home_is, within, has.holds.many, length-waiting old)

    room : length (get_or (waiting old) (update_home job u) []) + 1 < job.chunk
    room = subst (λ k. length (get_or (waiting old) k []) + 1 < job.chunk) home_is (omega (arith, ap length (waiting_at old p g.buffer within), ap length (g.gained g.buffer), length-append (get_or old p g.buffer).items (u ∷ []), left))

    kept : Holds job.chunk (update_home job) (parts_of job) (updates ++ u ∷ []) (waiting new) × (filled_by job.chunk (update_home job) updates u ≡ [])
    kept = item_kept job.chunk (update_home job) (parts_of job) updates u (waiting old) (waiting new) has.holds below room at

abbrev one_chunk : ℕ → List Update → List (Chunk Update)
one_chunk p items = record { partition = p; items = items } ∷ []

-- **An update that fills its buffer: the chunk was written, and the buffer emptied.**
pub sent_full : {X : Type 0} (state : X → DiskState) (job : Job) (epoch worker : ℕ) (updates : List Update) (u : Update) (p : ℕ) (old mid new : Lists) (placer after : Placing) (lanes written : List X) (places noted : List Placed)
    → FitsJob job u → p ≡ update_home job u → p < length old → (g : Gains p u old mid) → Empties p mid new → length g.buffer.items ≡ job.chunk
    → HasSent state job epoch worker updates old placer lanes places
    → (HasMade state job.seed (update_stream epoch worker) job.engines placer lanes places (full_chunks job.chunk (update_home job) [] updates)
    → HasMade state job.seed (update_stream epoch worker) job.engines after written noted (full_chunks job.chunk (update_home job) [] updates ++ record { partition = p; items = g.buffer.items } ∷ []))
    → HasSent state job epoch worker (updates ++ u ∷ []) new after written noted
sent_full {X} state job epoch worker updates u p old mid new placer after lanes written places noted fits home_is within g e full has more = record {
  fit = All-push (FitsJob job) updates u has.fit fits;
  below = All-push (λ (v : Update). update_home job v < parts_of job) updates u has.below below;
  holds = fills.0;
  made = subst (λ made. HasMade state job.seed (update_stream epoch worker) job.engines after written noted made)
      (sym (full_chunks-more job.chunk (update_home job) [] updates u ∙ ap (λ cs. full_chunks job.chunk (update_home job) [] updates ++ cs) (fills.1 ∙ sym chunk_is)))
      (more has.made);
}
  where
    at : waiting new ≡ set (waiting old) (update_home job u) []
    at = subst (λ k. waiting new ≡ set (waiting old) k []) home_is (waiting-empties p u old mid new g e)

    below : update_home job u < parts_of job
    below = omega (arith, home_is, within, has.holds.many, length-waiting old)

    room : length (get_or (waiting old) (update_home job u) []) + 1 ≡ job.chunk
    room = subst (λ k. length (get_or (waiting old) k []) + 1 ≡ job.chunk) home_is (omega (arith, ap length (waiting_at old p g.buffer within), ap length (g.gained g.buffer), length-append (get_or old p g.buffer).items (u ∷ []), full))

    fills : Holds job.chunk (update_home job) (parts_of job) (updates ++ u ∷ []) (waiting new)
        × (filled_by job.chunk (update_home job) updates u ≡ record { partition = update_home job u; items = get_or (waiting old) (update_home job u) [] ++ u ∷ [] } ∷ [])
    fills = item_fills job.chunk (update_home job) (parts_of job) updates u (waiting old) (waiting new) has.holds below room at

    items_are : g.buffer.items ≡ get_or (waiting old) (update_home job u) [] ++ u ∷ []
    items_are = subst (λ k. g.buffer.items ≡ get_or (waiting old) k [] ++ u ∷ []) home_is (g.gained g.buffer ∙ ap (λ ys. ys ++ u ∷ []) (sym (waiting_at old p g.buffer within)))

    chunk_is : one_chunk p g.buffer.items ≡ one_chunk (update_home job u) (get_or (waiting old) (update_home job u) [] ++ u ∷ [])
    chunk_is = ap (λ k. one_chunk k g.buffer.items) home_is ∙ ap (one_chunk (update_home job u)) items_are

-- **Each chunk that was written used up as many updates as its size.**
pub places_few : {X : Type 0} (state : X → DiskState) (job : Job) (epoch worker : ℕ) (updates : List Update) (buffers : Lists) (placer : Placing) (lanes : List X) (places : List Placed)
    → 1 ≤ job.chunk → HasSent state job epoch worker updates buffers placer lanes places → length places * job.chunk ≤ length updates
places_few state job epoch worker updates buffers placer lanes places some has =
    let made : List (Chunk Update) = full_chunks job.chunk (update_home job) [] updates in
    let many : length places ≡ length made = ap length has.made.written.places_are ∙ length-places_of 12 (λ engine. 0) (placed job.seed (update_stream epoch worker) job.engines made) ∙ length-placed job.seed (update_stream epoch worker) job.engines made in
    subst (λ k. k * job.chunk ≤ length updates) (sym many) (full_chunks_few job.chunk (update_home job) (parts_of job) updates some has.below)
