-- The chunks of all workers and their places.
use Rattle.std.proofs.Common.{◌≡◌, ℕ, zero, suc, ◌+◌, ◌*◌, ◌/◌, ◌<◌, ◌≤◌, ◌==◌, ◌&&◌, false, List, [], ◌∷◌, ◌++◌, length, map, filter, take, refl, sym, ◌∙◌, ap, subst, arith, get_or, append_assoc, add-zero, length-take-le}
use Rattle.std.specs.Prelude.{Vec}
use Rattle.std.specs.Global.{Global}
use Rattle.std.specs.List.{All, enumerate_from}
use Rattle.std.proofs.Math.Nat.{mod-lt}
use Rattle.std.proofs.lemmas.Bool.{lt-ltb, ne_eqb}
use Rattle.std.proofs.lemmas.List.{append-nil, map-append, length-map, take_more}
use Rattle.std.proofs.lemmas.List.Elements.{filter-append, All-append, All-map, All-weaker}
use Rattle.graph_model.specs.declared.value.Update.{Update}
use Rattle.graph_model.specs.declared.job.Job.{Job}
use Rattle.graph_model.specs.Jobs.{IsWellFormedJob, parts_of}
use Rattle.partitioner.specs.declared.split.Split.{Split}
use Rattle.partitioner.specs.Splits.{IsSplitOf}
use Rattle.partitioner.proofs.Ranges.{partition_of-below}
use Rattle.chunk_object.specs.Epochs.{cursor_of}
use Rattle.chunk_model.specs.Chunks.{Chunk, IsChunkOf}
use Rattle.chunk_model.specs.Layout.{update_layout}
use Rattle.chunk_model.specs.ChunkBytes.{AreChunk}
use Rattle.chunk_model.proofs.Made.{chunks_are}
use Rattle.chunk_model.proofs.Counted.{chunks_within}
use Rattle.seeded_place.specs.Placing.{on_engine, engine_of, update_stream}
use Rattle.phase_model.specs.declared.placed.Placed.{Placed}
use Rattle.phase_model.specs.Shelves.{Shelf, at_cursor, width_of_chunks, places_of}
use Rattle.phase_model.specs.Lanes.{update_home, update_chunks, update_shelf, all_updates}
use Rattle.chunk_file.specs.declared.index.Place.{Place}
use Rattle.update_lanes.specs.Outgoing.{FitsJob}
use Rattle.scatter_epoch.specs.Joining.{places_at, all_places}
use Rattle.scatter_epoch.proofs.Pairs.{Paired, paired-append}
use Rattle.scatter_epoch.proofs.Walks.{places_walk, paired_walk}

-- what is placed keeps what it is
placed_from : {Y : Type 0} (P : ℕ × Y → Type 0) (f : ℕ → ℕ) (n : ℕ) (ys : List Y) → ((k : ℕ) (y : Y) → P (f k, y)) → All P (map (λ (numbered : ℕ × Y). (f numbered.0, numbered.1)) (enumerate_from n ys))
placed_from P f n [] each k d below = absurd (omega arith)
placed_from P f n (y ∷ ys) each zero d below = each n y
placed_from P f n (y ∷ ys) each (suc k) d below = placed_from P f (n + 1) ys each k d (omega arith)

items_placed : {Y : Type 0} (P : Y → Type 0) (f : ℕ → ℕ) (n : ℕ) (ys : List Y) → All P ys → All (λ (c : ℕ × Y). P c.1) (map (λ (numbered : ℕ × Y). (f numbered.0, numbered.1)) (enumerate_from n ys))
items_placed P f n [] each k d below = absurd (omega arith)
items_placed P f n (y ∷ ys) each zero d below = each 0 y (omega arith)
items_placed P f n (y ∷ ys) each (suc k) d below = items_placed P f (n + 1) ys (λ j x within. each (suc j) x (omega (arith, within))) k d (omega arith)

-- Worker by worker.
abbrev pub EachWorker : (ℕ → List Placed → List Update → Type 0) → ℕ → List (List Placed) → List (List Update) → Type 0
EachWorker P worker [] [] = Unit {0}
EachWorker P worker (own ∷ others) (updates ∷ rest) = P worker own updates × EachWorker P (worker + 1) others rest
EachWorker P worker [] (updates ∷ rest) = ⊥
EachWorker P worker (own ∷ others) [] = ⊥

pub each_weaker : (P Q : ℕ → List Placed → List Update → Type 0) → ((w : ℕ) (own : List Placed) (updates : List Update) → P w own updates → Q w own updates) → (worker : ℕ) (lists : List (List Placed)) (sent : List (List Update)) → EachWorker P worker lists sent → EachWorker Q worker lists sent
each_weaker P Q weaker worker [] [] each = tt
each_weaker P Q weaker worker (own ∷ others) (updates ∷ rest) each = (weaker worker own updates each.0, each_weaker P Q weaker (worker + 1) others rest each.1)
each_weaker P Q weaker worker [] (updates ∷ rest) each = absurd each
each_weaker P Q weaker worker (own ∷ others) [] each = absurd each

module _ (job : Job) (good : IsWellFormedJob job) (epoch : ℕ) where
  -- the chunks of updates of the job
  abbrev pub IsGood : ℕ × Chunk Update → Type 0
  IsGood c = (IsChunkOf job.chunk (update_home job) c.1 × All (FitsJob job) c.1.items) × (c.1.partition < parts_of job)

  homes : 1 ≤ parts_of job → (updates : List Update) → All (FitsJob job) updates → All (λ (u : Update). update_home job u < parts_of job) updates
  homes some updates fit k u below = partition_of-below job.vertices (parts_of job) (get_or updates k u).dst some (fit k u below).dst

  pub shelf_good : 1 ≤ parts_of job → (worker : ℕ) (updates : List Update) → All (FitsJob job) updates → All IsGood (update_shelf job epoch worker updates)
  shelf_good some worker updates fit =
      let chunk : 1 ≤ job.chunk = good.chunk.0 in
      let are = chunks_are (FitsJob job) job.chunk (update_home job) (parts_of job) updates chunk fit in
      let within = chunks_within job.chunk (update_home job) (parts_of job) updates chunk (homes some updates fit) in
      items_placed (λ (c : Chunk Update). (IsChunkOf job.chunk (update_home job) c × All (FitsJob job) c.items) × (c.partition < parts_of job)) (engine_of job.seed (update_stream epoch worker) job.engines) 0 (update_chunks job updates)
      (λ k c below. (are k c below, within k c below))

  pub shelf_engines : (worker : ℕ) (updates : List Update) → All (λ (c : ℕ × Chunk Update). c.0 < job.engines) (update_shelf job epoch worker updates)
  unfolding engine_of
  shelf_engines worker updates =
      let some : 0 < job.engines = let engines = good.engines.0 in omega arith in
      placed_from (λ (c : ℕ × Chunk Update). c.0 < job.engines) (engine_of job.seed (update_stream epoch worker) job.engines) 0 (update_chunks job updates) (λ k c. mod-lt _ some)

  -- the records of a chunk
  pub chunk_is : (split : Split) → IsSplitOf job split → (c : ℕ × Chunk Update) → IsGood c → AreChunk update_layout split.vertices split.span job.chunk c.1.partition c.1.items
  chunk_is split of_job c is = record {
    some = is.0.0.some;
    few = is.0.0.few;
    counted = let few = is.0.0.few in let most = good.chunk.1 in omega (arith, few, most);
    held = λ k u below. (is.0.1 k u below).holds;
    belong = λ k u below. record {
      fits = lt-ltb (get_or c.1.items k u).dst split.vertices (let dst = (is.0.1 k u below).dst in omega (arith, of_job.vertices, dst));
      home = subst (λ span. update_layout.home (get_or c.1.items k u) / span ≡ c.1.partition) (sym of_job.span) (is.0.0.of_partition k u below);
    };
  }

  at_cursor-append : (xs ys : Shelf Update) (cursor : ℕ) → at_cursor (xs ++ ys) cursor ≡ at_cursor xs cursor ++ at_cursor ys cursor
  at_cursor-append xs ys cursor =
      ap (map (λ (c : ℕ × Chunk Update). c.1)) (filter-append (λ (c : ℕ × Chunk Update). cursor_of c.0 c.1.partition == cursor) xs ys)
      ∙ map-append (λ (c : ℕ × Chunk Update). c.1) (filter (λ (c : ℕ × Chunk Update). cursor_of c.0 c.1.partition == cursor) xs) (filter (λ (c : ℕ × Chunk Update). cursor_of c.0 c.1.partition == cursor) ys)

  pub paired_all : (R : Place → Chunk Update → Type 0) (e p worker : ℕ) (lists : List (List Placed)) (sent : List (List Update)) →
      EachWorker (λ w own updates. Paired R (places_at w e p own) (at_cursor (update_shelf job epoch w updates) (cursor_of e p))) worker lists sent →
      Paired R (all_places worker e p lists) (at_cursor (all_updates job epoch worker sent) (cursor_of e p))
  paired_all R e p worker [] [] each = tt
  paired_all R e p worker (own ∷ others) (updates ∷ rest) each =
      subst (Paired R (all_places worker e p (own ∷ others))) (sym (at_cursor-append (update_shelf job epoch worker updates) (all_updates job epoch (worker + 1) rest) (cursor_of e p)))
      (paired-append R (places_at worker e p own) (all_places (worker + 1) e p others) (at_cursor (update_shelf job epoch worker updates) (cursor_of e p)) (at_cursor (all_updates job epoch (worker + 1) rest) (cursor_of e p)) each.0 (paired_all R e p (worker + 1) others rest each.1))
  paired_all R e p worker [] (updates ∷ rest) each = absurd each
  paired_all R e p worker (own ∷ others) [] each = absurd each

  -- a worker's places are those of its chunks
  pub record IsWorker (w : ℕ) (own : List Placed) (updates : List Update) : Type 0 where
    pub fit : All (FitsJob job) updates
    pub places : own ≡ places_of 12 (λ engine. 0) (update_shelf job epoch w updates)

  small : 1 ≤ parts_of job → (w : ℕ) (updates : List Update) → All (FitsJob job) updates → All (λ (c : ℕ × Chunk Update). c.1.partition < 64) (update_shelf job epoch w updates)
  small some w updates fit k c below = let within = (shelf_good some w updates fit k c below).1 in let parts = good.few_parts in omega (arith, within, parts)

  -- what is true of each chunk of a worker, with its place, is true of those of a cursor
  pub paired_worker : 1 ≤ parts_of job → (R : Place → Chunk Update → Type 0) (e p w : ℕ) → p < 64 → (own : List Placed) (updates : List Update) → IsWorker w own updates →
      ((before : Shelf Update) (c : ℕ × Chunk Update) (behind : Shelf Update) → before ++ c ∷ behind ≡ update_shelf job epoch w updates → c.0 ≡ e → c.1.partition ≡ p → R (record { lane = w; at = 0 + width_of_chunks 12 (on_engine c.0 before) }) c.1) →
      Paired R (places_at w e p own) (at_cursor (update_shelf job epoch w updates) (cursor_of e p))
  paired_worker some R e p w below own updates is each =
      subst (λ places. Paired R (places_at w e p places) (at_cursor (update_shelf job epoch w updates) (cursor_of e p))) (sym (is.places ∙ places_walk (update_shelf job epoch w updates)))
      (paired_walk R w e p below [] (update_shelf job epoch w updates) (small some w updates is.fit) each)

  -- no cursor beyond the last has a chunk
  none_beyond : (cursor : ℕ) → 512 ≤ cursor → (made : Shelf Update) → All (λ (c : ℕ × Chunk Update). cursor_of c.0 c.1.partition < 512) made → at_cursor made cursor ≡ []
  none_beyond cursor far [] below = refl
  none_beyond cursor far (c ∷ made) below =
      let here : cursor_of c.0 c.1.partition < 512 = below 0 c (omega arith) in
      let test : (cursor_of c.0 c.1.partition == cursor) ≡ false = ne_eqb (64 * c.0 + c.1.partition) cursor (λ same. omega (arith, same, here, far)) in
      rw test (none_beyond cursor far made (λ k d within. below (suc k) d (omega (arith, within))))

  pub none_far : 1 ≤ parts_of job → (cursor worker : ℕ) → 512 ≤ cursor → (sent : List (List Update)) → All (All (FitsJob job)) sent → at_cursor (all_updates job epoch worker sent) cursor ≡ []
  none_far some cursor worker far [] fit = refl
  none_far some cursor worker far (updates ∷ rest) fit =
      let mine = fit 0 updates (omega arith) in
      let within : All (λ (c : ℕ × Chunk Update). cursor_of c.0 c.1.partition < 512) (update_shelf job epoch worker updates) =
      λ k c below. let a = shelf_engines worker updates k c below in let b = small some worker updates mine k c below in let e = good.engines.1 in omega (arith, a, b, e) in
      at_cursor-append (update_shelf job epoch worker updates) (all_updates job epoch (worker + 1) rest) cursor
      ∙ ap (λ cs. cs ++ at_cursor (all_updates job epoch (worker + 1) rest) cursor) (none_beyond cursor far (update_shelf job epoch worker updates) within)
      ∙ none_far some cursor (worker + 1) far rest (λ k d below. fit (suc k) d (omega (arith, below)))

-- the lanes that the places of some workers name
all_lane : (w e p : ℕ) (own : List Placed) → All (λ (place : Place). place.lane ≡ w) (places_at w e p own)
all_lane w e p own = All-map (λ (place : Place). place.lane ≡ w) (λ (q : Placed). record { lane = w; at = q.at }) (filter (λ (q : Placed). (q.engine == e) && (q.partition == p)) own) (λ k d below. refl)

pub lanes_below : (w e p : ℕ) (lists : List (List Placed)) → All (λ (place : Place). place.lane < w + length lists) (all_places w e p lists)
lanes_below w e p [] = λ k d below. absurd (omega arith)
lanes_below w e p (own ∷ others) =
    All-append (λ (place : Place). place.lane < w + length (own ∷ others)) (places_at w e p own) (all_places (w + 1) e p others)
    (All-weaker (λ (place : Place). place.lane ≡ w) (λ (place : Place). place.lane < w + length (own ∷ others)) (λ place is. omega (arith, is)) (places_at w e p own) (all_lane w e p own))
    (All-weaker (λ (place : Place). place.lane < w + 1 + length others) (λ (place : Place). place.lane < w + length (own ∷ others)) (λ place is. omega (arith, is)) (all_places (w + 1) e p others) (lanes_below (w + 1) e p others))

-- one worker more in an index
pub all_places-more : (w e p : ℕ) (lists : List (List Placed)) (own : List Placed) → all_places w e p (lists ++ own ∷ []) ≡ all_places w e p lists ++ places_at (w + length lists) e p own
all_places-more w e p [] own = append-nil (places_at w e p own) ∙ ap (λ k. places_at k e p own) (sym (add-zero w))
all_places-more w e p (first ∷ lists) own =
    ap (λ places. places_at w e p first ++ places) (all_places-more (w + 1) e p lists own ∙ ap (λ k. all_places (w + 1) e p lists ++ places_at k e p own) (omega arith))
    ∙ sym (append_assoc (places_at w e p first) (all_places (w + 1) e p lists) (places_at (w + length (first ∷ lists)) e p own))

pub index_more : (lists : List (Vec Placed Global)) (w e p : ℕ) (row : Vec Placed Global) (old new : List Place) (own : List Placed) → w < length lists → row ≡ get_or lists w row → own ≡ row.items →
    old ≡ all_places 0 e p (map (λ (v : Vec Placed Global). v.items) (take w lists)) → new ≡ old ++ places_at w e p own → new ≡ all_places 0 e p (map (λ (v : Vec Placed Global). v.items) (take (w + 1) lists))
index_more lists w e p row old new own below is items so_far added =
    let before : List (List Placed) = map (λ (v : Vec Placed Global). v.items) (take w lists) in
    let long : 0 + length before ≡ w = omega (arith, length-map (take w lists) (λ (v : Vec Placed Global). v.items), length-take-le w lists (omega arith)) in
    let whole : map (λ (v : Vec Placed Global). v.items) (take (w + 1) lists) ≡ before ++ own ∷ [] =
    ap (map (λ (v : Vec Placed Global). v.items)) (take_more lists w row below ∙ ap (λ r. take w lists ++ r ∷ []) (sym is)) ∙ map-append (λ (v : Vec Placed Global). v.items) (take w lists) (row ∷ []) ∙ ap (λ o. before ++ o ∷ []) (sym items) in
    added ∙ ap (λ places. places ++ places_at w e p own) so_far
    ∙ ap (λ k. all_places 0 e p before ++ places_at k e p own) (sym long)
    ∙ sym (all_places-more 0 e p before own) ∙ ap (all_places 0 e p) (sym whole)
