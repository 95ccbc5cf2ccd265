-- The bytes of a job's graph devices tell its chunks, and no other.
use Rattle.std.proofs.Common.{◌≡◌, ◌∙◌, ℕ, suc, ◌+◌, ◌<◌, ◌≤◌, List, [], ◌∷◌, ◌++◌, length, take, drop, inl, inr, refl, sym, ap, subst, arith, append-nil, append_assoc, length-append, length-drop}
use Rattle.std.specs.List.{All}
use Rattle.std.proofs.Math.Seq.{take-append_seam, drop-append_seam}
use Rattle.std.proofs.lemmas.List.{append_cancel_left}
use Rattle.std.proofs.lemmas.List.Elements.{All-head, All-tail, All-weaker}
use Rattle.graph_model.specs.declared.edge.Edge.{Edge}
use Rattle.graph_model.specs.declared.job.Job.{Job}
use Rattle.graph_model.specs.Jobs.{parts_of}
use Rattle.chunk_model.specs.Chunks.{Chunk}
use Rattle.chunk_model.specs.Layout.{Layout, IsLayout, edge_layout}
use Rattle.chunk_model.specs.ChunkBytes.{IsWritable, chunk_bytes, bytes_of_chunks}
use Rattle.chunk_model.proofs.LayoutLaws.{edge_layout_is}
use Rattle.chunk_model.proofs.ManyChunks.{same_chunks}
use Rattle.chunk_model.proofs.OnDevice.{one_chunk, length-chunk_bytes}
use Rattle.store_model.specs.declared.field.Field.TheVariants.{Format}
use Rattle.store_model.specs.Heads.{head}
use Rattle.store_model.specs.Graphs.{edge_chunks, chunks_on, graph_with, graph}
use Rattle.store_model.specs.Kept.{device}
use Rattle.store_model.specs.Damage.{value_of, IsEdgeChunk, NoEdgeChunk, BeginsWith, AreChunks, StopsAt, chunks_before, MOST_CHUNKS}
use Rattle.store_model.proofs.Growing.{length-head}
use Rattle.seeded_place.specs.Placing.{edge_stream}
use Rattle.seeded_place.proofs.Engines.{engine_below}
use Rattle.restart.specs.Storable.{IsStorable}
use Rattle.restart.proofs.HeadsOfJobs.{head_says, parts_said}
use Rattle.restart.proofs.ChunksOfJobs.{on_engine_are}
use Rattle.restart.proofs.PlacedChunks.{over, over_more, over_same, over_le, length_on}

-- the chunks that one list begins with
module _ {X : Type 0} (layout : Layout X) (laws : IsLayout layout) where
  pub begins : (cs ds : List (Chunk X)) (rest : List ℕ) → All (IsWritable layout) cs → All (IsWritable layout) ds → bytes_of_chunks layout ds ≡ bytes_of_chunks layout cs ++ rest
      → (more : List (Chunk X)) × (ds ≡ cs ++ more) × (rest ≡ bytes_of_chunks layout more)
  begins [] ds rest good good' same = (ds, refl, sym same)
  begins (c ∷ cs) [] rest good good' same =
      let longer : length (bytes_of_chunks layout (c ∷ cs) ++ rest) ≡ 0 = ap length (sym same) in
      absurd (omega (arith, longer, length-append (bytes_of_chunks layout (c ∷ cs)) rest, length-append (chunk_bytes layout c.partition c.items) (bytes_of_chunks layout cs), length-chunk_bytes layout laws c.partition c.items))
  begins (c ∷ cs) (d ∷ ds) rest good good' same =
      let here = All-head (IsWritable layout) c cs good in
      let here' = All-head (IsWritable layout) d ds good' in
      let front = append_assoc (chunk_bytes layout c.partition c.items) (bytes_of_chunks layout cs) rest in
      let both = one_chunk layout laws c.partition d.partition 0 (bytes_of_chunks layout (d ∷ ds)) c.items d.items
      here.partition here'.partition here.few here'.few here.held here'.held (bytes_of_chunks layout cs ++ rest, same ∙ front) (bytes_of_chunks layout ds, refl) in
      let made : ℕ → List X → Chunk X = λ p xs. record { partition = p; items = xs } in
      let first : c ≡ d = ap (λ p. made p c.items) both.0 ∙ ap (λ xs. made d.partition xs) both.1 in
      let behind : bytes_of_chunks layout ds ≡ bytes_of_chunks layout cs ++ rest =
      append_cancel_left (chunk_bytes layout d.partition d.items) (bytes_of_chunks layout ds) (bytes_of_chunks layout cs ++ rest)
      (same ∙ front ∙ ap (λ (x : Chunk X). chunk_bytes layout x.partition x.items ++ (bytes_of_chunks layout cs ++ rest)) first) in
      let others = begins cs ds rest (All-tail (IsWritable layout) c cs good) (All-tail (IsWritable layout) d ds good') behind in
      (others.0, ap (λ x. x ∷ ds) (sym first) ∙ ap (λ xs. c ∷ xs) others.1, others.2)

-- The head and the rest of a graph device.
pub graph_head : (job : Job) (edges : List Edge) (e : ℕ) → take 65 (graph job edges e) ≡ head 165 job e
unfolding graph_with
graph_head job edges e =
    subst (λ n. take n (graph job edges e) ≡ head 165 job e) (length-head 165 job e)
    (take-append_seam (head 165 job e) (bytes_of_chunks (edge_layout job.format) (chunks_on job e (edge_chunks job edges))))

graph_rest : (job : Job) (edges : List Edge) (e : ℕ) → drop 65 (graph job edges e) ≡ bytes_of_chunks (edge_layout job.format) (chunks_on job e (edge_chunks job edges))
unfolding graph_with
graph_rest job edges e =
    subst (λ n. drop n (graph job edges e) ≡ bytes_of_chunks (edge_layout job.format) (chunks_on job e (edge_chunks job edges))) (length-head 165 job e)
    (drop-append_seam (head 165 job e) (bytes_of_chunks (edge_layout job.format) (chunks_on job e (edge_chunks job edges))))

module _ (job : Job) (edges : List Edge) (storable : IsStorable job edges) where
  -- the layout by the head, and the chunks of each engine
  abbrev layout : Layout Edge
  layout = edge_layout (value_of Format (head 165 job 0))

  abbrev pub all_chunks : (e : ℕ) → List (Chunk Edge)
  all_chunks e = chunks_on job e (edge_chunks job edges)

  rest_by_head : (e : ℕ) → drop 65 (graph job edges e) ≡ bytes_of_chunks layout (all_chunks e)
  rest_by_head e = graph_rest job edges e ∙ ap (λ f. bytes_of_chunks (edge_layout f) (all_chunks e)) (sym (head_says job 0 storable.job_is Format))

  writable : (c : Chunk Edge) → IsEdgeChunk (head 165 job 0) c → IsWritable layout c
  writable c is =
      let well = storable.job_is in
      let below : c.partition < parts_of job = subst (λ n. c.partition < n) (parts_said job 0 well) is.partition in
      record {
        partition = omega (arith, below, well.few_parts);
        few = is.are.counted;
        held = is.are.held;
      }

  all_writable : (cs : List (Chunk Edge)) → All (IsEdgeChunk (head 165 job 0)) cs → All (IsWritable layout) cs
  all_writable cs are = All-weaker (IsEdgeChunk (head 165 job 0)) (IsWritable layout) writable cs are

  -- **Chunks that the bytes of a graph device are, are the job's.**
  pub made_is : (e : ℕ) (made : List (Chunk Edge)) → BeginsWith (head 165 job 0) made [] (graph job edges e) → made ≡ all_chunks e
  made_is e made begins_with =
      same_chunks layout (edge_layout_is (value_of Format (head 165 job 0))) made (all_chunks e)
      (all_writable made begins_with.are) (all_writable (all_chunks e) (on_engine_are job edges e storable))
      (sym (append-nil (bytes_of_chunks layout made)) ∙ sym begins_with.stand ∙ rest_by_head e)

  pub is_whole : (e : ℕ) → BeginsWith (head 165 job 0) (all_chunks e) [] (graph job edges e)
  is_whole e = record { are = on_engine_are job edges e storable; stand = rest_by_head e ∙ sym (append-nil (bytes_of_chunks layout (all_chunks e))) }

  -- All engines together.
  pub all_counted : over (λ e. length (all_chunks e)) job.engines ≡ length (edge_chunks job edges)
  all_counted = length_on job.seed edge_stream job.engines (λ k. engine_below job.seed edge_stream job.engines k storable.job_is.engines.0) (edge_chunks job edges)

  -- where the chunks go on
  goes_on : (e at : ℕ) (made : List (Chunk Edge)) → BeginsWith (head 165 job 0) made (drop at (graph job edges e)) (graph job edges e)
      → (more : List (Chunk Edge)) × (all_chunks e ≡ made ++ more) × (drop at (graph job edges e) ≡ bytes_of_chunks layout more)
  goes_on e at made begins_with =
      begins layout (edge_layout_is (value_of Format (head 165 job 0))) made (all_chunks e) (drop at (graph job edges e))
      (all_writable made begins_with.are) (all_writable (all_chunks e) (on_engine_are job edges e storable))
      (sym (rest_by_head e) ∙ begins_with.stand)

  last_is : (made : List (Chunk Edge)) (d : Chunk Edge) (more : List (Chunk Edge)) → All (IsEdgeChunk (head 165 job 0)) (made ++ d ∷ more) → IsEdgeChunk (head 165 job 0) d
  last_is [] d more all = All-head (IsEdgeChunk (head 165 job 0)) d more all
  last_is (c ∷ cs) d more all = last_is cs d more (All-tail (IsEdgeChunk (head 165 job 0)) c (cs ++ d ∷ more) all)

  stops_not : (e at : ℕ) (made more : List (Chunk Edge)) → at < length (graph job edges e) → all_chunks e ≡ made ++ more → drop at (graph job edges e) ≡ bytes_of_chunks layout more
      → NoEdgeChunk (head 165 job 0) at (graph job edges e) → ⊥
  stops_not e at made [] within is rest none =
      absurd (omega (arith, within, ap length rest, length-drop at (graph job edges e)))
  stops_not e at made (d ∷ more) within is rest none =
      none d (last_is made d more (subst (All (IsEdgeChunk (head 165 job 0))) is (on_engine_are job edges e storable))) (bytes_of_chunks layout more, rest)

  fewer : (e at : ℕ) (made more : List (Chunk Edge)) → at < length (graph job edges e) → all_chunks e ≡ made ++ more → drop at (graph job edges e) ≡ bytes_of_chunks layout more → length made < length (all_chunks e)
  fewer e at made [] within is rest = absurd (omega (arith, within, ap length rest, length-drop at (graph job edges e)))
  fewer e at made (d ∷ more) within is rest = omega (arith, ap length is, length-append made (d ∷ more))

  -- **No scan stops.**
  pub no_stop : (graphs : List (List ℕ)) (e at : ℕ) → length graphs ≡ job.engines → ((k : ℕ) → k < job.engines → device graphs k ≡ graph job edges k) → StopsAt (head 165 job 0) graphs e at → ⊥
  no_stop graphs e at many are stops =
      let engine : e < job.engines = omega (arith, many, stops.engine) in
      let is = are e engine in
      let within : at < length (graph job edges e) = subst (λ bytes. at < length bytes) is stops.within in
      let here : BeginsWith (head 165 job 0) (stops.made e) (drop at (graph job edges e)) (graph job edges e) = subst (λ bytes. BeginsWith (head 165 job 0) (stops.made e) (drop at bytes) bytes) is stops.here in
      let on = goes_on e at (stops.made e) here in
      elim stops.stopped [
        | inl none ↦ stops_not e at (stops.made e) on.0 within on.1 on.2 (subst (NoEdgeChunk (head 165 job 0) at) is none)
        | inr full ↦
            let less = fewer e at (stops.made e) on.0 within on.1 on.2 in
            let before : over (λ k. length (stops.made k)) e ≡ over (λ k. length (all_chunks k)) e =
            over_same (λ k. length (stops.made k)) (λ k. length (all_chunks k)) e (λ k below. ap length (made_is k (stops.made k) (subst (BeginsWith (head 165 job 0) (stops.made k) []) (are k (omega (arith, below, engine))) (stops.before k below)))) in
            absurd (omega (arith, full, less, before, over_next (λ k. length (stops.made k)) e, over_next (λ k. length (all_chunks k)) e, over_le (λ k. length (all_chunks k)) (e + 1) job.engines (omega (arith, engine)), all_counted, storable.few))
      ]
    where
      over_next : (f : ℕ → ℕ) (n : ℕ) → over f (n + 1) ≡ over f n + f n
      over_next f n = let same : suc n ≡ n + 1 = omega arith in subst (λ k. over f k ≡ over f n + f n) same (over_more f n)

  -- **They are chunks and nothing else.**
  pub whole_chunks : (graphs : List (List ℕ)) → length graphs ≡ job.engines → ((k : ℕ) → k < job.engines → device graphs k ≡ graph job edges k) → AreChunks (head 165 job 0) graphs all_chunks
  whole_chunks graphs many are = record {
    each = λ e below. let engine : e < job.engines = omega (arith, many, below) in subst (BeginsWith (head 165 job 0) (all_chunks e) []) (sym (are e engine)) (is_whole e);
    few = subst (λ n. chunks_before all_chunks n ≤ MOST_CHUNKS) (sym many) (omega (arith, all_counted, storable.few));
  }

  -- **The index of what was found is that of the job's chunks.**
  pub found_chunks : (graphs : List (List ℕ)) (made : ℕ → List (Chunk Edge)) → length graphs ≡ job.engines → ((k : ℕ) → k < job.engines → device graphs k ≡ graph job edges k) → AreChunks (head 165 job 0) graphs made
      → (e : ℕ) → e < job.engines → made e ≡ all_chunks e
  found_chunks graphs made many are chunks e below =
      made_is e (made e) (subst (BeginsWith (head 165 job 0) (made e) []) (are e below) (chunks.each e (omega (arith, many, below))))
