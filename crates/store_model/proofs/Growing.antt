-- One chunk more: it goes to the end of the device of its engine, and the others stay.
use Rattle.std.proofs.Common.{◌≡◌, ◌≢◌, ◌∙◌, ℕ, ◌+◌, ◌==◌, Bool, true, false, cond, List, [], ◌∷◌, ◌++◌, length, map, filter, refl, ap, sym, arith, append-nil, append_assoc, length-append, eq-eqb}
use Rattle.std.proofs.lemmas.Bool.{ne_eqb}
use Rattle.std.proofs.lemmas.List.{map-append}
use Rattle.std.proofs.lemmas.List.Elements.{filter-append}
use Rattle.std.specs.List.{enumerate_from}
use Rattle.graph_model.specs.declared.edge.Edge.{Edge}
use Rattle.graph_model.specs.declared.job.Job.{Job}
use Rattle.graph_model.proofs.ListLemmas.{enumerate-more}
use Rattle.chunk_model.specs.Chunks.{Chunk}
use Rattle.chunk_model.specs.ChunkBytes.{chunk_bytes, bytes_of_chunks, starts_of}
use Rattle.chunk_model.specs.Layout.{edge_layout}
use Rattle.chunk_model.proofs.ManyChunks.{bytes_of_chunks-more, starts_of-here, starts_of-other}
use Rattle.seeded_place.specs.Placing.{engine_of, edge_stream, placed, on_engine}
use Rattle.store_model.specs.Heads.{HEAD_SIZE, head, front}
use Rattle.store_model.specs.Graphs.{chunks_on, graph_with, places_on}

-- the engine of the next chunk, where these were made before
abbrev pub next_engine : Job → List (Chunk Edge) → ℕ
next_engine job made = engine_of job.seed edge_stream job.engines (length made)

on_engine-append : {X : Type 0} (e : ℕ) (xs ys : List (ℕ × X)) → on_engine e (xs ++ ys) ≡ on_engine e xs ++ on_engine e ys
on_engine-append {X} e xs ys =
    ap (map (λ (pair : ℕ × X). pair.1)) (filter-append (λ (pair : ℕ × X). pair.0 == e) xs ys)
    ∙ map-append (λ (pair : ℕ × X). pair.1) (filter (λ (pair : ℕ × X). pair.0 == e) xs) (filter (λ (pair : ℕ × X). pair.0 == e) ys)

placed-more : {X : Type 0} (seed stream engines : ℕ) (xs : List X) (x : X) → placed seed stream engines (xs ++ x ∷ []) ≡ placed seed stream engines xs ++ (engine_of seed stream engines (length xs), x) ∷ []
placed-more {X} seed stream engines xs x =
    ap (map (λ (numbered : ℕ × X). (engine_of seed stream engines numbered.0, numbered.1))) (enumerate-more 0 xs x ∙ ap (λ (k : ℕ). enumerate_from 0 xs ++ (k, x) ∷ []) (omega arith))
    ∙ map-append (λ (numbered : ℕ × X). (engine_of seed stream engines numbered.0, numbered.1)) (enumerate_from 0 xs) ((length xs, x) ∷ [])

one_on_engine : {X : Type 0} (e k : ℕ) (x : X) (here : Bool) → (k == e) ≡ here → on_engine e ((k, x) ∷ []) ≡ cond here (x ∷ []) []
one_on_engine {X} e k x true is = rw is refl
one_on_engine {X} e k x false is = rw is refl

chunks_on-more : (job : Job) (e : ℕ) (made : List (Chunk Edge)) (c : Chunk Edge) (here : Bool) → (next_engine job made == e) ≡ here → chunks_on job e (made ++ c ∷ []) ≡ chunks_on job e made ++ cond here (c ∷ []) []
chunks_on-more job e made c here is =
    ap (on_engine e) (placed-more job.seed edge_stream job.engines made c)
    ∙ on_engine-append e (placed job.seed edge_stream job.engines made) ((next_engine job made, c) ∷ [])
    ∙ ap (λ rest. chunks_on job e made ++ rest) (one_on_engine e (next_engine job made) c here is)

pub chunks_on-here : (job : Job) (e : ℕ) (made : List (Chunk Edge)) (c : Chunk Edge) → next_engine job made ≡ e → chunks_on job e (made ++ c ∷ []) ≡ chunks_on job e made ++ c ∷ []
chunks_on-here job e made c here = chunks_on-more job e made c true (eq-eqb (next_engine job made) e here)

pub chunks_on-other : (job : Job) (e : ℕ) (made : List (Chunk Edge)) (c : Chunk Edge) → next_engine job made ≢ e → chunks_on job e (made ++ c ∷ []) ≡ chunks_on job e made
chunks_on-other job e made c other = chunks_on-more job e made c false (ne_eqb (next_engine job made) e other) ∙ append-nil (chunks_on job e made)

-- the device of its engine has it at its end
pub graph-here : (gate : ℕ) (job : Job) (e : ℕ) (made : List (Chunk Edge)) (c : Chunk Edge) → next_engine job made ≡ e
    → graph_with gate job e (made ++ c ∷ []) ≡ graph_with gate job e made ++ chunk_bytes (edge_layout job.format) c.partition c.items
unfolding graph_with
graph-here gate job e made c here =
    ap (λ cs. head gate job e ++ bytes_of_chunks (edge_layout job.format) cs) (chunks_on-here job e made c here)
    ∙ ap (λ bytes. head gate job e ++ bytes) (bytes_of_chunks-more (edge_layout job.format) (chunks_on job e made) c)
    ∙ sym (append_assoc (head gate job e) (bytes_of_chunks (edge_layout job.format) (chunks_on job e made)) (chunk_bytes (edge_layout job.format) c.partition c.items))

-- and no other device is changed
pub graph-other : (gate : ℕ) (job : Job) (e : ℕ) (made : List (Chunk Edge)) (c : Chunk Edge) → next_engine job made ≢ e → graph_with gate job e (made ++ c ∷ []) ≡ graph_with gate job e made
unfolding graph_with
graph-other gate job e made c other = ap (λ cs. head gate job e ++ bytes_of_chunks (edge_layout job.format) cs) (chunks_on-other job e made c other)

-- a new graph device has its head
pub graph-none : (gate : ℕ) (job : Job) (e : ℕ) → graph_with gate job e [] ≡ head gate job e
unfolding graph_with
graph-none gate job e = append-nil (head gate job e)

pub length-head : (gate : ℕ) (job : Job) (e : ℕ) → length (head gate job e) ≡ HEAD_SIZE
unfolding front
length-head gate job e = by_format (job.format == 1) refl
  where
    by_format : (first : Bool) → (job.format == 1) ≡ first → length (head gate job e) ≡ HEAD_SIZE
    by_format true is = rw is refl
    by_format false is = rw is refl

pub length-graph : (gate : ℕ) (job : Job) (e : ℕ) (made : List (Chunk Edge)) → length (graph_with gate job e made) ≡ HEAD_SIZE + length (bytes_of_chunks (edge_layout job.format) (chunks_on job e made))
unfolding graph_with
length-graph gate job e made = omega (arith, length-append (head gate job e) (bytes_of_chunks (edge_layout job.format) (chunks_on job e made)), length-head gate job e)

-- Its place is the end of its device.
pub places-here : (job : Job) (e p : ℕ) (made : List (Chunk Edge)) (c : Chunk Edge) → next_engine job made ≡ e → c.partition ≡ p
    → places_on job e p (made ++ c ∷ []) ≡ places_on job e p made ++ length (graph_with 0 job e made) ∷ []
places-here job e p made c here mine =
    ap (starts_of (edge_layout job.format) p HEAD_SIZE) (chunks_on-here job e made c here)
    ∙ starts_of-here (edge_layout job.format) p HEAD_SIZE (chunks_on job e made) c mine
    ∙ ap (λ n. places_on job e p made ++ n ∷ []) (sym (length-graph 0 job e made))

pub places-other_partition : (job : Job) (e p : ℕ) (made : List (Chunk Edge)) (c : Chunk Edge) → next_engine job made ≡ e → c.partition ≢ p → places_on job e p (made ++ c ∷ []) ≡ places_on job e p made
places-other_partition job e p made c here other =
    ap (starts_of (edge_layout job.format) p HEAD_SIZE) (chunks_on-here job e made c here)
    ∙ starts_of-other (edge_layout job.format) p HEAD_SIZE (chunks_on job e made) c other

pub places-other_engine : (job : Job) (e p : ℕ) (made : List (Chunk Edge)) (c : Chunk Edge) → next_engine job made ≢ e → places_on job e p (made ++ c ∷ []) ≡ places_on job e p made
places-other_engine job e p made c other = ap (starts_of (edge_layout job.format) p HEAD_SIZE) (chunks_on-other job e made c other)
