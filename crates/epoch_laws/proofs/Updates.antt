-- The updates that workers send, and their chunks.
use Rattle.std.proofs.Common.{◌≡◌, ℕ, ◌+◌, ◌<◌, if◌then◌else◌, Bool, true, false, Option, Some, None, List, [], ◌∷◌, ◌++◌, get_or, flat_map, refl, sym, ◌∙◌, ap}
use Rattle.std.specs.List.{All, fold}
use Rattle.std.proofs.lemmas.List.Elements.{All-nil, All-cons, All-append, All-head, All-tail}
use Rattle.std.proofs.lemmas.Grind.{flat_map-append}
use Rattle.graph_model.specs.declared.edge.Edge.{Edge}
use Rattle.graph_model.specs.declared.value.Value.{Value}
use Rattle.graph_model.specs.declared.value.Update.{Update}
use Rattle.graph_model.specs.declared.job.Job.{Job}
use Rattle.graph_model.specs.Programs.{Rules}
use Rattle.graph_model.specs.Rounds.{value_at}
use Rattle.graph_model.specs.Jobs.{IsWellFormedJob, parts_of}
use Rattle.partitioner.proofs.Ranges.{partition_of-below}
use Rattle.partitioner.proofs.Made.{some_parts}
use Rattle.gather_laws.specs.Laws.{GatherLaws, MergeLaws}
use Rattle.gather_laws.proofs.MergeLemmas.{merged-append}
use Rattle.chunk_model.specs.Chunks.{Chunk}
use Rattle.seeded_place.specs.Placing.{update_stream}
use Rattle.phase_model.specs.Shelves.{Shelf}
use Rattle.phase_model.specs.Sends.{is_sender, update_to, sent_along, sent_by, sending_of}
use Rattle.phase_model.specs.Sums.{values_to}
use Rattle.phase_model.specs.Lanes.{update_home, update_chunks, update_shelf, all_updates}
use Rattle.phase_model.proofs.Sent.{values_to-append}
use Rattle.phase_core.proofs.Taking.{values_are_sums}
use Rattle.epoch_laws.proofs.Grouped.{over_chunks, flat_all}
use Rattle.epoch_laws.proofs.Shelves.{StandsBelow, over_placed, placed_below, placed_all}
use Rattle.epoch_laws.proofs.Edges.{chunks_below}

-- the values to a vertex, update by update
abbrev pub value_to : ℕ → Update → List ℕ
value_to vertex u = values_to vertex (u ∷ [])

pub values_each : (vertex : ℕ) (updates : List Update) → values_to vertex updates ≡ flat_map (value_to vertex) updates
values_each vertex [] = refl
values_each vertex (u ∷ updates) = values_to-append vertex (u ∷ []) updates ∙ ap (λ back. value_to vertex u ++ back) (values_each vertex updates)

-- an update of a program's values: its value is a sum, and it goes to a vertex
abbrev pub IsUpdate : (ℕ → Type 0) → ℕ → Update → Type 0
IsUpdate IsSum vertices u = IsSum u.value × (u.dst < vertices)

pub value_sums : (IsSum : ℕ → Type 0) (vertices vertex : ℕ) (u : Update) → IsUpdate IsSum vertices u → All IsSum (value_to vertex u)
value_sums IsSum vertices vertex u is = values_are_sums IsSum vertex (u ∷ []) (All-cons (λ (u : Update). IsSum u.value) u [] is.0 (All-nil (λ (u : Update). IsSum u.value)))

module _ (rules : Rules) (IsSum : ℕ → Type 0) (laws : GatherLaws rules IsSum) (vertices : ℕ) (now : List Value) (sums : (v : ℕ) → v < vertices → IsSum (value_at now v).main) where
  -- what an edge between vertices sends
  sent_ok : (e : Edge) → (e.src < vertices) × (e.dst < vertices) → (sends : Bool) (number : Option ℕ) → rules.send (value_at now e.src) e.weight ≡ number →
      All (IsUpdate IsSum vertices) (if sends then update_to e.dst number else [])
  sent_ok e ends true None is = All-nil (IsUpdate IsSum vertices)
  sent_ok e ends true (Some number) is =
      All-cons (IsUpdate IsSum vertices) (record { dst = e.dst; value = number }) [] (laws.send_is_sum (value_at now e.src) e.weight number (sums e.src ends.0) is, ends.1) (All-nil (IsUpdate IsSum vertices))
  sent_ok e ends false number is = All-nil (IsUpdate IsSum vertices)

  pub along_ok : (before : Option (List Value)) (e : Edge) → (e.src < vertices) × (e.dst < vertices) → All (IsUpdate IsSum vertices) (sent_along (sending_of rules before now) e)
  along_ok None e ends = sent_ok e ends true (rules.send (value_at now e.src) e.weight) refl
  along_ok (Some before) e ends = sent_ok e ends (is_sender (sending_of rules (Some before) now) e.src) (rules.send (value_at now e.src) e.weight) refl

  pub sent_by_ok : (before : Option (List Value)) (edges : List Edge) → All (λ (e : Edge). (e.src < vertices) × (e.dst < vertices)) edges → All (IsUpdate IsSum vertices) (sent_by (sending_of rules before now) edges)
  sent_by_ok before edges within = flat_all (IsUpdate IsSum vertices) (sent_along (sending_of rules before now)) edges (λ k d below. along_ok before (get_or edges k d) (within k d below))

module _ (job : Job) (well : IsWellFormedJob job) (IsSum : ℕ → Type 0) where
  homes : (updates : List Update) → All (IsUpdate IsSum job.vertices) updates → All (λ (u : Update). update_home job u < parts_of job) updates
  homes updates all = λ k d below. partition_of-below job.vertices (parts_of job) (get_or updates k d).dst (some_parts job well) (all k d below).1

  one_shelf : (t worker : ℕ) (updates : List Update) → All (IsUpdate IsSum job.vertices) updates →
      All (λ (c : ℕ × Chunk Update). StandsBelow job.engines (parts_of job) c × All (IsUpdate IsSum job.vertices) c.1.items) (update_shelf job t worker updates)
  one_shelf t worker updates all =
      let below = placed_all (λ (c : Chunk Update). (c.partition < parts_of job) × All (IsUpdate IsSum job.vertices) c.items) job.seed (update_stream t worker) job.engines (update_chunks job updates)
      (chunks_below (IsUpdate IsSum job.vertices) job.chunk (update_home job) (parts_of job) updates well.chunk.0 (homes updates all) all) in
      let engines = placed_below job.seed (update_stream t worker) job.engines (update_chunks job updates) well.engines.0 in
      λ k d inside. ((engines k d inside, (below k d inside).0), (below k d inside).1)

  -- **Each update chunk of all workers stands at a cursor of the job, and its updates are those that were sent.**
  pub shelf_ok : (t worker : ℕ) (lists : List (List Update)) → All (All (IsUpdate IsSum job.vertices)) lists →
      All (λ (c : ℕ × Chunk Update). StandsBelow job.engines (parts_of job) c × All (IsUpdate IsSum job.vertices) c.1.items) (all_updates job t worker lists)
  shelf_ok t worker [] all = All-nil (λ (c : ℕ × Chunk Update). StandsBelow job.engines (parts_of job) c × All (IsUpdate IsSum job.vertices) c.1.items)
  shelf_ok t worker (updates ∷ lists) all =
      All-append (λ (c : ℕ × Chunk Update). StandsBelow job.engines (parts_of job) c × All (IsUpdate IsSum job.vertices) c.1.items)
      (update_shelf job t worker updates) (all_updates job t (worker + 1) lists)
      (one_shelf t worker updates (All-head (All (IsUpdate IsSum job.vertices)) updates lists all))
      (shelf_ok t (worker + 1) lists (All-tail (All (IsUpdate IsSum job.vertices)) updates lists all))

  module _ (unit : ℕ) (merge : ℕ → ℕ → ℕ) (laws : MergeLaws unit merge IsSum) (vertex : ℕ) where
    abbrev of_chunk : ℕ × Chunk Update → List ℕ
    of_chunk c = flat_map (value_to vertex) c.1.items

    list_sums : (updates : List Update) → All (IsUpdate IsSum job.vertices) updates → All IsSum (flat_map (value_to vertex) updates)
    list_sums updates all = flat_all IsSum (value_to vertex) updates (λ k d below. value_sums IsSum job.vertices vertex (get_or updates k d) (all k d below))

    chunk_sums : (made : Shelf Update) → All (λ (c : ℕ × Chunk Update). StandsBelow job.engines (parts_of job) c × All (IsUpdate IsSum job.vertices) c.1.items) made → All IsSum (flat_map of_chunk made)
    chunk_sums made all = flat_all IsSum of_chunk made (λ k d below. list_sums (get_or made k d).1.items (all k d below).1)

    -- **The merge over the update chunks of all workers is the merge over their updates.**
    pub over_updates : (t worker : ℕ) (lists : List (List Update)) → All (All (IsUpdate IsSum job.vertices)) lists →
        fold merge unit (flat_map of_chunk (all_updates job t worker lists)) ≡ fold merge unit (flat_map (λ updates. flat_map (value_to vertex) updates) lists)
    over_updates t worker [] all = refl
    over_updates t worker (updates ∷ lists) all =
        let first = All-head (All (IsUpdate IsSum job.vertices)) updates lists all in
        let rest = All-tail (All (IsUpdate IsSum job.vertices)) updates lists all in
        let here : Shelf Update = update_shelf job t worker updates in
        let others : Shelf Update = all_updates job t (worker + 1) lists in
        let here_sums = chunk_sums here (one_shelf t worker updates first) in
        let others_sums = chunk_sums others (shelf_ok t (worker + 1) lists rest) in
        ap (fold merge unit) (flat_map-append of_chunk here others)
        ∙ merged-append unit merge IsSum laws (flat_map of_chunk here) (flat_map of_chunk others) here_sums others_sums
        ∙ ap (λ s. merge s (fold merge unit (flat_map of_chunk others)))
        (ap (fold merge unit) (over_placed (λ (c : Chunk Update). flat_map (value_to vertex) c.items) job.seed (update_stream t worker) job.engines (update_chunks job updates))
        ∙ over_chunks unit merge IsSum laws (value_to vertex) job.chunk (update_home job) (parts_of job) updates well.chunk.0 (homes updates first)
        (λ k d below. value_sums IsSum job.vertices vertex (get_or updates k d) (first k d below)))
        ∙ ap (merge (fold merge unit (flat_map (value_to vertex) updates))) (over_updates t (worker + 1) lists rest)
        ∙ sym (merged-append unit merge IsSum laws (flat_map (value_to vertex) updates) (flat_map (λ updates. flat_map (value_to vertex) updates) lists) (list_sums updates first)
        (flat_all IsSum (λ updates. flat_map (value_to vertex) updates) lists (λ k d below. list_sums (get_or lists k d) (rest k d below))))
