-- The edges of a store, for the rounds.
use Rattle.std.proofs.Common.{◌≡◌, ◌∙◌, ℕ, ◌/◌, ◌%◌, ◌<◌, ◌≤◌, ◌&&◌, nat_lt, Bool, true, false, List, [], length, Some, get_or, refl, sym, ap, subst, arith, append-nil}
use Rattle.std.specs.Prelude.{slice_get, option_and_then}
use Rattle.std.specs.List.{All}
use Rattle.std.proofs.lemmas.Bool.{ltb-true, ltb-false, le-ltb}
use Rattle.std.proofs.lemmas.Option.{slice_get-get_or}
use Rattle.std.proofs.lemmas.List.{drop_at, get_or_past, length-map}
use Rattle.std.proofs.lemmas.List.Elements.{All-weaker}
use Rattle.graph_model.specs.declared.edge.Edge.{Edge}
use Rattle.graph_model.specs.declared.job.Job.{Job}
use Rattle.graph_model.specs.Jobs.{parts_of}
use Rattle.graph_model.specs.Rounds.{IsWithinGraph}
use Rattle.ports.specs.Disk.{DiskState}
use Rattle.partitioner.specs.declared.split.Split.{Split}
use Rattle.partitioner.specs.Splits.{IsSplitOf}
use Rattle.chunk_object.specs.Epochs.{cursor_of}
use Rattle.chunk_model.specs.Chunks.{Chunk, chunks_of_partition}
use Rattle.chunk_model.specs.Layout.{edge_layout}
use Rattle.chunk_model.specs.ChunkBytes.{bytes_of_chunks}
use Rattle.chunk_file.specs.declared.index.Place.{Place}
use Rattle.chunk_file.specs.Places.{places_of, on_graph, no_places}
use Rattle.chunk_file.specs.Chunks.{IsChunkIn}
use Rattle.chunk_file.specs.Scans.{IsEdgeChunk}
use Rattle.phase_model.specs.Shelves.{at_cursor, no_chunk, records_at}
use Rattle.phase_model.specs.Shelves as shelves
use Rattle.store_model.specs.Gates.{OPEN}
use Rattle.store_model.specs.Heads.{HEAD_SIZE, head}
use Rattle.store_model.specs.Graphs.{edge_chunks, chunks_on, graph, graph_with, places_on}
use Rattle.store_model.proofs.Growing.{length-head}
use Rattle.store_model.specs.Damage as damage
use Rattle.store_reader.specs.Indexed.{lens_of}
use Rattle.store_reader.specs.Serving.{place_at}
use Rattle.storage_engine.specs.Making.{HasPlaces}
use Rattle.store_checks.specs.Indexing.{Begins}
use Rattle.epoch_laws.specs.Phases.{edge_shelf}
use Rattle.epoch_laws.proofs.Shelves.{StandsBelow, none_outside}
use Rattle.epoch_laws.proofs.Edges.{edges_stand as shelf_stands}
use Rattle.restart.specs.Storable.{IsEdgeOf, IsStorable}
use Rattle.restart.proofs.ChunksOfJobs.{on_engine_are, says_own}
use Rattle.restart.proofs.SplitOfHead.{says_split, from_head}
use Rattle.round_steps.specs.Standing.{HasEdges}
use Rattle.list_moves.proofs.Desks.{some_of}
use Rattle.store_edges.proofs.Cursors.{IsNarrow, cursor_chunks}
use Rattle.store_edges.proofs.Begun.{chunk_there}
use Rattle.store_edges.proofs.Stands.{as_many}

-- what a device among some tells
pub told_at : {D : Type 0} (state : D → DiskState) (ds : List D) (e : ℕ) (bytes : List ℕ) → e < length ds → ((d : D) → (state (get_or ds e d)).bytes ≡ Some bytes) →
    option_and_then (λ (disk : D). (state disk).bytes) (slice_get ds e) ≡ Some bytes
told_at {D} state ds e bytes below tells =
    let d : D = some_of ds e below in
    ap (option_and_then (λ (disk : D). (state disk).bytes)) (slice_get-get_or ds e d below) ∙ tells d

module _ (job : Job) (edges : List Edge) (storable : IsStorable job edges) (split : Split) (of_job : IsSplitOf job split) (index : List (List Place)) (has : HasPlaces job (edge_chunks job edges) index) where
  -- the chunks of an engine, and of a partition among them
  abbrev all_on : (e : ℕ) → List (Chunk Edge)
  all_on e = chunks_on job e (edge_chunks job edges)

  abbrev mine : (e p : ℕ) → List (Chunk Edge)
  mine e p = chunks_of_partition p (all_on e)

  pub within : IsWithinGraph job.vertices edges
  within = All-weaker (IsEdgeOf job) (λ (edge : Edge). (edge.src < job.vertices) × (edge.dst < job.vertices)) (λ edge is. (is.src, is.dst)) edges storable.edges_are

  below : All (StandsBelow job.engines (parts_of job)) (edge_shelf job edges)
  below = shelf_stands job edges storable.job_is within

  narrow : All IsNarrow (edge_shelf job edges)
  narrow = All-weaker (StandsBelow job.engines (parts_of job)) IsNarrow (λ c is. omega (arith, is.1, storable.job_is.few_parts)) (edge_shelf job edges) below

  cursor_is : (e p : ℕ) → p < 64 → at_cursor (edge_shelf job edges) (cursor_of e p) ≡ mine e p
  cursor_is e p small = cursor_chunks (edge_shelf job edges) e p small narrow

  -- a cursor has as many places as chunks
  lens_at : (e p : ℕ) → e < 8 → p < 64 → lens_of index (cursor_of e p) ≡ shelves.lens_of (edge_shelf job edges) (cursor_of e p)
  lens_at e p few small =
      ap length (has.places e p few small)
      ∙ length-map (places_on job e p (edge_chunks job edges)) on_graph
      ∙ as_many (edge_layout job.format) p HEAD_SIZE (all_on e)
      ∙ ap length (sym (cursor_is e p small))

  pub lens : (cursor : ℕ) → lens_of index cursor ≡ shelves.lens_of (edge_shelf job edges) cursor
  lens cursor = by (nat_lt cursor 512) refl
    where
      by : (near : Bool) → nat_lt cursor 512 ≡ near → lens_of index cursor ≡ shelves.lens_of (edge_shelf job edges) cursor
      by true is =
          let near : cursor < 512 = ltb-true cursor 512 is in
          let same : cursor_of (cursor / 64) (cursor % 64) ≡ cursor = omega arith in
          subst (λ k. lens_of index k ≡ shelves.lens_of (edge_shelf job edges) k) same (lens_at (cursor / 64) (cursor % 64) (omega arith) (omega arith))
      by false is =
          let far : 512 ≤ cursor = ltb-false cursor 512 is in
          let none : get_or index cursor no_places ≡ [] = get_or_past index cursor no_places (omega (arith, has.lists, far)) in
          let engines = storable.job_is.engines.1 in
          let outside : nat_lt (cursor / 64) job.engines ≡ false = le-ltb (cursor / 64) job.engines (omega (arith, far, engines)) in
          ap length none ∙ sym (none_outside job.engines (parts_of job) (edge_shelf job edges) storable.job_is.few_parts below cursor (ap (λ b. b && nat_lt (cursor % 64) (parts_of job)) outside))

  -- the device of an engine is its head and its chunks
  begins : (e : ℕ) → Begins job split (all_on e) [] (graph job edges e)
  unfolding graph_with
  begins e =
      let says = says_split (head 165 job 0) job split (says_own job 0 storable.job_is) of_job in
      let bytes : List ℕ = bytes_of_chunks (edge_layout job.format) (all_on e) in
      record {
        are = All-weaker (damage.IsEdgeChunk (head 165 job 0)) (IsEdgeChunk job.format split job.chunk) (from_head (head 165 job 0) job split says) (all_on e) (on_engine_are job edges e storable);
        stand = drop_at (head OPEN job e) bytes HEAD_SIZE (length-head OPEN job e) ∙ sym (append-nil bytes);
      }

  -- **The t-th chunk of a cursor stands at its t-th place.**
  pub stands_at : (e p t : ℕ) → e < job.engines → p < split.parts → t < length (places_of index e p) →
      IsChunkIn (edge_layout job.format) split job.chunk p (place_at index e p t).at (graph job edges e) (records_at (edge_shelf job edges) (cursor_of e p) t)
  stands_at e p t engine partition inside =
      let engines = storable.job_is.engines.1 in
      let few : e < 8 = omega (arith, engine, engines) in
      let small : p < 64 = omega (arith, partition, of_job.parts, storable.job_is.few_parts) in
      subst (λ (cs : List (Chunk Edge)). IsChunkIn (edge_layout job.format) split job.chunk p (place_at index e p t).at (graph job edges e) (get_or cs t no_chunk).items) (sym (cursor_is e p small))
      (chunk_there job split (all_on e) [] (graph job edges e) (begins e) (places_of index e p) p t (has.places e p few small) inside)

module _ {D : Type 0} (state : D → DiskState) (job : Job) (edges : List Edge) (graphs : List D) (many : length graphs ≡ job.engines)
    (tell : (e : ℕ) (d : D) → e < job.engines → (state (get_or graphs e d)).bytes ≡ Some (graph job edges e)) where
  -- what each graph device tells
  pub told : (e : ℕ) → e < job.engines → option_and_then (λ (disk : D). (state disk).bytes) (slice_get graphs e) ≡ Some (graph job edges e)
  told e engine = told_at state graphs e (graph job edges e) (omega (arith, engine, many)) (λ d. tell e d engine)

  -- **These are the edges of the store.**
  pub has_edges : IsStorable job edges → (split : Split) → IsSplitOf job split → (index : List (List Place)) → HasPlaces job (edge_chunks job edges) index → HasEdges state job split index graphs edges
  has_edges storable split of_job index has = record {
    within = within job edges storable split of_job index has;
    lens = lens job edges storable split of_job index has;
    stand = λ e p t engine partition inside. (graph job edges e, told e engine, stands_at job edges storable split of_job index has e p t engine partition inside);
  }
