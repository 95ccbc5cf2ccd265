-- The chunks that a recovery has found.
use Rattle.std.proofs.Common.{◌≡◌, ◌∙◌, ℕ, ◌/◌, ◌%◌, ◌<◌, ◌==◌, ◌++◌, Bool, true, false, List, [], ◌∷◌, length, drop, Option, Some, None, get_or, refl, sym, subst, arith}
use Rattle.std.proofs.lemmas.Bool.{eqb-true}
use Rattle.std.proofs.lemmas.List.Elements.{All-weaker}
use Rattle.graph_model.specs.declared.edge.Edge.{Edge}
use Rattle.graph_model.specs.declared.job.Job.{Job}
use Rattle.graph_model.specs.Jobs.{IsWellFormedJob}
use Rattle.ports.specs.Disk.{DiskState}
use Rattle.partitioner.specs.declared.split.Split.{Split}
use Rattle.partitioner.specs.Splits.{IsSplitOf}
use Rattle.chunk_object.specs.Epochs.{cursor_of}
use Rattle.chunk_object.proofs.Dutiful.{cursor_parts}
use Rattle.chunk_model.specs.Chunks.{chunks_of_partition}
use Rattle.chunk_model.specs.Layout.{edge_layout}
use Rattle.chunk_model.specs.ChunkBytes.{bytes_of_chunks}
use Rattle.chunk_file.specs.declared.index.Place.{Place}
use Rattle.chunk_file.specs.Places.{places_of}
use Rattle.chunk_file.specs.Chunks.{IsChunkIn}
use Rattle.chunk_file.specs.Scans.{IsEdgeChunk}
use Rattle.phase_model.specs.Shelves.{no_chunk}
use Rattle.store_model.specs.declared.field.Field.TheVariants.{Engines}
use Rattle.store_model.specs.Heads.{HEAD_SIZE}
use Rattle.store_model.specs.Kept.{device}
use Rattle.store_model.specs.Damage as damage
use Rattle.store_model.specs.Damage.{Fault, value_of, first_of, first_over, head_of, head_fault, other_fault, engines_fault, heads_fault}
use Rattle.store_reader.specs.Serving.{place_at}
use Rattle.store_checks.specs.Causes.{Tell}
use Rattle.store_checks.specs.Indexing.{Begins}
use Rattle.restart.specs.Recovering.{IsOpened}
use Rattle.restart.proofs.SplitOfHead.{says_split, from_head}
use Rattle.round_steps.specs.Standing.{HaveEdges}
use Rattle.store_edges.proofs.Begun.{chunk_there}
use Rattle.store_edges.proofs.Standing.{told_at}

-- The heads are of as many engines as there are devices.
third_none : (first second third : Option Fault) → first_of (first ∷ second ∷ third ∷ []) ≡ None → third ≡ None
third_none None None None none = refl
third_none None None (Some fault) none = cc
third_none None (Some fault) third none = cc
third_none (Some fault) second third none = cc

same_engines : (held asked : ℕ) → engines_fault held asked ≡ None → held ≡ asked
same_engines held asked none = by (held == asked) refl none
  where
    by : (same : Bool) → (held == asked) ≡ same → engines_fault held asked ≡ None → held ≡ asked
    by true is none = eqb-true held asked is
    by false is none = let no : ⊥ = cc in absurd no

engines_are : (graphs : List (List ℕ)) → heads_fault graphs ≡ None → value_of Engines (head_of graphs 0) ≡ length graphs
engines_are graphs none =
    same_engines (value_of Engines (head_of graphs 0)) (length graphs)
    (third_none (first_over (λ e. head_fault e (head_of graphs e)) (length graphs)) (first_over (λ e. other_fault (head_of graphs 0) e (head_of graphs e)) (length graphs)) (engines_fault (value_of Engines (head_of graphs 0)) (length graphs)) none)

module _ (job : Job) (well : IsWellFormedJob job) (split : Split) (of_job : IsSplitOf job split) (graphs values : List (List ℕ)) (index : List (List Place)) (opened : IsOpened graphs values job index) where
  many : job.engines ≡ length graphs
  many = opened.says.engines ∙ engines_are graphs opened.sound.heads

  begins : (e : ℕ) → e < length graphs → Begins job split (opened.made e) [] (device graphs e)
  begins e below =
      let says = says_split (head_of graphs 0) job split opened.says of_job in
      let by_head = opened.sound.chunks.each e below in
      record {
        are = All-weaker (damage.IsEdgeChunk (head_of graphs 0)) (IsEdgeChunk job.format split job.chunk) (from_head (head_of graphs 0) job split says) (opened.made e) by_head.are;
        stand = subst (λ format. drop HEAD_SIZE (device graphs e) ≡ bytes_of_chunks (edge_layout format) (opened.made e) ++ []) (sym says.format) by_head.stand;
      }

  -- the records of the t-th chunk of a cursor
  records_found : (cursor t : ℕ) → List Edge
  records_found cursor t = (get_or (chunks_of_partition (cursor % 64) (opened.made (cursor / 64))) t no_chunk).items

  found_at : (e p t : ℕ) → e < job.engines → p < split.parts → t < length (places_of index e p) →
      IsChunkIn (edge_layout job.format) split job.chunk p (place_at index e p t).at (device graphs e) (records_found (cursor_of e p) t)
  unfolding records_found
  found_at e p t engine partition inside =
      let below : e < length graphs = omega (arith, engine, many) in
      let small : p < 64 = omega (arith, partition, of_job.parts, well.few_parts) in
      let parts = cursor_parts e p small in
      let is = chunk_there job split (opened.made e) [] (device graphs e) (begins e below) (places_of index e p) p t (opened.index_is.here e p below small) inside in
      subst (λ k. IsChunkIn (edge_layout job.format) split job.chunk p (place_at index e p t).at (device graphs e) (get_or (chunks_of_partition (cursor_of e p % 64) (opened.made k)) t no_chunk).items) (sym parts.0)
      (subst (λ k. IsChunkIn (edge_layout job.format) split job.chunk p (place_at index e p t).at (device graphs e) (get_or (chunks_of_partition k (opened.made e)) t no_chunk).items) (sym parts.1) is)

  -- **The chunks of the index stand.**
  pub found_stand : {D : Type 0} (state : D → DiskState) (devices : List D) → Tell state devices graphs → (records : ℕ → ℕ → List Edge) × HaveEdges state job split index devices records
  found_stand {D} state devices tell = (
    records_found,
    λ e p t engine partition inside.
        let below : e < length devices = omega (arith, engine, many, tell.many) in
        (device graphs e, told_at state devices e (device graphs e) below (λ d. tell.told e d below), found_at e p t engine partition inside),
  )
