-- What is read of a chunk is what is taken from it, and is to the vertices of its partition.
use Rattle.std.proofs.Common.{◌≡◌, ℕ, ◌+◌, ◌^◌, ◌<◌, ◌≤◌, Bool, true, false, List, length, take, ap, ◌∙◌, subst, arith, nat_lt}
use Rattle.std.specs.Prelude.{◌&&◌}
use Rattle.std.proofs.lemmas.Bool.{and_parts, ltb-true}
use Rattle.std.proofs.lemmas.List.Elements.{All-weaker}
use Rattle.graph_model.specs.declared.edge.Edge.{Edge}
use Rattle.graph_model.specs.declared.value.Update.{Update}
use Rattle.graph_model.specs.Partitions.{first_vertex, part_len}
use Rattle.ports.specs.Disk.{DiskState}
use Rattle.partitioner.specs.declared.split.Split.{Split}
use Rattle.partitioner.specs.Splits.{IsSplit}
use Rattle.partitioner.proofs.Ranges.{in_partition}
use Rattle.chunk_object.specs.Epochs.{cursor_of}
use Rattle.chunk_model.specs.Layout.{edge_layout, update_layout}
use Rattle.chunk_model.specs.ChunkBytes.{Belongs}
use Rattle.chunk_model.proofs.LayoutLaws.{edge_layout_is, update_layout_is}
use Rattle.chunk_file.specs.Places.{places_of}
use Rattle.chunk_file.specs.Chunks.{AreChunkIn}
use Rattle.store_reader.specs.declared.serving.Serving.{Serving}
use Rattle.store_reader.proofs.Taken.{reads_records, refuses_none}
use Rattle.store_reader.specs.Serving.{told_at, place_at, ReadsAt, RefusesAt}
use Rattle.phase_model.specs.Sums.{counts_of}
use Rattle.gather_phase.specs.Summing.{AreWithin, ComeFrom}
use Rattle.gather_phase.specs.Phases.{Takes}

pub updates_within : (split : Split) (p first len : ℕ) (most : ℕ) (us : List Update) → IsSplit split → first ≡ first_vertex split.vertices split.parts p → len ≡ part_len split.vertices split.parts p → AreChunkIn update_layout split most p us → AreWithin first len us
updates_within split p first len most us is first_is len_is are = All-weaker (Belongs update_layout split.vertices split.span p) (λ (u : Update). (first ≤ u.dst) × (u.dst < first + len)) within us are.belong
  where
    within : (u : Update) → Belongs update_layout split.vertices split.span p u → (first ≤ u.dst) × (u.dst < first + len)
    within u belongs = let range = in_partition split p u.dst is (ltb-true u.dst split.vertices belongs.fits) belongs.home in (omega (arith, range.0, first_is), omega (arith, range.1, first_is, len_is))

pub edges_within : (split : Split) (format p first len : ℕ) (most : ℕ) (es : List Edge) → IsSplit split → first ≡ first_vertex split.vertices split.parts p → len ≡ part_len split.vertices split.parts p → AreChunkIn (edge_layout format) split most p es → ComeFrom first len es
edges_within split format p first len most es is first_is len_is are = All-weaker (Belongs (edge_layout format) split.vertices split.span p) (λ (e : Edge). (first ≤ e.src) × (e.src < first + len)) within es are.belong
  where
    within : (e : Edge) → Belongs (edge_layout format) split.vertices split.span p e → (first ≤ e.src) × (e.src < first + len)
    within e belongs =
        let below = ltb-true e.src split.vertices (and_parts (nat_lt e.src split.vertices) _ (and_parts (nat_lt e.src split.vertices && nat_lt e.dst split.vertices) _ belongs.fits).0).0 in
        let range = in_partition split p e.src is below belongs.home in
        (omega (arith, range.0, first_is), omega (arith, range.1, first_is, len_is))

module _ {D M : Type 0} (state : D → DiskState) (serving : Serving D M) (engine p t : ℕ) (small : p < 2 ^ 32) (few : serving.job.now.chunk < 2 ^ 32) (inside : engine < serving.job.now.engines) (below : p < serving.split.now.parts) (there : t < length (places_of serving.index.now engine p)) where
  pub takes_updates : (counting : Bool) → counting ≡ false → (items : ℕ → ℕ → List Update) → Takes state counting serving items → (count : ℕ) (into : List Update) → length into ≡ serving.job.now.chunk
      → ReadsAt update_layout serving.split.now p (place_at serving.index.now engine p t) (told_at state serving.shelf engine (place_at serving.index.now engine p t).lane) count into → items (cursor_of engine p) t ≡ take count into
  takes_updates counting kind items takes count into long reads = reads_records state serving engine p t inside below there update_layout update_layout_is small few items count into (subst (λ b. Takes state b serving items) kind takes) long reads

  pub takes_edges : (counting : Bool) → counting ≡ true → (items : ℕ → ℕ → List Update) → Takes state counting serving items → (count : ℕ) (into : List Edge) → length into ≡ serving.job.now.chunk
      → ReadsAt (edge_layout serving.job.now.format) serving.split.now p (place_at serving.index.now engine p t) (told_at state serving.shelf engine (place_at serving.index.now engine p t).lane) count into → items (cursor_of engine p) t ≡ counts_of (take count into)
  takes_edges counting kind items takes count into long reads =
      let edges = subst (λ b. Takes state b serving items) kind takes in
      edges.2 (cursor_of engine p) t ∙ ap counts_of (reads_records state serving engine p t inside below there (edge_layout serving.job.now.format) (edge_layout_is serving.job.now.format) small few edges.0 count into edges.1 long reads)

  pub refuses_updates : (counting : Bool) → counting ≡ false → (items : ℕ → ℕ → List Update) → Takes state counting serving items → (most at : ℕ) → most ≡ serving.job.now.chunk
      → RefusesAt update_layout serving.split.now p (place_at serving.index.now engine p t) (told_at state serving.shelf engine (place_at serving.index.now engine p t).lane) most at → ⊥
  refuses_updates counting kind items takes most at long refuses = refuses_none state serving engine p t inside below there update_layout items most at (subst (λ b. Takes state b serving items) kind takes) long refuses

  pub refuses_edges : (counting : Bool) → counting ≡ true → (items : ℕ → ℕ → List Update) → Takes state counting serving items → (most at : ℕ) → most ≡ serving.job.now.chunk
      → RefusesAt (edge_layout serving.job.now.format) serving.split.now p (place_at serving.index.now engine p t) (told_at state serving.shelf engine (place_at serving.index.now engine p t).lane) most at → ⊥
  refuses_edges counting kind items takes most at long refuses = let edges = subst (λ b. Takes state b serving items) kind takes in refuses_none state serving engine p t inside below there (edge_layout serving.job.now.format) edges.0 most at edges.1 long refuses
