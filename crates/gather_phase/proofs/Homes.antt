-- A chunk of one partition bears on no vertex of another.
use Rattle.std.proofs.Common.{◌≡◌, ◌≢◌, ℕ, ◌+◌, ◌/◌, ◌%◌, ◌<◌, eqb, List, [], ◌∷◌, ◌++◌, length, get_or, ◌⊎◌, refl, ap, sym, ◌∙◌, subst, ⊎_elim, arith, eq-eqb, ne_eqb}
use Rattle.std.specs.Prelude.{slice_index_or}
use Rattle.std.specs.List.{All, fold}
use Rattle.std.proofs.lemmas.Bool.{cases_eq, cond-true, cond-false}
use Rattle.std.proofs.lemmas.List.{same_lists, map-append}
use Rattle.std.proofs.lemmas.List.Concat.{flat_map-cons}
use Rattle.std.proofs.lemmas.List.FromFn.{length-map-range_with_len, get_or-map-range_with_len}
use Rattle.std.proofs.lemmas.List.Elements.{All-head, All-tail, All-weaker, All-map}
use Rattle.graph_model.specs.declared.edge.Edge.{Edge}
use Rattle.graph_model.specs.declared.value.Update.{Update}
use Rattle.graph_model.specs.Programs.{plus}
use Rattle.graph_model.specs.Partitions.{first_vertex}
use Rattle.graph_model.specs.Rounds.{out_degree}
use Rattle.ports.specs.Disk.{DiskState}
use Rattle.partitioner.specs.declared.split.Split.{Split}
use Rattle.partitioner.specs.Splits.{IsSplit}
use Rattle.partitioner.proofs.Made.{some_part}
use Rattle.partitioner.proofs.Ranges.{in_range-partition_of, first_vertex-next}
use Rattle.chunk_object.specs.Epochs.{cursor_of}
use Rattle.chunk_model.specs.Layout.{edge_layout, update_layout}
use Rattle.chunk_model.specs.ChunkBytes.{Belongs}
use Rattle.chunk_file.specs.Places.{places_of, no_places}
use Rattle.store_reader.specs.declared.serving.Serving.{Serving}
use Rattle.phase_model.specs.Taken.{records_of}
use Rattle.phase_model.specs.Sums.{values_to, sum_at, sums_over, count_of, counts_of}
use Rattle.phase_model.proofs.Sent.{values_to-append}
use Rattle.phase_model.proofs.Counted.{counted}
use Rattle.phase_model.proofs.Lists.{values_none}
use Rattle.replica_merge.specs.Accumulators.{len_of}
use Rattle.gather_phase.specs.Gathering.{Adding, partition_sums, of_partition, IsOf}
use Rattle.store_reader.specs.Indexed.{lens_of, HasRecords}

-- every update of a chunk is to its partition
abbrev pub AreHomed : Split → (engines : ℕ) (lens : ℕ → ℕ) → (ℕ → ℕ → List Update) → Type 0
AreHomed split engines lens items = (w t : ℕ) → IsOf engines split.parts lens (w, t) → All (λ (u : Update). u.dst / split.span ≡ w % 64) (items w t)

module _ (split : Split) (is : IsSplit split) (engines : ℕ) (lens : ℕ → ℕ) (items : ℕ → ℕ → List Update) (homed : AreHomed split engines lens items) where
  elsewhere : (v w t : ℕ) → v / split.span ≢ w % 64 → IsOf engines split.parts lens (w, t) → values_to v (items w t) ≡ []
  elsewhere v w t ne is_of = values_none v (items w t) (All-weaker (λ (u : Update). u.dst / split.span ≡ w % 64) (λ (u : Update). u.dst ≢ v) (λ u home same. ne (sym (ap (λ n. n / split.span) same) ∙ home)) (items w t) (homed w t is_of))

  values_all : (v q : ℕ) → v / split.span ≡ q → (chunks : List (ℕ × ℕ)) → All (IsOf engines split.parts lens) chunks → values_to v (records_of items (of_partition q chunks)) ≡ values_to v (records_of items chunks)
  values_all v q home [] known = refl
  values_all v q home (chunk ∷ chunks) known =
      by_test (values_all v q home chunks (All-tail (IsOf engines split.parts lens) chunk chunks known)) (cases_eq (chunk.0 % 64) q)
    where
      whole : values_to v (records_of items (chunk ∷ chunks)) ≡ values_to v (items chunk.0 chunk.1) ++ values_to v (records_of items chunks)
      whole = ap (values_to v) (flat_map-cons (λ (c : ℕ × ℕ). items c.0 c.1) chunk chunks) ∙ values_to-append v (items chunk.0 chunk.1) (records_of items chunks)

      by_test : values_to v (records_of items (of_partition q chunks)) ≡ values_to v (records_of items chunks) → (chunk.0 % 64 ≡ q) ⊎ (chunk.0 % 64 ≢ q) → values_to v (records_of items (of_partition q (chunk ∷ chunks))) ≡ values_to v (records_of items (chunk ∷ chunks))
      by_test rest cases = ⊎_elim
          (λ same.
          ap (λ l. values_to v (records_of items l)) (cond-true (eqb (chunk.0 % 64) q) (chunk ∷ of_partition q chunks) (of_partition q chunks) (eq-eqb (chunk.0 % 64) q same))
          ∙ (ap (values_to v) (flat_map-cons (λ (c : ℕ × ℕ). items c.0 c.1) chunk (of_partition q chunks))
          ∙ (values_to-append v (items chunk.0 chunk.1) (records_of items (of_partition q chunks)) ∙ (ap (λ l. values_to v (items chunk.0 chunk.1) ++ l) rest ∙ sym whole))))
          (λ ne.
          let none : values_to v (items chunk.0 chunk.1) ≡ [] = elsewhere v chunk.0 chunk.1 (λ e. ne (sym e ∙ home)) (All-head (IsOf engines split.parts lens) chunk chunks known) in
          ap (λ l. values_to v (records_of items l)) (cond-false (eqb (chunk.0 % 64) q) (chunk ∷ of_partition q chunks) (of_partition q chunks) (ne_eqb (chunk.0 % 64) q ne))
          ∙ (rest ∙ sym (whole ∙ ap (λ l. l ++ values_to v (records_of items chunks)) none)))
          cases

  -- the sums over the chunks of a partition are those over all chunks
  pub sums_all : (a : Adding) → a.split ≡ split → (q : ℕ) (chunks : List (ℕ × ℕ)) → All (IsOf engines split.parts lens) chunks → partition_sums a (records_of items (of_partition q chunks)) q ≡ partition_sums a (records_of items chunks) q
  sums_all a same q chunks known = same_lists (partition_sums a (records_of items (of_partition q chunks)) q) (partition_sums a (records_of items chunks) q) (long (records_of items (of_partition q chunks)) ∙ sym (long (records_of items chunks)))
      (λ k d below.
      let inside : k < len_of a.split q = omega (arith, below, long (records_of items (of_partition q chunks))) in
      at (records_of items (of_partition q chunks)) k inside d ∙ (ap (fold a.add a.unit) (values_all (first_vertex a.split.vertices a.split.parts q + k) q (home k inside) chunks known) ∙ sym (at (records_of items chunks) k inside d)))
    where
      long : (xs : List Update) → length (partition_sums a xs q) ≡ len_of a.split q
      long xs = length-map-range_with_len (sum_at a.add a.unit xs) (first_vertex a.split.vertices a.split.parts q) (len_of a.split q)

      at : (xs : List Update) (k : ℕ) → k < len_of a.split q → (d : ℕ) → get_or (partition_sums a xs q) k d ≡ sum_at a.add a.unit xs (first_vertex a.split.vertices a.split.parts q + k)
      at xs k inside d = get_or-map-range_with_len (sum_at a.add a.unit xs) (first_vertex a.split.vertices a.split.parts q) (len_of a.split q) k (first_vertex a.split.vertices a.split.parts q + k) d inside refl

      home_in : (s : Split) → IsSplit s → (k : ℕ) → k < len_of s q → (first_vertex s.vertices s.parts q + k) / s.span ≡ q
      home_in s is_s k inside =
          let next = first_vertex-next s.vertices s.parts q (q + 1) refl in
          ap (λ span. (first_vertex s.vertices s.parts q + k) / span) is_s.span ∙ in_range-partition_of s.vertices s.parts (first_vertex s.vertices s.parts q + k) q (some_part s is_s) (omega arith) (omega (arith, next, inside))

      home : (k : ℕ) → k < len_of a.split q → (first_vertex a.split.vertices a.split.parts q + k) / split.span ≡ q
      home k inside = ap (λ (s : Split). (first_vertex a.split.vertices a.split.parts q + k) / s.span) (sym same) ∙ home_in a.split (subst IsSplit (sym same) is) k inside

module _ {D M : Type 0} (state : D → DiskState) (serving : Serving D M) (is : IsSplit serving.split.now) where
  -- what holds of each chunk by engine, partition and number
  at_cursor : (P : ℕ → ℕ → Type 0) → ((engine p t : ℕ) → engine < serving.job.now.engines → p < serving.split.now.parts → t < length (places_of serving.index.now engine p) → P (cursor_of engine p) t) → (w t : ℕ) → IsOf serving.job.now.engines serving.split.now.parts (lens_of serving.index.now) (w, t) → P w t
  at_cursor P each w t is_of =
      let here : w ≡ cursor_of (w / 64) (w % 64) = omega arith in
      subst (λ n. P n t) (sym here) (each (w / 64) (w % 64) t is_of.engine is_of.partition (subst (λ n. t < length (slice_index_or serving.index.now n no_places)) here is_of.place))

  partition_is : (engine p : ℕ) → p < serving.split.now.parts → cursor_of engine p % 64 ≡ p
  partition_is engine p below = let few = is.few in omega (arith, few, below)

  -- where all chunks stand on devices that tell, each record is in its chunk's partition
  pub updates_homed : (records : ℕ → ℕ → List Update) → HasRecords state update_layout serving records → AreHomed serving.split.now serving.job.now.engines (lens_of serving.index.now) records
  updates_homed records has = at_cursor (λ w t. All (λ (u : Update). u.dst / serving.split.now.span ≡ w % 64) (records w t)) (λ engine p t inside below there.
      All-weaker (Belongs update_layout serving.split.now.vertices serving.split.now.span p) (λ (u : Update). u.dst / serving.split.now.span ≡ cursor_of engine p % 64) (λ u belongs. belongs.home ∙ sym (partition_is engine p below)) (records (cursor_of engine p) t) (has engine p t inside below there).2.are.belong)

  pub edges_homed : (format : ℕ) (records : ℕ → ℕ → List Edge) → HasRecords state (edge_layout format) serving records → AreHomed serving.split.now serving.job.now.engines (lens_of serving.index.now) (λ w t. counts_of (records w t))
  edges_homed format records has = at_cursor (λ w t. All (λ (u : Update). u.dst / serving.split.now.span ≡ w % 64) (counts_of (records w t))) (λ engine p t inside below there.
      All-map (λ (u : Update). u.dst / serving.split.now.span ≡ cursor_of engine p % 64) count_of (records (cursor_of engine p) t)
      (All-weaker (Belongs (edge_layout format) serving.split.now.vertices serving.split.now.span p) (λ (e : Edge). e.src / serving.split.now.span ≡ cursor_of engine p % 64) (λ e belongs. belongs.home ∙ sym (partition_is engine p below)) (records (cursor_of engine p) t) (has engine p t inside below there).2.are.belong))

-- the counts of the edges of chunks, chunk by chunk
pub counts-records : (records : ℕ → ℕ → List Edge) (chunks : List (ℕ × ℕ)) → records_of (λ w t. counts_of (records w t)) chunks ≡ counts_of (records_of records chunks)
counts-records records [] = refl
counts-records records (chunk ∷ chunks) =
    flat_map-cons (λ (c : ℕ × ℕ). counts_of (records c.0 c.1)) chunk chunks
    ∙ (ap (λ l. counts_of (records chunk.0 chunk.1) ++ l) (counts-records records chunks)
    ∙ (sym (map-append count_of (records chunk.0 chunk.1) (records_of records chunks)) ∙ ap counts_of (sym (flat_map-cons (λ (c : ℕ × ℕ). records c.0 c.1) chunk chunks))))

-- where edges are counted, the sums are the numbers of edges
pub sums_are_degrees : (edges : List Edge) (first len : ℕ) → sums_over (sum_at plus 0 (counts_of edges)) first len ≡ sums_over (out_degree edges) first len
sums_are_degrees edges first len = ap (λ (f : ℕ → ℕ). sums_over f first len) (λ i v. counted v edges i)
