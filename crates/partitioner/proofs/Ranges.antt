-- The ranges of the partitions, in order, are all vertices; each vertex is in the range of its partition.
use Rattle.std.proofs.Common.{◌≡◌, ℕ, zero, suc, ◌+◌, ◌*◌, ◌/◌, ◌<◌, ◌≤◌, [], ◌∷◌, ◌++◌, sym, ◌∙◌, subst, ap, arith, add-one, zero-add, append-nil}
use Rattle.std.proofs.Math.Nat.{div-lt_iff_lt-mul, div-mul-le_self, lt-div-mul-add, le-div_iff_mul-le}
use Rattle.std.specs.List.{range_with_len, flat_map}
use Rattle.std.proofs.lemmas.Grind.{flat_map-append}
use Rattle.graph_model.specs.Partitions.{ceil_div, first_vertex, part_len, vertices_in, partition_of}
use Rattle.graph_model.proofs.SplitLemmas.{ceil_div-below}
use Rattle.graph_model.proofs.ListLemmas.{range_with_len-more, range_with_len-append}
use Rattle.partitioner.specs.declared.split.Split.{Split}
use Rattle.partitioner.specs.Splits.{IsSplit}
use Rattle.partitioner.proofs.Made.{some_part}

-- all partitions together reach the last vertex
span_reaches : (n parts : ℕ) → 1 ≤ parts → n ≤ parts * ceil_div n parts
span_reaches n parts some_part = ceil_div-below n parts (ceil_div n parts) some_part (omega arith)

next_product : (p span : ℕ) → (p + 1) * span ≡ p * span + span
next_product p span = grind arith

pub first_vertex-end : (n parts : ℕ) → 1 ≤ parts → first_vertex n parts parts ≡ n
first_vertex-end n parts some_part = let reaches = span_reaches n parts some_part in omega arith

-- a partition's vertices end where the next one's begin
pub first_vertex-next : (n parts p q : ℕ) → p + 1 ≡ q → first_vertex n parts p + part_len n parts p ≡ first_vertex n parts q
first_vertex-next n parts p q one_more = subst (λ k. first_vertex n parts p + part_len n parts p ≡ first_vertex n parts k) one_more (let next = next_product p (ceil_div n parts) in omega arith)

-- no partition has more vertices than the span
pub part_len-span : (n parts p : ℕ) → part_len n parts p ≤ ceil_div n parts
part_len-span n parts p = let next = next_product p (ceil_div n parts) in omega arith

-- the ranges of the partitions below p, in order, are all vertices below the first one of p
pub ranges_join : (n parts p : ℕ) → flat_map (vertices_in n parts) (range_with_len 0 p) ≡ range_with_len 0 (first_vertex n parts p)
ranges_join n parts zero = let start : first_vertex n parts 0 ≡ 0 = omega arith in ap (range_with_len 0) (sym start)
ranges_join n parts (suc p) =
    let first = first_vertex n parts p in
    let len = part_len n parts p in
    let next : first + len ≡ first_vertex n parts (suc p) = first_vertex-next n parts p (suc p) (add-one p) in
    let all : range_with_len 0 (suc p) ≡ range_with_len 0 p ++ p ∷ [] = rw (add-one p) at (range_with_len-more p) in
    let last : vertices_in n parts p ++ [] ≡ range_with_len (0 + first) len = rw (zero-add first) (append-nil (vertices_in n parts p)) in
    ap (flat_map (vertices_in n parts)) all
    ∙ flat_map-append (vertices_in n parts) (range_with_len 0 p) (p ∷ [])
    ∙ ap (λ front. front ++ (vertices_in n parts p ++ [])) (ranges_join n parts p)
    ∙ ap (λ back. range_with_len 0 first ++ back) last
    ∙ range_with_len-append 0 first len
    ∙ ap (range_with_len 0) next

-- **The ranges of all partitions, in order, are all vertices.**
pub ranges_are_all : (n parts : ℕ) → 1 ≤ parts → flat_map (vertices_in n parts) (range_with_len 0 parts) ≡ range_with_len 0 n
ranges_are_all n parts some_part = rw (ranges_join n parts parts) (ap (range_with_len 0) (first_vertex-end n parts some_part))

-- where there is a vertex, the span is not 0
pub span_positive : (n parts v : ℕ) → 1 ≤ parts → v < n → 1 ≤ ceil_div n parts
span_positive n parts v some_part below = let reaches = span_reaches n parts some_part in grind (arith, reaches)

pub partition_of-below : (n parts v : ℕ) → 1 ≤ parts → v < n → partition_of n parts v < parts
partition_of-below n parts v some_part below =
    let reaches = span_reaches n parts some_part in
    (div-lt_iff_lt-mul (span_positive n parts v some_part below)).1 (omega arith)

-- **A vertex is in the range of its partition.**
pub partition_of-in_range : (n parts v p : ℕ) → 1 ≤ parts → v < n → partition_of n parts v ≡ p → (first_vertex n parts p ≤ v) × (v < first_vertex n parts (p + 1))
partition_of-in_range n parts v p some_part below is =
    let span = ceil_div n parts in
    let from : p * span ≤ v = subst (λ k. k * span ≤ v) is (div-mul-le_self v span) in
    let until : v < p * span + span = subst (λ k. v < k * span + span) is (lt-div-mul-add (span_positive n parts v some_part below)) in
    let next = next_product p span in
    (omega (arith, from), omega (arith, until, next, below))

-- **And of no other.**
pub in_range-partition_of : (n parts v p : ℕ) → 1 ≤ parts → first_vertex n parts p ≤ v → v < first_vertex n parts (p + 1) → partition_of n parts v ≡ p
in_range-partition_of n parts v p some_part from below =
    let span = ceil_div n parts in
    let within : v < n = omega arith in
    let some_span = span_positive n parts v some_part within in
    let reached : p * span ≤ v = omega (arith, from, within) in
    let not_below : p ≤ v / span = (le-div_iff_mul-le some_span).1 reached in
    let not_above : v / span < p + 1 = (div-lt_iff_lt-mul some_span).1 (omega (arith, below)) in
    omega (arith, not_below, not_above)

-- A vertex of a partition is in its range.
pub in_partition : (split : Split) (p v : ℕ) → IsSplit split → v < split.vertices → v / split.span ≡ p → (first_vertex split.vertices split.parts p ≤ v) × (v < first_vertex split.vertices split.parts p + part_len split.vertices split.parts p)
in_partition split p v is below home =
    let here : partition_of split.vertices split.parts v ≡ p = ap (λ span. v / span) (sym is.span) ∙ home in
    let range = partition_of-in_range split.vertices split.parts v p (some_part split is) below here in
    (range.0, omega (arith, range.0, range.1))
