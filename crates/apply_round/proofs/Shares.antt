-- The values of a round, engine by engine, are one list of all vertices.
use Rattle.std.proofs.Common.{◌≡◌, ℕ, zero, suc, ◌+◌, ◌^◌, ◌<◌, ◌≤◌, nat_lt, ◌==◌, Bool, true, false, cond, if◌then◌else◌, List, [], ◌∷◌, ◌++◌, length, map, filter, sum_by, flat_map, Option, refl, sym, ◌∙◌, ap, subst, arith, slice_index_or, lit<, add-one, add-zero, zero-add}
use Rattle.std.specs.List.{All, range_with_len, count_by}
use Rattle.std.proofs.lemmas.List.{map-append, take_at, drop_at, get_or-map, get_or_past, length-map}
use Rattle.std.proofs.lemmas.Bool.{ltb-true, ltb-false}
use Rattle.std.proofs.Math.Nat.{mod-lt}
use Rattle.std.proofs.lemmas.List.Elements.{All-filter}
use Rattle.std.proofs.lemmas.List.FromFn.{length-range_with_len, length-map-range_with_len, get_or-range_with_len}
use Rattle.std.proofs.lemmas.List.Sums.{sum_by-append, sum_by-cons, sum_by_push, count_by-le-length}
use Rattle.std.proofs.lemmas.List.Concat.{length-flat_map}
use Rattle.graph_model.specs.declared.value.Value.{Value}
use Rattle.graph_model.specs.Partitions.{first_vertex, part_len, vertices_in, parts_of_master, master_of}
use Rattle.graph_model.specs.Programs.{Rules}
use Rattle.graph_model.specs.Rounds.{merged, of_vertices, value_at, has_changed, differs}
use Rattle.graph_model.proofs.RoundLemmas.{get_or-of_vertices}
use Rattle.graph_model.proofs.ListLemmas.{range_with_len-more}
use Rattle.gather_laws.specs.Laws.{HaveRoom}
use Rattle.partitioner.specs.declared.split.Split.{Split}
use Rattle.partitioner.proofs.Ranges.{first_vertex-next, ranges_are_all}
use Rattle.partitioner.proofs.Owned.{one_of}
use Rattle.replica_merge.specs.declared.replicas.Replicas.{Replicas}
use Rattle.replica_merge.specs.Merging.{sums_for}
use Rattle.store_model.specs.Kept.{values_of}
use Rattle.store_reader.specs.Reading.{own_in, len_in}
use Rattle.checkpoint.specs.Applied.{sums_in, start_each, next_each, values_in, applied, applied_on, changes, changed_by}
use Rattle.apply_round.specs.Made.{made, changed_among, own_by, share_of, AreMerged}

-- Values of consecutive vertices.
start_range : (rules : Rules) (g : ℕ → ℕ) (h : ℕ → Value) (n a b : ℕ) →
    ((k i j : ℕ) → k < n → a + k ≡ i → b + k ≡ j → rules.start i (if rules.counts then g j else 0) ≡ h i) →
    start_each rules (range_with_len a n) (map g (range_with_len b n)) ≡ map h (range_with_len a n)
start_range rules g h zero a b each = refl
start_range rules g h (suc n) a b each =
    let head : rules.start a (if rules.counts then g b else 0) ≡ h a = each 0 a b (omega arith) (add-zero a) (add-zero b) in
    let tail : start_each rules (range_with_len (a + 1) n) (map g (range_with_len (b + 1) n)) ≡ map h (range_with_len (a + 1) n) =
    start_range rules g h n (a + 1) (b + 1) (λ k i j below first second. each (suc k) i j (omega (arith, below)) (omega (arith, first)) (omega (arith, second))) in
    rw (head, tail) refl

next_range : (rules : Rules) (f : ℕ → Value) (g : ℕ → ℕ) (h : ℕ → Value) (n a b : ℕ) →
    ((k i j : ℕ) → k < n → a + k ≡ i → b + k ≡ j → rules.next (f i) (g j) ≡ h i) →
    next_each rules (map f (range_with_len a n)) (map g (range_with_len b n)) ≡ map h (range_with_len a n)
next_range rules f g h zero a b each = refl
next_range rules f g h (suc n) a b each =
    let head : rules.next (f a) (g b) ≡ h a = each 0 a b (omega arith) (add-zero a) (add-zero b) in
    let tail : next_each rules (map f (range_with_len (a + 1) n)) (map g (range_with_len (b + 1) n)) ≡ map h (range_with_len (a + 1) n) =
    next_range rules f g h n (a + 1) (b + 1) (λ k i j below first second. each (suc k) i j (omega (arith, below)) (omega (arith, first)) (omega (arith, second))) in
    rw (head, tail) refl

-- the partitions of a master are below their number
parts_within : (engines parts e : ℕ) → All (λ p. p < parts) (parts_of_master engines parts e)
parts_within engines parts e =
    All-filter (λ p. master_of engines p == e) (λ p. p < parts) (range_with_len 0 parts)
    (λ k d below. let within : k < parts = omega (arith, below, length-range_with_len 0 parts) in omega (arith, within, get_or-range_with_len 0 parts k d within))

-- a vertex of a partition is one of all
vertex_below : (n parts p k i : ℕ) → k < part_len n parts p → first_vertex n parts p + k ≡ i → i < n
vertex_below n parts p k i below is = let next = first_vertex-next n parts p (p + 1) refl in omega arith

module _ (rules : Rules) (split : Split) (replicas : List Replicas) (spills : List (Option (List ℕ))) (numbers : ℕ → ℕ) (before : List Value) (merges : AreMerged rules split replicas spills numbers) where
  -- the values of a partition
  partition_made : (round p : ℕ) → p < split.parts →
      values_in rules split round (sums_in rules split replicas merges.devices p) p (values_of (vertices_in split.vertices split.parts p) before)
      ≡ values_of (vertices_in split.vertices split.parts p) (made rules split.vertices round numbers before)
  partition_made zero p within =
      let first : ℕ = first_vertex split.vertices split.parts p in
      let value : ℕ → Value = λ v. rules.start v (if rules.counts then numbers v else 0) in
      start_range rules (λ v. merged rules (sums_for replicas merges.devices p v)) (value_at (of_vertices split.vertices value)) (len_in split p) first 0
      (λ k i j below is place.
      let same : merged rules (sums_for replicas merges.devices p j) ≡ numbers i =
      ap (λ (x : ℕ). merged rules (sums_for replicas merges.devices p x)) (sym place ∙ zero-add k) ∙ merges.are p k within below ∙ ap numbers is in
      ap (λ (x : ℕ). rules.start i (if rules.counts then x else 0)) same
      ∙ sym (get_or-of_vertices split.vertices value i _ (vertex_below split.vertices split.parts p k i below is)))
  partition_made (suc round) p within =
      let first : ℕ = first_vertex split.vertices split.parts p in
      let value : ℕ → Value = λ v. rules.next (value_at before v) (numbers v) in
      next_range rules (value_at before) (λ v. merged rules (sums_for replicas merges.devices p v)) (value_at (of_vertices split.vertices value)) (len_in split p) first 0
      (λ k i j below is place.
      let same : merged rules (sums_for replicas merges.devices p j) ≡ numbers i =
      ap (λ (x : ℕ). merged rules (sums_for replicas merges.devices p x)) (sym place ∙ zero-add k) ∙ merges.are p k within below ∙ ap numbers is in
      ap (rules.next (value_at before i)) same
      ∙ sym (get_or-of_vertices split.vertices value i _ (vertex_below split.vertices split.parts p k i below is)))

  -- the values of some partitions
  partitions_made : (round : ℕ) (ps : List ℕ) → All (λ p. p < split.parts) ps →
      applied rules split round (sums_in rules split replicas merges.devices) ps (values_of (flat_map (vertices_in split.vertices split.parts) ps) before)
      ≡ values_of (flat_map (vertices_in split.vertices split.parts) ps) (made rules split.vertices round numbers before)
  partitions_made round [] within = refl
  partitions_made round (p ∷ ps) within =
      let vertices : ℕ → List ℕ = vertices_in split.vertices split.parts in
      let now : List Value = made rules split.vertices round numbers before in
      let front : List Value = values_of (vertices p) before in
      let back : List Value = values_of (flat_map vertices ps) before in
      let long : length front ≡ len_in split p = length-map-range_with_len (value_at before) (first_vertex split.vertices split.parts p) (len_in split p) in
      let cut : values_of (vertices p ++ flat_map vertices ps) before ≡ front ++ back = map-append (value_at before) (vertices p) (flat_map vertices ps) in
      let here : values_in rules split round (sums_in rules split replicas merges.devices p) p front ≡ values_of (vertices p) now = partition_made round p (within 0 p (omega arith)) in
      let rest : applied rules split round (sums_in rules split replicas merges.devices) ps back ≡ values_of (flat_map vertices ps) now =
      partitions_made round ps (λ k d below. within (suc k) d (omega (arith, below))) in
      subst (λ (all : List Value). applied rules split round (sums_in rules split replicas merges.devices) (p ∷ ps) all ≡ values_of (vertices p ++ flat_map vertices ps) now) (sym cut)
      (rw (take_at front back (len_in split p) long, drop_at front back (len_in split p) long, here, rest) (sym (map-append (value_at now) (vertices p) (flat_map vertices ps))))

  -- **The values of a round that apply makes of an engine's vertices are those of the list of all vertices.**
  pub share_made : (engine round : ℕ) →
      applied_on rules split engine round replicas merges.devices (share_of split engine before) ≡ share_of split engine (made rules split.vertices round numbers before)
  share_made engine round = partitions_made round (parts_of_master split.engines split.parts engine) (parts_within split.engines split.parts engine)

-- The values that changed.
same_test : (a b : ℕ) → (a == b) ≡ (b == a)
same_test a b = grind arith

changes_at : (before now : List Value) (vs : List ℕ) → changes (values_of vs before) (values_of vs now) ≡ count_by (has_changed before now) vs
changes_at before now [] = refl
changes_at before now (v ∷ vs) =
    let a : Value = value_at before v in
    let b : Value = value_at now v in
    let test : differs a b ≡ has_changed before now v = rw (same_test a.main b.main, same_test a.side b.side) refl in
    rw (test, changes_at before now vs) (sym (sum_by-cons (λ u. cond (has_changed before now u) 1 0) v vs))

pub changed_share : (split : Split) (engine round : ℕ) (before now : List Value) → changed_by round (share_of split engine before) (share_of split engine now) ≡ changed_among round before now (own_by split engine)
changed_share split engine zero before now = length-map (own_by split engine) (value_at now)
changed_share split engine (suc round) before now = changes_at before now (own_by split engine)

-- How much a vertex counts.
weight : (round : ℕ) → (before now : List Value) → ℕ → ℕ
weight zero before now v = 1
weight (suc round) before now v = cond (has_changed before now v) 1 0

ones : (vs : List ℕ) → length vs ≡ sum_by (λ v. 1) vs
ones [] = refl
ones (v ∷ vs) = omega (arith, ones vs, sum_by-cons (λ (u : ℕ). 1) v vs)

weighed : (round : ℕ) (before now : List Value) (vs : List ℕ) → changed_among round before now vs ≡ sum_by (weight round before now) vs
unfolding weight
weighed zero before now vs = ones vs
weighed (suc round) before now vs = refl

pub changed_among-le : (round : ℕ) (before now : List Value) (vs : List ℕ) → changed_among round before now vs ≤ length vs
changed_among-le zero before now vs = omega arith
changed_among-le (suc round) before now vs = count_by-le-length (has_changed before now) vs

-- Sums over the partitions of all engines.
sum_by-flat_map : (w : ℕ → ℕ) (f : ℕ → List ℕ) (xs : List ℕ) → sum_by w (flat_map f xs) ≡ sum_by (λ x. sum_by w (f x)) xs
sum_by-flat_map w f [] = refl
sum_by-flat_map w f (x ∷ xs) = sum_by-append w (f x) (flat_map f xs) ∙ ap (λ n. sum_by w (f x) + n) (sum_by-flat_map w f xs) ∙ sym (sum_by-cons (λ y. sum_by w (f y)) x xs)

sum_if : (g : ℕ → ℕ) (x : ℕ) (xs : List ℕ) (test : Bool) → sum_by g (cond test (x ∷ xs) xs) ≡ (if test then g x else 0) + sum_by g xs
sum_if g x xs true = sum_by-cons g x xs
sum_if g x xs false = sym (zero-add (sum_by g xs))

below_more : (g h : ℕ → ℕ) (n : ℕ) (xs : List ℕ) → sum_by g (filter (λ x. nat_lt (h x) (n + 1)) xs) ≡ sum_by g (filter (λ x. nat_lt (h x) n) xs) + sum_by g (filter (λ x. h x == n) xs)
below_more g h n [] = refl
below_more g h n (x ∷ xs) = omega (
  arith,
  below_more g h n xs,
  one_of (h x) n (g x),
  sum_if g x (filter (λ y. nat_lt (h y) (n + 1)) xs) (nat_lt (h x) (n + 1)),
  sum_if g x (filter (λ y. nat_lt (h y) n) xs) (nat_lt (h x) n),
  sum_if g x (filter (λ y. h y == n) xs) (h x == n),
)

none_below : (g h : ℕ → ℕ) (xs : List ℕ) → 0 ≡ sum_by g (filter (λ x. nat_lt (h x) 0) xs)
none_below g h [] = refl
none_below g h (x ∷ xs) =
    let test : nat_lt (h x) 0 ≡ false = grind arith in
    rw test (none_below g h xs)

by_place : (g h : ℕ → ℕ) (n : ℕ) (xs : List ℕ) → sum_by (λ e. sum_by g (filter (λ x. h x == e) xs)) (range_with_len 0 n) ≡ sum_by g (filter (λ x. nat_lt (h x) n) xs)
by_place g h zero xs = none_below g h xs
by_place g h (suc n) xs =
    let last = sum_by_push (λ e. sum_by g (filter (λ x. h x == e) xs)) (range_with_len 0 n) n in
    subst (λ k. sum_by (λ e. sum_by g (filter (λ x. h x == e) xs)) (range_with_len 0 k) ≡ sum_by g (filter (λ x. nat_lt (h x) k) xs)) (add-one n)
    (rw range_with_len-more (last ∙ ap (λ k. k + sum_by g (filter (λ x. h x == n) xs)) (by_place g h n xs) ∙ sym (below_more g h n xs)))

all_below : (g h : ℕ → ℕ) (n : ℕ) (xs : List ℕ) → ((x : ℕ) → h x < n) → sum_by g (filter (λ x. nat_lt (h x) n) xs) ≡ sum_by g xs
all_below g h n [] below = refl
all_below g h n (x ∷ xs) below =
    let here : h x < n = below x in
    let test : nat_lt (h x) n ≡ true = grind arith in
    rw test (sum_by-cons g x (filter (λ y. nat_lt (h y) n) xs) ∙ ap (λ k. g x + k) (all_below g h n xs below) ∙ sym (sum_by-cons g x xs))

-- **The changed vertices of all engines are those of all vertices.**
pub changed_of_all : (split : Split) (round : ℕ) (before now : List Value) → 1 ≤ split.engines → 1 ≤ split.parts →
    sum_by (λ e. changed_among round before now (own_by split e)) (range_with_len 0 split.engines) ≡ changed_among round before now (range_with_len 0 split.vertices)
changed_of_all split round before now some_engine some_part =
    let w : ℕ → ℕ = weight round before now in
    let vertices : ℕ → List ℕ = vertices_in split.vertices split.parts in
    let g : ℕ → ℕ = λ p. sum_by w (vertices p) in
    let each : (λ e. changed_among round before now (own_by split e)) ≡ (λ e. sum_by g (parts_of_master split.engines split.parts e)) =
    λ i e. (weighed round before now (own_by split e) ∙ sum_by-flat_map w vertices (parts_of_master split.engines split.parts e)) i in
    ap (λ (f : ℕ → ℕ). sum_by f (range_with_len 0 split.engines)) each
    ∙ by_place g (master_of split.engines) split.engines (range_with_len 0 split.parts)
    ∙ all_below g (master_of split.engines) split.engines (range_with_len 0 split.parts) (λ p. mod-lt p some_engine)
    ∙ sym (sum_by-flat_map w vertices (range_with_len 0 split.parts))
    ∙ ap (sum_by w) (ranges_are_all split.vertices split.parts some_part)
    ∙ sym (weighed round before now (range_with_len 0 split.vertices))

pub length-share : (split : Split) (engine : ℕ) (all : List Value) → length (share_of split engine all) ≡ own_in split engine
length-share split engine all =
    length-map (own_by split engine) (value_at all)
    ∙ length-flat_map (vertices_in split.vertices split.parts) (parts_of_master split.engines split.parts engine)
    ∙ ap (λ (f : ℕ → ℕ). sum_by f (parts_of_master split.engines split.parts engine))
    (λ i p. length-range_with_len (first_vertex split.vertices split.parts p) (part_len split.vertices split.parts p) i)

-- some values of a list of values are such
pub fit_share : (vs : List ℕ) (all : List Value) → HaveRoom all → HaveRoom (values_of vs all)
fit_share vs all fit k d below =
    let within : k < length vs = omega (arith, below, length-map vs (value_at all)) in
    let at : slice_index_or (values_of vs all) k d ≡ value_at all (slice_index_or vs k 0) = get_or-map (value_at all) vs k 0 d within in
    subst (λ (v : Value). (v.main < 2 ^ 64) × (v.side < 2 ^ 64)) (sym at) (fit_at (nat_lt (slice_index_or vs k 0) (length all)) refl)
  where
    fit_at : (test : Bool) → nat_lt (slice_index_or vs k 0) (length all) ≡ test → ((value_at all (slice_index_or vs k 0)).main < 2 ^ 64) × ((value_at all (slice_index_or vs k 0)).side < 2 ^ 64)
    fit_at true is = fit (slice_index_or vs k 0) _ (ltb-true (slice_index_or vs k 0) (length all) is)
    fit_at false is =
        let none : value_at all (slice_index_or vs k 0) ≡ record { main = 0; side = 0 } = get_or_past all (slice_index_or vs k 0) _ (ltb-false (slice_index_or vs k 0) (length all) is) in
        rw none (lit< tt, lit< tt)
