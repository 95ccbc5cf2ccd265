-- The records of a partition, by the range of its vertices.
use Rattle.std.proofs.Common.{◌≡◌, ℕ, zero, suc, ◌+◌, ◌*◌, ◌/◌, ◌<◌, ◌≤◌, true, List, [], ◌∷◌, refl, sym, ◌∙◌, ap, subst, arith, nat_lt, nat_le}
use Rattle.std.specs.Prelude.{◌&&◌}
use Rattle.std.specs.List.{All, list_all}
use Rattle.std.proofs.lemmas.Bool.{and_parts, and_from, ltb-true, lt-ltb, leb-true, le-leb}
use Rattle.std.proofs.lemmas.List.Elements.{All-nil, All-cons, All-head, All-tail}
use Rattle.std.proofs.Math.Nat.{div-eq_of_lt-le, div-mul-le_self, lt-div-mul-add}
use Rattle.graph_model.specs.Partitions.{ceil_div, first_vertex}
use Rattle.graph_model.proofs.SplitLemmas.{ceil_div-below}
use Rattle.graph_model.proofs.BoolLemmas.{all_three}
use Rattle.chunk_model.specs.Layout.{Layout, IsLayout}
use Rattle.chunk_model.specs.ChunkBytes.{Belongs}
use Rattle.chunk_file.specs.Chunks.{is_in}

-- a split of some vertices has a span
some_span : (vertices parts span : ℕ) → span ≡ ceil_div vertices parts → 1 ≤ parts → 0 < vertices → 0 < span
some_span vertices parts zero is some below =
    absurd (omega (arith, ceil_div-below vertices parts 0 some (omega arith)))
some_span vertices parts (suc span) is some below = omega arith

-- the vertices whose partition this is are those of its range
pub in_range : (vertices parts span p home : ℕ) → span ≡ ceil_div vertices parts → 1 ≤ parts → home < vertices → home / span ≡ p →
    (first_vertex vertices parts p ≤ home) × (home < first_vertex vertices parts (p + 1))
in_range vertices parts span p home is some below of =
    let spans : 0 < span = some_span vertices parts span is some (omega arith) in
    let low : p * span ≤ home = subst (λ k. k * span ≤ home) of (div-mul-le_self home span) in
    let high : home < p * span + span = subst (λ k. home < k * span + span) of (lt-div-mul-add spans) in
    let same : p * ceil_div vertices parts ≡ p * span = ap (λ k. p * k) (sym is) in
    let same_next : (p + 1) * ceil_div vertices parts ≡ (p + 1) * span = ap (λ k. (p + 1) * k) (sym is) in
    (omega arith, omega arith)

pub of_range : (vertices parts span p home : ℕ) → span ≡ ceil_div vertices parts → home < vertices →
    first_vertex vertices parts p ≤ home → home < first_vertex vertices parts (p + 1) → home / span ≡ p
of_range vertices parts span p home is below from to =
    let same : p * ceil_div vertices parts ≡ p * span = ap (λ k. p * k) (sym is) in
    let same_next : (p + 1) * ceil_div vertices parts ≡ (p + 1) * span = ap (λ k. (p + 1) * k) (sym is) in
    let low : p * span ≤ home = omega arith in
    let high : home < (p + 1) * span = omega arith in
    div-eq_of_lt-le span low high

module _ {X : Type 0} (layout : Layout X) (laws : IsLayout layout) (vertices parts span p : ℕ) (is : span ≡ ceil_div vertices parts) where
  abbrev first : ℕ
  first = first_vertex vertices parts p

  abbrev end : ℕ
  end = first_vertex vertices parts (p + 1)

  belongs_if : (r : X) → is_in layout vertices first end r ≡ true → Belongs layout vertices span p r
  belongs_if r in' =
      let tests = all_three (layout.fits vertices r) (nat_le first (layout.home r)) (nat_lt (layout.home r) end) in' in
      record {
        fits = tests.0;
        home = of_range vertices parts span p (layout.home r) is (laws.home_fits vertices r tests.0) (leb-true first (layout.home r) tests.1) (ltb-true (layout.home r) end tests.2);
      }

  is_in_if : 1 ≤ parts → (r : X) → Belongs layout vertices span p r → is_in layout vertices first end r ≡ true
  is_in_if some r belongs =
      let range = in_range vertices parts span p (layout.home r) is some (laws.home_fits vertices r belongs.fits) belongs.home in
      and_from (layout.fits vertices r && nat_le first (layout.home r)) (nat_lt (layout.home r) end)
      (and_from (layout.fits vertices r) (nat_le first (layout.home r)) belongs.fits (le-leb first (layout.home r) range.0))
      (lt-ltb (layout.home r) end range.1)

  -- all records are of the partition exactly where the test of each is met
  pub all_belong : (rs : List X) → list_all (is_in layout vertices first end) rs ≡ true → All (Belongs layout vertices span p) rs
  all_belong [] all = All-nil (Belongs layout vertices span p)
  all_belong (r ∷ rs) all =
      let tests = and_parts (is_in layout vertices first end r) (list_all (is_in layout vertices first end) rs) all in
      All-cons (Belongs layout vertices span p) r rs (belongs_if r tests.0) (all_belong rs tests.1)

  pub all_in : 1 ≤ parts → (rs : List X) → All (Belongs layout vertices span p) rs → list_all (is_in layout vertices first end) rs ≡ true
  all_in some [] all = refl
  all_in some (r ∷ rs) all =
      and_from (is_in layout vertices first end r) (list_all (is_in layout vertices first end) rs)
      (is_in_if some r (All-head (Belongs layout vertices span p) r rs all)) (all_in some rs (All-tail (Belongs layout vertices span p) r rs all))

-- the same, with the range's ends as they were computed
pub belong_by_test : {X : Type 0} (layout : Layout X) → IsLayout layout → (vertices parts span p from to : ℕ) → span ≡ ceil_div vertices parts →
    from ≡ first_vertex vertices parts p → to ≡ first_vertex vertices parts (p + 1) → (rs : List X) →
    list_all (is_in layout vertices from to) rs ≡ true → All (Belongs layout vertices span p) rs
belong_by_test layout laws vertices parts span p from to is is_from is_to rs all =
    all_belong layout laws vertices parts span p is rs
    (ap (λ k. list_all (is_in layout vertices k (first_vertex vertices parts (p + 1))) rs) (sym is_from)
    ∙ ap (λ k. list_all (is_in layout vertices from k) rs) (sym is_to)
    ∙ all)

pub test_by_belong : {X : Type 0} (layout : Layout X) → IsLayout layout → (vertices parts span p from to : ℕ) → span ≡ ceil_div vertices parts → 1 ≤ parts →
    from ≡ first_vertex vertices parts p → to ≡ first_vertex vertices parts (p + 1) → (rs : List X) →
    All (Belongs layout vertices span p) rs → list_all (is_in layout vertices from to) rs ≡ true
test_by_belong layout laws vertices parts span p from to is some is_from is_to rs all =
    ap (λ k. list_all (is_in layout vertices k to) rs) is_from
    ∙ ap (λ k. list_all (is_in layout vertices (first_vertex vertices parts p) k) rs) is_to
    ∙ all_in layout laws vertices parts span p is some rs all
