-- The layouts of edges and of updates: their widths, and that what is written is read.
use Rattle.std.proofs.Common.{◌≡◌, ◌⊎◌, inl, inr, lit<, lit≤, append_assoc, ℕ, ◌+◌, ◌^◌, ◌<◌, ◌≤◌, ◌==◌, ◌&&◌, Bool, true, false, cond, List, ◌++◌, length, take, drop, get_or, refl, sym, ◌∙◌, ap, arith, length-take, length-drop, nat_lt, nat_le}
use Rattle.std.specs.Int.{to_be_bytes, from_be_bytes, w32, w64}
use Rattle.std.proofs.lemmas.Nat.{be_bytes_4, be_bytes_8, from_be_bytes-to_be_bytes_4, from_be_bytes-to_be_bytes_8}
use Rattle.std.proofs.lemmas.List.{get_or-take, get_or-drop, take-append-drop, drop-drop, get_or_past}
use Rattle.std.proofs.lemmas.Bool.{and_from, and_parts, ltb-true, lt-ltb, cases_lt}
use Rattle.std.specs.Prelude.{if◌then◌else◌}
use Rattle.graph_model.specs.declared.edge.Edge.{Edge}
use Rattle.graph_model.specs.declared.edge.TheConstants.{MAX_WEIGHT}
use Rattle.graph_model.specs.declared.value.Update.{Update}
use Rattle.graph_model.proofs.BoolLemmas.{all_three}
use Rattle.chunk_model.specs.Layout.{IsLayout, edge_width, edge_bytes, edge_of, holds_edge, edge_layout, update_bytes, update_of, holds_update, update_layout}

-- Numbers of four and of eight bytes.
below_4 : (bs : List ℕ) → ((i : ℕ) → get_or bs i 0 < 256) → from_be_bytes w32 bs < 2 ^ 32
below_4 bs bytes = omega (arith, bytes 0, bytes 1, bytes 2, bytes 3)

below_8 : (bs : List ℕ) → ((i : ℕ) → get_or bs i 0 < 256) → from_be_bytes w64 bs < 2 ^ 64
below_8 bs bytes = omega (arith, bytes 0, bytes 1, bytes 2, bytes 3, bytes 4, bytes 5, bytes 6, bytes 7)

pub bytes_of_part : (from n : ℕ) (bs : List ℕ) → ((i : ℕ) → get_or bs i 0 < 256) → (i : ℕ) → get_or (take n (drop from bs)) i 0 < 256
bytes_of_part from n bs bytes i = by_place (cases_lt i n)
  where
    by_place : (i < n) ⊎ (n ≤ i) → get_or (take n (drop from bs)) i 0 < 256
    by_place (inl within) =
        omega (arith, get_or-take n (drop from bs) i 0 within, get_or-drop from bs i 0, bytes (from + i))
    by_place (inr past) =
        omega (arith, get_or_past (take n (drop from bs)) i 0 (omega (arith, length-take n (drop from bs))))

bytes_of_rest : (from : ℕ) (bs : List ℕ) → ((i : ℕ) → get_or bs i 0 < 256) → (i : ℕ) → get_or (drop from bs) i 0 < 256
bytes_of_rest from bs bytes i = omega (arith, get_or-drop from bs i 0, bytes (from + i))

-- A number of four bytes or of eight, by a test.
abbrev put_by : Bool → ℕ → List ℕ
put_by short n = cond short (to_be_bytes w32 n) (to_be_bytes w64 n)

abbrev get_by : Bool → List ℕ → ℕ
get_by short bs = cond short (from_be_bytes w32 bs) (from_be_bytes w64 bs)

length_put : (short : Bool) (n : ℕ) → length (put_by short n) ≡ cond short 4 8
length_put true n = refl
length_put false n = refl

get_put : (short : Bool) (n : ℕ) → n < cond short (2 ^ 32) (2 ^ 64) → get_by short (put_by short n) ≡ n
get_put true n below = from_be_bytes-to_be_bytes_4 n below
get_put false n below = from_be_bytes-to_be_bytes_8 n below

put_get : (short : Bool) (bs : List ℕ) → length bs ≡ cond short 4 8 → ((i : ℕ) → get_or bs i 0 < 256) → put_by short (get_by short bs) ≡ bs
put_get true bs long bytes = be_bytes_4 bs (from_be_bytes w32 bs) long bytes refl
put_get false bs long bytes = be_bytes_8 bs (from_be_bytes w64 bs) long bytes refl

get_below : (short : Bool) (bs : List ℕ) → ((i : ℕ) → get_or bs i 0 < 256) → get_by short bs < cond short (2 ^ 32) (2 ^ 64)
get_below true bs bytes = below_4 bs bytes
get_below false bs bytes = below_8 bs bytes

three_from : (a b c : Bool) → a ≡ true → b ≡ true → c ≡ true → (a && b && c) ≡ true
three_from a b c x y z = and_from (a && b) c (and_from a b x y) z

-- Edges.
pub length-edge_bytes : (format : ℕ) (e : Edge) → length (edge_bytes format e) ≡ edge_width format
unfolding edge_bytes
length-edge_bytes format e = omega (arith, length_put (format == 1) e.weight)

-- what an edge's numbers are below
pub edge_below : (format : ℕ) (e : Edge) → holds_edge format e ≡ true → (e.src < 2 ^ 32) × (e.dst < 2 ^ 32) × (e.weight < (if format == 1 then 2 ^ 32 else 2 ^ 64))
edge_below format e holds =
    let parts = all_three (nat_lt e.src (2 ^ 32)) (nat_lt e.dst (2 ^ 32)) (nat_lt e.weight (if format == 1 then 2 ^ 32 else 2 ^ 64)) holds in
    (ltb-true e.src (2 ^ 32) parts.0, ltb-true e.dst (2 ^ 32) parts.1, ltb-true e.weight (if format == 1 then 2 ^ 32 else 2 ^ 64) parts.2)

pub edge_holds : (format : ℕ) (e : Edge) → e.src < 2 ^ 32 → e.dst < 2 ^ 32 → e.weight < (if format == 1 then 2 ^ 32 else 2 ^ 64) → holds_edge format e ≡ true
edge_holds format e src dst weight =
    three_from (nat_lt e.src (2 ^ 32)) (nat_lt e.dst (2 ^ 32)) (nat_lt e.weight (if format == 1 then 2 ^ 32 else 2 ^ 64))
    (lt-ltb e.src (2 ^ 32) src) (lt-ltb e.dst (2 ^ 32) dst) (lt-ltb e.weight (if format == 1 then 2 ^ 32 else 2 ^ 64) weight)

pub edge_of-edge_bytes : (format : ℕ) (e : Edge) → holds_edge format e ≡ true → edge_of format (edge_bytes format e) ≡ e
unfolding edge_bytes edge_of
edge_of-edge_bytes format e holds =
    let below = edge_below format e holds in
    let weight : ℕ = get_by (format == 1) (put_by (format == 1) e.weight) in
    let made : ℕ → ℕ → ℕ → Edge = λ s d w. record { src = s; dst = d; weight = w } in
    ap (λ s. made s (from_be_bytes w32 (to_be_bytes w32 e.dst)) weight) (from_be_bytes-to_be_bytes_4 e.src below.0)
    ∙ ap (λ d. made e.src d weight) (from_be_bytes-to_be_bytes_4 e.dst below.1)
    ∙ ap (λ w. made e.src e.dst w) (get_put (format == 1) e.weight below.2)

pub edge_bytes-edge_of : (format : ℕ) (bs : List ℕ) → ((i : ℕ) → get_or bs i 0 < 256) → length bs ≡ edge_width format →
    (edge_bytes format (edge_of format bs) ≡ bs) × (holds_edge format (edge_of format bs) ≡ true)
unfolding edge_bytes edge_of
edge_bytes-edge_of format bs bytes long =
    let src : List ℕ = take 4 bs in
    let dst : List ℕ = take 4 (drop 4 bs) in
    let weight : List ℕ = drop 8 bs in
    let src_bytes : (i : ℕ) → get_or src i 0 < 256 = bytes_of_part 0 4 bs bytes in
    let dst_bytes : (i : ℕ) → get_or dst i 0 < 256 = bytes_of_part 4 4 bs bytes in
    let weight_bytes : (i : ℕ) → get_or weight i 0 < 256 = bytes_of_rest 8 bs bytes in
    let src_long : length src ≡ 4 = omega (arith, length-take 4 bs) in
    let dst_long : length dst ≡ 4 = omega (arith, length-take 4 (drop 4 bs), length-drop 4 bs) in
    let weight_long : length weight ≡ cond (format == 1) 4 8 = omega (arith, length-drop 8 bs) in (
      ap (λ xs. xs ++ to_be_bytes w32 (from_be_bytes w32 dst) ++ put_by (format == 1) (get_by (format == 1) weight))
          (be_bytes_4 src (from_be_bytes w32 src) src_long src_bytes refl)
          ∙ ap (λ xs. src ++ xs ++ put_by (format == 1) (get_by (format == 1) weight)) (be_bytes_4 dst (from_be_bytes w32 dst) dst_long dst_bytes refl)
          ∙ ap (λ xs. src ++ dst ++ xs) (put_get (format == 1) weight weight_long weight_bytes)
          ∙ append_assoc src dst weight
          ∙ ap (λ xs. src ++ (dst ++ xs)) (sym (drop-drop 4 4 bs))
          ∙ ap (λ xs. src ++ xs) (take-append-drop 4 (drop 4 bs))
          ∙ take-append-drop 4 bs,
      edge_holds format (edge_of format bs) (below_4 src src_bytes) (below_4 dst dst_bytes) (get_below (format == 1) weight weight_bytes),
    )

-- **The laws of edges.**
pub edge_layout_is : (format : ℕ) → IsLayout (edge_layout format)
edge_layout_is format = record {
  some = some_width (format == 1);
  few = few_width (format == 1);
  length_is = length-edge_bytes format;
  reads_back = edge_of-edge_bytes format;
  spelled = edge_bytes-edge_of format;
  home_fits = λ vertices e fits. ltb-true e.src vertices (all_three (nat_lt e.src vertices) (nat_lt e.dst vertices) (nat_le e.weight MAX_WEIGHT) fits).0;
}
  where
    some_width : (short : Bool) → 0 < 8 + cond short 4 8
    some_width short = omega arith

    few_width : (short : Bool) → 8 + cond short 4 8 ≤ 64
    few_width true = lit≤ tt
    few_width false = lit≤ tt

-- Updates.
pub update_below : (u : Update) → holds_update u ≡ true → (u.dst < 2 ^ 32) × (u.value < 2 ^ 64)
update_below u holds =
    let parts = and_parts (nat_lt u.dst (2 ^ 32)) (nat_lt u.value (2 ^ 64)) holds in
    (ltb-true u.dst (2 ^ 32) parts.0, ltb-true u.value (2 ^ 64) parts.1)

pub update_holds : (u : Update) → u.dst < 2 ^ 32 → u.value < 2 ^ 64 → holds_update u ≡ true
update_holds u dst value =
    and_from (nat_lt u.dst (2 ^ 32)) (nat_lt u.value (2 ^ 64)) (lt-ltb u.dst (2 ^ 32) dst) (lt-ltb u.value (2 ^ 64) value)

pub length-update_bytes : (u : Update) → length (update_bytes u) ≡ 12
unfolding update_bytes
length-update_bytes u = refl

pub update_of-update_bytes : (u : Update) → holds_update u ≡ true → update_of (update_bytes u) ≡ u
unfolding update_bytes update_of
update_of-update_bytes u holds =
    let below = update_below u holds in
    let made : ℕ → ℕ → Update = λ d v. record { dst = d; value = v } in
    ap (λ d. made d (from_be_bytes w64 (to_be_bytes w64 u.value))) (from_be_bytes-to_be_bytes_4 u.dst below.0)
    ∙ ap (λ v. made u.dst v) (from_be_bytes-to_be_bytes_8 u.value below.1)

pub update_bytes-update_of : (bs : List ℕ) → ((i : ℕ) → get_or bs i 0 < 256) → length bs ≡ 12 →
    (update_bytes (update_of bs) ≡ bs) × (holds_update (update_of bs) ≡ true)
unfolding update_bytes update_of
update_bytes-update_of bs bytes long =
    let dst : List ℕ = take 4 bs in
    let value : List ℕ = drop 4 bs in
    let dst_bytes : (i : ℕ) → get_or dst i 0 < 256 = bytes_of_part 0 4 bs bytes in
    let value_bytes : (i : ℕ) → get_or value i 0 < 256 = bytes_of_rest 4 bs bytes in
    let dst_long : length dst ≡ 4 = omega (arith, length-take 4 bs) in
    let value_long : length value ≡ 8 = omega (arith, length-drop 4 bs) in (
      ap (λ xs. xs ++ to_be_bytes w64 (from_be_bytes w64 value)) (be_bytes_4 dst (from_be_bytes w32 dst) dst_long dst_bytes refl)
          ∙ ap (λ xs. dst ++ xs) (be_bytes_8 value (from_be_bytes w64 value) value_long value_bytes refl)
          ∙ take-append-drop 4 bs,
      update_holds (update_of bs) (below_4 dst dst_bytes) (below_8 value value_bytes),
    )

-- **The laws of updates.**
pub update_layout_is : IsLayout update_layout
update_layout_is = record {
  some = lit< tt;
  few = lit≤ tt;
  length_is = length-update_bytes;
  reads_back = update_of-update_bytes;
  spelled = update_bytes-update_of;
  home_fits = λ vertices u fits. ltb-true u.dst vertices fits;
}
