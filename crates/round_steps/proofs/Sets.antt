-- The values of one partition among those of its master.
use Rattle.std.proofs.Common.{◌≡◌, ℕ, suc, ◌+◌, ◌-◌, ◌*◌, ◌<◌, ◌≤◌, ◌==◌, List, ◌∷◌, ◌++◌, cond, length, take, filter, map, flat_map, sum_by, refl, sym, ◌∙◌, ap, arith, eq-eqb}
use Rattle.std.proofs.lemmas.List.{take_at, drop_at, map-append, length-map}
use Rattle.std.proofs.lemmas.List.Concat.{flat_map-append, length-flat_map}
use Rattle.std.proofs.lemmas.List.Elements.{filter-append}
use Rattle.std.proofs.lemmas.List.FromFn.{length-range_with_len}
use Rattle.std.specs.List.{range_with_len}
use Rattle.graph_model.specs.declared.value.Value.{Value}
use Rattle.graph_model.specs.Partitions.{first_vertex, part_len, master_of, parts_of_master, vertices_in}
use Rattle.graph_model.specs.Rounds.{value_at}
use Rattle.graph_model.proofs.ListLemmas.{range_with_len-append}
use Rattle.partitioner.specs.declared.split.Split.{Split}
use Rattle.partitioner.proofs.Owned.{own_before-fits}
use Rattle.ports.specs.Bytes.{bytes_at}
use Rattle.ports.proofs.Parts.{bytes_at-within}
use Rattle.store_model.specs.Kept.{values_of}
use Rattle.store_model.specs.Slots.{slot_start, slot_values, set_bytes, value_bytes, values_bytes}
use Rattle.store_reader.specs.Reading.{own_in, master_in, len_in, before_in}
use Rattle.store_model.proofs.ValueBytes.{length-values_bytes}
use Rattle.apply_round.specs.Made.{share_of}

-- the partitions of a master, with one of them
record HasPart (engines parts p : ℕ) : Type 0 where
  pub rest : List ℕ
  pub is : parts_of_master engines parts (master_of engines p) ≡ parts_of_master engines p (master_of engines p) ++ p ∷ rest

has_part : (engines parts p : ℕ) → p < parts → HasPart engines parts p
has_part engines parts p below =
    let k : ℕ = parts - (p + 1) in
    let e : ℕ = master_of engines p in
    let all : range_with_len 0 parts ≡ range_with_len 0 p ++ range_with_len p (suc k) =
    ap (range_with_len 0) (let many : parts ≡ p + suc k = omega arith in many) ∙ sym (range_with_len-append 0 p (suc k)) ∙ ap (λ (q : ℕ). range_with_len 0 p ++ range_with_len q (suc k)) (let from : 0 + p ≡ p = omega arith in from) in
    record {
      rest = filter (λ q. master_of engines q == e) (range_with_len (p + 1) k);
      is = ap (filter (λ q. master_of engines q == e)) all
          ∙ filter-append (λ q. master_of engines q == e) (range_with_len 0 p) (range_with_len p (suc k))
          ∙ ap (λ b. parts_of_master engines p e ++ cond b (p ∷ filter (λ q. master_of engines q == e) (range_with_len (p + 1) k)) (filter (λ q. master_of engines q == e) (range_with_len (p + 1) k))) (eq-eqb (master_of engines p) e refl);
    }

-- the share of an engine, with that of one of its partitions
record HasSet (split : Split) (p : ℕ) (all : List Value) : Type 0 where
  pub front : List Value
  pub rest : List Value
  pub is : share_of split (master_in split p) all ≡ front ++ (values_of (vertices_in split.vertices split.parts p) all ++ rest)
  pub long : length front ≡ before_in split p

has_set : (split : Split) (p : ℕ) (all : List Value) → p < split.parts → HasSet split p all
has_set split p all below =
    let vertices : ℕ → List ℕ = vertices_in split.vertices split.parts in
    let part : HasPart split.engines split.parts p = has_part split.engines split.parts p below in
    let lower : List ℕ = parts_of_master split.engines p (master_in split p) in
    record {
      front = values_of (flat_map vertices lower) all;
      rest = values_of (flat_map vertices part.rest) all;
      is = ap (λ (ps : List ℕ). values_of (flat_map vertices ps) all) part.is
          ∙ ap (map (value_at all)) (flat_map-append vertices lower (p ∷ part.rest))
          ∙ map-append (value_at all) (flat_map vertices lower) (vertices p ++ flat_map vertices part.rest)
          ∙ ap (λ (vs : List Value). values_of (flat_map vertices lower) all ++ vs) (map-append (value_at all) (vertices p) (flat_map vertices part.rest));
      long = length-map (flat_map vertices lower) (value_at all)
          ∙ length-flat_map vertices lower
          ∙ ap (λ (f : ℕ → ℕ). sum_by f lower) (λ i q. length-range_with_len (first_vertex split.vertices split.parts q) (part_len split.vertices split.parts q) i);
    }

-- **Where an engine's share stands in a slot, each of its partitions stands at its place there.**
pub set_stands : (split : Split) (slot p : ℕ) (all : List Value) (read : List ℕ) → p < split.parts → slot_values (own_in split (master_in split p)) slot read ≡ values_bytes (share_of split (master_in split p) all) →
    values_bytes (values_of (vertices_in split.vertices split.parts p) all) ≡ set_bytes (own_in split (master_in split p)) slot (before_in split p) (len_in split p) read
set_stands split slot p all read below stands =
    let own : ℕ = own_in split (master_in split p) in
    let count : ℕ = before_in split p in
    let len : ℕ = len_in split p in
    let fits : count + len ≤ own = own_before-fits split.vertices split.engines split.parts p below in
    let has : HasSet split p all = has_set split p all below in
    let set : List Value = values_of (vertices_in split.vertices split.parts p) all in
    let set_long : length (values_bytes set) ≡ 16 * len =
    length-values_bytes set ∙ ap (λ (k : ℕ). 16 * k) (length-map (vertices_in split.vertices split.parts p) (value_at all) ∙ length-range_with_len (first_vertex split.vertices split.parts p) len) in
    let front_long : length (values_bytes has.front) ≡ 16 * count = length-values_bytes has.front ∙ ap (λ (k : ℕ). 16 * k) has.long in
    let bytes : slot_values own slot read ≡ values_bytes has.front ++ (values_bytes set ++ values_bytes has.rest) =
    stands ∙ ap values_bytes has.is ∙ flat_map-append value_bytes has.front (set ++ has.rest) ∙ ap (λ (bs : List ℕ). values_bytes has.front ++ bs) (flat_map-append value_bytes set has.rest) in
    sym (sym (bytes_at-within (slot_start own slot + 24) (16 * own) (16 * count) (16 * len) read (omega arith))
    ∙ ap (bytes_at (16 * count) (16 * len)) bytes
    ∙ ap (take (16 * len)) (drop_at (values_bytes has.front) (values_bytes set ++ values_bytes has.rest) (16 * count) front_long)
    ∙ take_at (values_bytes set) (values_bytes has.rest) (16 * len) set_long)
