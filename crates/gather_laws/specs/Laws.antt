-- The laws that a program's rules meet, and lists of sums that are cut into pieces.
use Rattle.std.specs.Prelude.{◌≡◌, ℕ, ◌<◌, ◌≤◌, ◌^◌, ◌⊎◌, List, map, flat_map, true, false, Some, slice_index_or}
use Rattle.std.specs.List.{All, range_with_len}
use Rattle.std.specs.List.Sorted.{IsPermutation}
use Rattle.graph_model.specs.declared.value.Value.{Value}
use Rattle.graph_model.specs.Programs.{Rules, NONE, CAP, plus}
use Rattle.graph_model.specs.Rounds.{merged}

-- What counts as a sum.
abbrev pub IsCapped : ℕ → Type 0
IsCapped s = s ≤ CAP

abbrev pub IsCappedOrNone : ℕ → Type 0
IsCappedOrNone s = (s ≤ CAP) ⊎ (s ≡ NONE)

-- sums can be merged in any grouping and any order
pub record MergeLaws (unit : ℕ) (merge : ℕ → ℕ → ℕ) (IsSum : ℕ → Type 0) : Type 0 where
  pub unit_is_sum : IsSum unit
  pub merge_is_sum : (s t : ℕ) → IsSum s → IsSum t → IsSum (merge s t)
  pub neutral : (s : ℕ) → IsSum s → merge unit s ≡ s
  pub commutes : (s t : ℕ) → IsSum s → IsSum t → merge s t ≡ merge t s
  pub associates : (s t u : ℕ) → IsSum s → IsSum t → IsSum u → merge (merge s t) u ≡ merge s (merge t u)

-- a program that uses the number of edges adds, and for any other that number does not matter
pub record CountLaws (rules : Rules) : Type 0 where
  pub adds : rules.counts ≡ true → (a b : ℕ) → rules.merge a b ≡ plus a b
  pub from_zero : rules.counts ≡ true → rules.unit ≡ 0
  pub ignores : rules.counts ≡ false → (v out other : ℕ) → rules.start v out ≡ rules.start v other

-- an update that was merged in the last round has no effect when it comes again
abbrev pub Absorbs : Rules → (ℕ → Type 0) → Type 0
Absorbs rules IsSum = (value : Value) (s t u : ℕ) → IsSum value.main → IsSum s → IsSum t → IsSum u →
    rules.next (rules.next value (rules.merge s u)) (rules.merge t u) ≡ rules.next (rules.next value (rules.merge s u)) t

-- the laws of a program's rules and of its sums
pub record GatherLaws (rules : Rules) (IsSum : ℕ → Type 0) : Type 0 where
  pub bounded : (s : ℕ) → IsSum s → IsCappedOrNone s
  pub merging : MergeLaws rules.unit rules.merge IsSum
  pub folding : (s u : ℕ) → IsSum s → IsSum u → rules.fold s u ≡ rules.merge s u
  pub start_is_sum : (v out : ℕ) → v < 2 ^ 32 → IsSum (rules.start v out).main
  pub send_is_sum : (value : Value) (weight s : ℕ) → IsSum value.main → rules.send value weight ≡ Some s → IsSum s
  pub next_is_sum : (value : Value) (sum : ℕ) → IsSum value.main → IsSum sum → IsSum (rules.next value sum).main
  -- the second number of a value has room in 64 bits
  pub start_fits : (v out : ℕ) → v < 2 ^ 32 → out < 2 ^ 64 → (rules.start v out).side < 2 ^ 64
  pub next_fits : (value : Value) (sum : ℕ) → value.side < 2 ^ 64 → (rules.next value sum).side < 2 ^ 64
  pub counting : CountLaws rules
  pub absorbing : rules.absorbs ≡ true → Absorbs rules IsSum

-- both numbers of each value have room in 64 bits
abbrev pub HaveRoom : List Value → Type 0
HaveRoom values = All (λ (x : Value). (x.main < 2 ^ 64) × (x.side < 2 ^ 64)) values

-- the merge of the merges of pieces
abbrev pub merged_pieces : Rules → List (List ℕ) → ℕ
merged_pieces rules pieces = merged rules (map (merged rules) pieces)

-- lists of places that together hold each place below n once
abbrev pub SplitsPlaces : ℕ → List (List ℕ) → Type 0
SplitsPlaces n places = IsPermutation (range_with_len 0 n) (flat_map (λ piece. piece) places)

abbrev pub items_at : List ℕ → List ℕ → List ℕ
items_at items places = map (λ place. slice_index_or items place 0) places
