-- How records are written: numbers of fixed width, high byte first.
use Rattle.std.specs.Prelude.{ℕ, ◌+◌, ◌^◌, ◌<◌, ◌≤◌, ◌≡◌, ◌==◌, ◌&&◌, if◌then◌else◌, Bool, true, nat_lt, nat_le, List, ◌++◌, length, take, drop, slice_index}
use Rattle.std.specs.Int.{to_be_bytes, from_be_bytes, w32, w64}
use Rattle.graph_model.specs.declared.edge.Edge.{Edge}
use Rattle.graph_model.specs.declared.value.Update.{Update}
use Rattle.graph_model.specs.declared.edge.TheConstants.{MAX_WEIGHT}

-- What a kind of records is to those who store it:
-- width    the bytes of a record
-- holds    whether there is room in them for a record's numbers
-- bytes    how a record is written
-- read     the record that so many bytes say
-- home     the vertex whose partition a record is in
-- fits     whether a record's vertices are below a number of vertices, and its other numbers in their ranges
pub record Layout (X : Type 0) : Type 0 where
  pub width : ℕ
  pub holds : X → Bool
  pub bytes : X → List ℕ
  pub read : List ℕ → X
  pub home : X → ℕ
  pub fits : ℕ → X → Bool

-- What holds of every layout: it has so many bytes, and a record that it has room for is what its bytes say.
pub record IsLayout {X : Type 0} (layout : Layout X) : Type 0 where
  pub some : 0 < layout.width
  pub few : layout.width ≤ 64
  pub length_is : (r : X) → length (layout.bytes r) ≡ layout.width
  pub reads_back : (r : X) → layout.holds r ≡ true → layout.read (layout.bytes r) ≡ r
  pub spelled : (bytes : List ℕ) → ((i : ℕ) → slice_index bytes i < 256) → length bytes ≡ layout.width →
      (layout.bytes (layout.read bytes) ≡ bytes) × (layout.holds (layout.read bytes) ≡ true)
  pub home_fits : (vertices : ℕ) (r : X) → layout.fits vertices r ≡ true → layout.home r < vertices

-- Edges: source, destination and weight; the weight has 4 bytes in format 1 and 8 in format 2.
abbrev pub weight_width : ℕ → ℕ
weight_width format = if format == 1 then 4 else 8

abbrev pub edge_width : ℕ → ℕ
edge_width format = 8 + weight_width format

abbrev pub weight_bytes : ℕ → ℕ → List ℕ
weight_bytes format weight = if format == 1 then to_be_bytes w32 weight else to_be_bytes w64 weight

abbrev pub weight_of : ℕ → List ℕ → ℕ
weight_of format bytes = if format == 1 then from_be_bytes w32 bytes else from_be_bytes w64 bytes

unfoldable pub edge_bytes : ℕ → Edge → List ℕ
edge_bytes format edge = to_be_bytes w32 edge.src ++ to_be_bytes w32 edge.dst ++ weight_bytes format edge.weight

unfoldable pub edge_of : ℕ → List ℕ → Edge
edge_of format bytes = record {
  src = from_be_bytes w32 (take 4 bytes);
  dst = from_be_bytes w32 (take 4 (drop 4 bytes));
  weight = weight_of format (drop 8 bytes);
}

abbrev pub holds_edge : ℕ → Edge → Bool
holds_edge format edge =
    nat_lt edge.src (2 ^ 32) && nat_lt edge.dst (2 ^ 32) && nat_lt edge.weight (if format == 1 then 2 ^ 32 else 2 ^ 64)

abbrev pub edge_fits : ℕ → Edge → Bool
edge_fits vertices edge = nat_lt edge.src vertices && nat_lt edge.dst vertices && nat_le edge.weight MAX_WEIGHT

abbrev pub edge_layout : ℕ → Layout Edge
edge_layout format = record {
  width = edge_width format;
  holds = holds_edge format;
  bytes = edge_bytes format;
  read = edge_of format;
  home = λ edge. edge.src;
  fits = edge_fits;
}

-- Updates: destination and value, the same in both formats.
unfoldable pub update_bytes : Update → List ℕ
update_bytes update = to_be_bytes w32 update.dst ++ to_be_bytes w64 update.value

unfoldable pub update_of : List ℕ → Update
update_of bytes = record { dst = from_be_bytes w32 (take 4 bytes); value = from_be_bytes w64 (drop 4 bytes) }

abbrev pub holds_update : Update → Bool
holds_update update = nat_lt update.dst (2 ^ 32) && nat_lt update.value (2 ^ 64)

abbrev pub update_fits : ℕ → Update → Bool
update_fits vertices update = nat_lt update.dst vertices

abbrev pub update_layout : Layout Update
update_layout = record {
  width = 12;
  holds = holds_update;
  bytes = update_bytes;
  read = update_of;
  home = λ update. update.dst;
  fits = update_fits;
}
