-- The values of a partition, as they were read from a slot.
use Rattle.std.proofs.Common.{◌≡◌, ℕ, ◌+◌, ◌<◌, zero, suc, Some, IfSome, List, [], ◌∷◌, ◌++◌, length, take, get_or, sym, ◌∙◌, ap, subst, arith}
use Rattle.std.specs.Prelude.{slice_get, option_and_then, Result, Ok, Err, OnOk}
use Rattle.std.specs.List.{All}
use Rattle.std.proofs.lemmas.List.{take_at}
use Rattle.std.proofs.lemmas.List.Elements.{All-head, All-tail, All-map}
use Rattle.std.proofs.lemmas.List.FromFn.{length-map-range_with_len}
use Rattle.graph_model.specs.declared.value.Value.{Value}
use Rattle.graph_model.specs.Partitions.{first_vertex, vertices_in}
use Rattle.graph_model.specs.Rounds.{value_at}
use Rattle.ports.specs.Disk.{DiskState}
use Rattle.partitioner.specs.declared.split.Split.{Split}
use Rattle.store_model.specs.Slots.{values_bytes, set_bytes}
use Rattle.store_model.proofs.ValueBytes.{Fits, same_values_bytes}
use Rattle.store_reader.specs.Reading.{own_in, master_in, len_in, before_in}
use Rattle.store_reader.specs.Values.{values_in, HoldValues, IsSet}

-- the value of each vertex fits, of those that there are not too
value_fits : (values : List Value) → All Fits values → (v : ℕ) → Fits (value_at values v)
value_fits [] fit v = (omega arith, omega arith)
value_fits (x ∷ values) fit zero = All-head Fits x values fit
value_fits (x ∷ values) fit (suc v) = value_fits values (All-tail Fits x values fit) v

set_fits : (split : Split) (p : ℕ) (values : List Value) → All Fits values → All Fits (values_in split p values)
set_fits split p values fit = All-map Fits (value_at values) (vertices_in split.vertices split.parts p) (λ k d below. value_fits values fit (get_or (vertices_in split.vertices split.parts p) k d))

pub length-values_in : (split : Split) (p : ℕ) (values : List Value) → length (values_in split p values) ≡ len_in split p
length-values_in split p values = length-map-range_with_len (value_at values) (first_vertex split.vertices split.parts p) (len_in split p)

module _ {X : Type 0} (state : X → DiskState) (split : Split) (devices : List X) (slot p : ℕ) (below : p < split.parts) where
  -- what was read of the master's device is the partition's set
  pub set_read : (disk : X) (set : List Value) → slice_get devices (master_in split p) ≡ Some disk → length set ≡ len_in split p → All Fits set
      → IfSome (state disk).bytes (λ told. values_bytes set ≡ set_bytes (own_in split (master_in split p)) slot (before_in split p) (len_in split p) told)
      → (values : List Value) → HoldValues state split devices slot values → set ≡ values_in split p values
  set_read disk set at long fits read values holds =
      let there = holds.stand p below in
      let tells : (state disk).bytes ≡ Some there.0 = sym (ap (option_and_then (λ d. (state d).bytes)) at) ∙ there.1 in
      let bytes : values_bytes set ≡ set_bytes (own_in split (master_in split p)) slot (before_in split p) (len_in split p) there.0 =
      subst (λ told. IfSome told (λ bytes. values_bytes set ≡ set_bytes (own_in split (master_in split p)) slot (before_in split p) (len_in split p) bytes)) tells read in
      same_values_bytes set (values_in split p values) fits (set_fits split p values holds.fit) (long ∙ sym (length-values_in split p values)) (bytes ∙ sym there.2)

  -- and stands at the front of the room
  pub set_at : {T E : Type 0} (r : Result T E) (disk : X) (set rest : List Value) → slice_get devices (master_in split p) ≡ Some disk → length set ≡ len_in split p → OnOk r (All Fits set)
      → OnOk r (IfSome (state disk).bytes (λ told. values_bytes set ≡ set_bytes (own_in split (master_in split p)) slot (before_in split p) (len_in split p) told))
      → OnOk r (IsSet state split devices slot p (take (len_in split p) (set ++ rest)))
  set_at (Ok x) disk set rest at long fits read = λ values holds. take_at set rest (len_in split p) long ∙ set_read disk set at long fits read values holds
  set_at (Err e) disk set rest at long fits read = tt
