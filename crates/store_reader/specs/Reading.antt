-- What reads of a values device find.
use Rattle.std.specs.Prelude.{◌≡◌, ◌↔◌, ℕ, List, IsTrue}
use Rattle.graph_model.specs.Partitions.{master_of, own_before, own_count, part_len}
use Rattle.partitioner.specs.declared.split.Split.{Split}
use Rattle.store_model.specs.Slots.{IsOpen, slot_numbers, number_bytes}
use Rattle.store_reader.specs.declared.store.SlotHead.{SlotHead}

-- the vertices of an engine, of a partition, and of the lower partitions of the same master
abbrev pub own_in : Split → (e : ℕ) → ℕ
own_in split e = own_count split.vertices split.engines split.parts e

abbrev pub master_in : Split → (p : ℕ) → ℕ
master_in split p = master_of split.engines p

abbrev pub len_in : Split → (p : ℕ) → ℕ
len_in split p = part_len split.vertices split.parts p

abbrev pub before_in : Split → (p : ℕ) → ℕ
before_in split p = own_before split.vertices split.engines split.parts p

-- the head of a slot says what stands there
pub record TellsHead (own slot : ℕ) (head : SlotHead) (bytes : List ℕ) : Type 0 where
  pub gate : IsTrue head.is_open ↔ IsOpen own slot bytes
  pub numbers : slot_numbers own slot bytes ≡ number_bytes head.round head.changed
