-- The places of a cursor are among all places.
use Rattle.std.proofs.Common.{ℕ, ◌≤◌, List, length, inl, inr, ap, arith}
use Rattle.std.proofs.lemmas.Bool.{cases_lt}
use Rattle.std.proofs.lemmas.List.{get_or_past}
use Rattle.chunk_object.specs.History.{most_chunks}
use Rattle.chunk_file.specs.declared.index.Place.{Place}
use Rattle.chunk_file.specs.declared.index.TheConstants.{MOST_PLACES}
use Rattle.chunk_file.specs.Places.{total_of, no_places}
use Rattle.chunk_file.proofs.Lists.{list_in_total}
use Rattle.store_reader.specs.Indexed.{lens_of}

pub few_of_index : (index : List (List Place)) → total_of index ≤ MOST_PLACES → (cursor : ℕ) → lens_of index cursor ≤ most_chunks
few_of_index index few cursor = elim (cases_lt cursor (length index)) [
  | inl inside ↦ omega (arith, list_in_total index cursor inside, few)
  | inr past ↦ omega (arith, ap length (get_or_past index cursor no_places past))
]
