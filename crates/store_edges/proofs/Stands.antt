-- Chunks one behind another on a device: the t-th place of a partition is where its t-th chunk stands.
use Rattle.std.proofs.Common.{◌≡◌, ◌∙◌, ℕ, ◌+◌, ◌<◌, ◌==◌, Bool, true, false, List, [], ◌∷◌, ◌++◌, length, map, filter, drop, get_or, refl, sym, ap, subst, append_assoc}
use Rattle.std.specs.List.{All}
use Rattle.std.proofs.lemmas.List.{drop_at, drop-drop, get_or-map, length-map}
use Rattle.std.proofs.lemmas.List.Elements.{All-nil, All-cons, All-filter, All-get_or}
use Rattle.chunk_model.specs.Chunks.{Chunk, chunks_of_partition}
use Rattle.chunk_model.specs.Layout.{Layout}
use Rattle.chunk_model.specs.ChunkBytes.{StandsAt, chunk_bytes, bytes_of_chunks, chunk_starts, starts_of}
use Rattle.chunk_model.proofs.Made.{all_items_of}
use Rattle.phase_model.specs.Shelves.{no_chunk}

module _ {X : Type 0} (layout : Layout X) where
  abbrev text_of : Chunk X → List ℕ
  text_of c = chunk_bytes layout c.partition c.items

  -- the chunks of a partition, each with its place
  abbrev standing : (p at : ℕ) → List (Chunk X) → List (ℕ × Chunk X)
  standing p at made = filter (λ (start : ℕ × Chunk X). start.1.partition == p) (chunk_starts layout at made)

  chunks_standing : (p at : ℕ) (made : List (Chunk X)) → map (λ (start : ℕ × Chunk X). start.1) (standing p at made) ≡ chunks_of_partition p made
  chunks_standing p at [] = refl
  chunks_standing p at (c ∷ made) = by (c.partition == p) refl (chunks_standing p (at + length (text_of c)) made)
    where
      by : (here : Bool) → (c.partition == p) ≡ here → map (λ (start : ℕ × Chunk X). start.1) (standing p (at + length (text_of c)) made) ≡ chunks_of_partition p made →
          map (λ (start : ℕ × Chunk X). start.1) (standing p at (c ∷ made)) ≡ chunks_of_partition p (c ∷ made)
      by true is same = rw is (ap (λ rest. c ∷ rest) same)
      by false is same = rw is same

  -- a chunk stands at its place
  abbrev IsThere : List ℕ → ℕ × Chunk X → Type 0
  IsThere bytes start = StandsAt start.0 (text_of start.1) bytes

  each_stands : (at : ℕ) (bytes rest : List ℕ) (made : List (Chunk X)) → drop at bytes ≡ bytes_of_chunks layout made ++ rest → All (IsThere bytes) (chunk_starts layout at made)
  each_stands at bytes rest [] stand = All-nil (IsThere bytes)
  each_stands at bytes rest (c ∷ made) stand =
      let others : List ℕ = bytes_of_chunks layout made ++ rest in
      let here : drop at bytes ≡ text_of c ++ others = stand ∙ append_assoc (text_of c) (bytes_of_chunks layout made) rest in
      let behind : drop (at + length (text_of c)) bytes ≡ others =
      sym (drop-drop (length (text_of c)) at bytes) ∙ ap (drop (length (text_of c))) here ∙ drop_at (text_of c) others (length (text_of c)) refl in
      All-cons (IsThere bytes) (at, c) (chunk_starts layout (at + length (text_of c)) made) (others, here) (each_stands (at + length (text_of c)) bytes rest made behind)

  -- there are as many places as chunks
  pub as_many : (p at : ℕ) (made : List (Chunk X)) → length (starts_of layout p at made) ≡ length (chunks_of_partition p made)
  as_many p at made =
      length-map (standing p at made) (λ (start : ℕ × Chunk X). start.0)
      ∙ sym (length-map (standing p at made) (λ (start : ℕ × Chunk X). start.1))
      ∙ ap length (chunks_standing p at made)

  -- **What stands at the t-th place.**
  pub stands_there : (p at t : ℕ) (bytes rest : List ℕ) (made : List (Chunk X)) → drop at bytes ≡ bytes_of_chunks layout made ++ rest → t < length (starts_of layout p at made) →
      StandsAt (get_or (starts_of layout p at made) t 0) (chunk_bytes layout p (get_or (chunks_of_partition p made) t no_chunk).items) bytes
  stands_there p at t bytes rest made stand below =
      let both : List (ℕ × Chunk X) = standing p at made in
      let within : t < length both = subst (λ n. t < n) (length-map both (λ (start : ℕ × Chunk X). start.0)) below in
      let none : ℕ × Chunk X = (0, no_chunk) in
      let stands : All (IsThere bytes) both = All-filter (λ (start : ℕ × Chunk X). start.1.partition == p) (IsThere bytes) (chunk_starts layout at made) (each_stands at bytes rest made stand) in
      let here : IsThere bytes (get_or both t none) = All-get_or (IsThere bytes) both t none within stands in
      let place : get_or (starts_of layout p at made) t 0 ≡ (get_or both t none).0 = get_or-map (λ (start : ℕ × Chunk X). start.0) both t none 0 within in
      let chunk : get_or (chunks_of_partition p made) t no_chunk ≡ (get_or both t none).1 = ap (λ cs. get_or cs t no_chunk) (sym (chunks_standing p at made)) ∙ get_or-map (λ (start : ℕ × Chunk X). start.1) both t none no_chunk within in
      let mine : (get_or (chunks_of_partition p made) t no_chunk).partition ≡ p = all_items_of (λ (c : Chunk X). c.partition) p made t no_chunk (subst (λ n. t < n) (as_many p at made) below) in
      subst (λ k. StandsAt k (chunk_bytes layout p (get_or (chunks_of_partition p made) t no_chunk).items) bytes) (sym place)
      (subst (λ k. StandsAt (get_or both t none).0 (chunk_bytes layout k (get_or (chunks_of_partition p made) t no_chunk).items) bytes) mine
      (subst (λ (c : Chunk X). StandsAt (get_or both t none).0 (text_of c) bytes) (sym chunk) here))
