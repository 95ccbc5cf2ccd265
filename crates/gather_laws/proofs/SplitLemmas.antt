-- Lists of sums that are cut into pieces, by places or by who took a chunk.
use Rattle.std.proofs.Common.{◌≡◌, ℕ, ◌+◌, List, [], ◌∷◌, ◌++◌, length, get_or, map, refl, sym, ◌∙◌, ap, subst, fold, flat_map, append_assoc}
use Rattle.std.specs.List.{All, range_with_len}
use Rattle.std.specs.List.Sorted.{IsPermutation}
use Rattle.std.proofs.lemmas.List.{map-append}
use Rattle.std.proofs.lemmas.List.Elements.{All-nil, All-cons, All-map}
use Rattle.std.proofs.lemmas.List.Folds.{flat_map-map}
use Rattle.std.proofs.lemmas.List.FromFn.{fill_by_all}
use Rattle.std.proofs.lemmas.List.Sorted.{IsPermutation-map, All-permutation}
use Rattle.graph_model.proofs.ListLemmas.{All-front, All-behind}
use Rattle.gather_laws.specs.Laws.{MergeLaws, SplitsPlaces, items_at}
use Rattle.gather_laws.proofs.MergeLemmas.{All-joined, all_merged, merged-joined, merged-permutation}

abbrev pub joined : {X : Type 0} → List (List X) → List X
joined pieces = flat_map (λ piece. piece) pieces

-- a fact of each element of pieces is one of each element of each piece
pub All-of_joined : {X : Type 0} (P : X → Type 0) (pieces : List (List X)) → All P (joined pieces) → All (All P) pieces
All-of_joined P [] all = All-nil (All P)
All-of_joined P (piece ∷ pieces) all =
    All-cons (All P) piece pieces (All-front P piece (joined pieces) all)
    (All-of_joined P pieces (All-behind P piece (joined pieces) all))

joined-append : {X : Type 0} (xs ys : List (List X)) → joined (xs ++ ys) ≡ joined xs ++ joined ys
joined-append [] ys = refl
joined-append (x ∷ xs) ys = ap (λ rest. x ++ rest) (joined-append xs ys) ∙ sym (append_assoc x (joined xs) (joined ys))

-- pieces of pieces, one behind the other
joined-joined : {X : Type 0} (pieces : List (List (List X))) → joined (map joined pieces) ≡ joined (joined pieces)
joined-joined [] = refl
joined-joined (piece ∷ pieces) =
    ap (λ rest. joined piece ++ rest) (joined-joined pieces) ∙ sym (joined-append piece (joined pieces))

map-joined : {X Y : Type 0} (f : X → Y) (pieces : List (List X)) → joined (map (map f) pieces) ≡ map f (joined pieces)
map-joined f [] = refl
map-joined f (piece ∷ pieces) = ap (λ rest. map f piece ++ rest) (map-joined f pieces) ∙ sym (map-append f piece (joined pieces))

-- the items at all places of a list are the list
items_at_all : (xs : List ℕ) → xs ≡ items_at xs (range_with_len 0 (length xs))
items_at_all xs = fill_by_all (λ place. get_or xs place 0) xs (length xs) 0 refl (λ k below. refl)

-- a list cut by places has the same items
items_at-permutation : (xs : List ℕ) (places : List (List ℕ)) → SplitsPlaces (length xs) places →
    IsPermutation xs (items_at xs (joined places))
items_at-permutation xs places split =
    subst (λ front. IsPermutation front (items_at xs (joined places))) (sym (items_at_all xs))
    (IsPermutation-map (λ place. get_or xs place 0) (range_with_len 0 (length xs)) (joined places) split)

module _ (unit : ℕ) (merge : ℕ → ℕ → ℕ) (IsSum : ℕ → Type 0) (laws : MergeLaws unit merge IsSum) where
  -- **The merge over a list is the merge over its pieces, cut by places.**
  pub merged-split : (xs : List ℕ) (places : List (List ℕ)) → All IsSum xs → SplitsPlaces (length xs) places →
      fold merge unit (map (fold merge unit) (map (items_at xs) places)) ≡ fold merge unit xs
  merged-split xs places all split =
      let moved : IsPermutation xs (items_at xs (joined places)) = items_at-permutation xs places split in
      let all_moved : All IsSum (items_at xs (joined places)) = All-permutation IsSum xs (items_at xs (joined places)) moved all in
      let in_pieces : All IsSum (joined (map (items_at xs) places))
      = subst (All IsSum) (sym (map-joined (λ place. get_or xs place 0) places)) all_moved in
      merged-joined unit merge IsSum laws (map (items_at xs) places) (All-of_joined IsSum (map (items_at xs) places) in_pieces)
      ∙ ap (fold merge unit) (map-joined (λ place. get_or xs place 0) places)
      ∙ merged-permutation unit merge IsSum laws xs (items_at xs (joined places)) all moved

  -- **The merge over chunks is the merge over what each worker merged, whoever took which chunk, and in whatever order.**
  pub merged-taken : (chunks : List (List ℕ)) (taken : List (List (List ℕ))) → All (All IsSum) chunks →
      IsPermutation chunks (joined taken) →
      fold merge unit (map (fold merge unit) (map joined taken)) ≡ fold merge unit (joined chunks)
  merged-taken chunks taken all moved =
      let all_taken : All (All IsSum) (joined taken) = All-permutation (All IsSum) chunks (joined taken) moved all in
      let in_order : All IsSum (joined (map joined taken))
      = subst (All IsSum) (sym (joined-joined taken)) (All-joined IsSum (joined taken) all_taken) in
      let same_merges : fold merge unit (map (fold merge unit) (joined taken)) ≡ fold merge unit (map (fold merge unit) chunks)
      = merged-permutation unit merge IsSum laws (map (fold merge unit) chunks) (map (fold merge unit) (joined taken))
      (all_merged unit merge IsSum laws chunks all)
      (IsPermutation-map (fold merge unit) chunks (joined taken) moved) in
      merged-joined unit merge IsSum laws (map joined taken) (All-of_joined IsSum (map joined taken) in_order)
      ∙ ap (fold merge unit) (joined-joined taken)
      ∙ sym (merged-joined unit merge IsSum laws (joined taken) all_taken)
      ∙ same_merges
      ∙ merged-joined unit merge IsSum laws chunks all

  -- the same for chunks with names, where f gives the numbers of a chunk
  taken_pieces : {X : Type 0} (f : X → List ℕ) (workers : List (List X)) →
      map (fold merge unit) (map joined (map (map f) workers)) ≡ map (λ own. fold merge unit (flat_map f own)) workers
  taken_pieces f [] = refl
  taken_pieces f (own ∷ workers) =
      ap (λ sum. sum ∷ map (fold merge unit) (map joined (map (map f) workers)))
      (ap (fold merge unit) (flat_map-map (λ chunk. chunk) f own))
      ∙ ap (λ sums. fold merge unit (flat_map f own) ∷ sums) (taken_pieces f workers)

  pub merged-workers : {X : Type 0} (f : X → List ℕ) (names : List X) (workers : List (List X)) → All (λ name. All IsSum (f name)) names →
      IsPermutation names (joined workers) →
      fold merge unit (map (λ own. fold merge unit (flat_map f own)) workers) ≡ fold merge unit (flat_map f names)
  merged-workers f names workers all moved =
      ap (fold merge unit) (sym (taken_pieces f workers))
      ∙ merged-taken (map f names) (map (map f) workers) (All-map (All IsSum) f names all)
      (subst (IsPermutation (map f names)) (sym (map-joined f workers)) (IsPermutation-map f names (joined workers) moved))
      ∙ ap (fold merge unit) (flat_map-map (λ chunk. chunk) f names)
