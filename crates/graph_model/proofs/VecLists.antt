-- Lists, each in a Vec of its own, one of which was lent.
use Rattle.std.proofs.Common.{◌≡◌, ℕ, ◌<◌, List, Vec, [], ◌∷◌, ◌++◌, length, map, get_or, set, sym, ◌∙◌, ap}
use Rattle.std.specs.Global.{Global}
use Rattle.std.proofs.lemmas.List.{map-set, set-get_or, get_or-map}

module _ {X : Type 0} where
  abbrev pub items_of : List (Vec X Global) → List (List X)
  items_of vs = map (λ (v : Vec X Global). v.items) vs

  -- the list that was lent
  pub lent_is : (vs : List (Vec X Global)) (k : ℕ) (x : Vec X Global) → x ≡ get_or vs k x → k < length vs → x.items ≡ get_or (items_of vs) k []
  lent_is vs k x is within =
      ap (λ (v : Vec X Global). v.items) is ∙ sym (get_or-map (λ (v : Vec X Global). v.items) vs k x [] within)

  -- it comes back with these items
  pub set_list : (vs : List (Vec X Global)) (k : ℕ) (w : Vec X Global) (items : List X) → w.items ≡ items → items_of (set vs k w) ≡ set (items_of vs) k items
  set_list vs k w items is = map-set (λ (v : Vec X Global). v.items) vs k w ∙ ap (set (items_of vs) k) is

  -- as it was
  pub same_lists : (vs : List (Vec X Global)) (k : ℕ) (x w : Vec X Global) → x ≡ get_or vs k x → k < length vs → w.items ≡ x.items → items_of (set vs k w) ≡ items_of vs
  same_lists vs k x w is within same =
      set_list vs k w (get_or (items_of vs) k []) (same ∙ lent_is vs k x is within)
      ∙ set-get_or (items_of vs) k []

  -- and with one more
  pub more_lists : (vs : List (Vec X Global)) (k : ℕ) (x w : Vec X Global) (item : X) → x ≡ get_or vs k x → k < length vs → w.items ≡ x.items ++ item ∷ []
      → items_of (set vs k w) ≡ set (items_of vs) k (get_or (items_of vs) k [] ++ item ∷ [])
  more_lists vs k x w item is within more =
      set_list vs k w (get_or (items_of vs) k [] ++ item ∷ []) (more ∙ ap (λ y. y ++ item ∷ []) (lent_is vs k x is within))
