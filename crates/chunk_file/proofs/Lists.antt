-- The lists of an index, with one place more in one of them.
use Rattle.std.proofs.Common.{◌≡◌, ℕ, ◌+◌, ◌*◌, ◌^◌, ◌<◌, ◌≤◌, List, [], ◌∷◌, ◌++◌, length, take, replicate, get_or, set, sym, ◌∙◌, ap, subst, arith, lit≤, length-append, length-set}
use Rattle.std.specs.Prelude.{Vec}
use Rattle.std.specs.List.{All}
use Rattle.std.specs.Global.{Global}
use Rattle.std.proofs.lemmas.List.{length-map, length-replicate, take_more_set, map-set, replicate_more}
use Rattle.std.proofs.lemmas.List.Sums.{sum_by-set, get_or-le-sum_by, sum_by-le}
use Rattle.std.proofs.lemmas.List.Folds.{sum_by-replicate}
use Rattle.std.proofs.lemmas.List.Elements.{All-set, All-replicate}
use Rattle.graph_model.proofs.VecLists.{items_of}
use Rattle.chunk_file.specs.declared.index.Place.{Place}
use Rattle.chunk_file.specs.declared.index.Index.TheInside.{Inside}
use Rattle.chunk_file.specs.Places.{no_places, total_of}
use Rattle.chunk_file.specs.Inside.{lists_in, IsIndex}

abbrev place_count : List Place → ℕ
place_count places = length places

pub new_index : (a : Inside) → items_of a.places.items ≡ replicate 512 no_places → a.total ≡ 0 → IsIndex a
new_index a are none = record {
  lists = ap length are ∙ length-replicate 512 no_places;
  total = none ∙ sym (ap total_of are ∙ sum_by-replicate place_count 512 no_places);
  few = subst (All (λ (places : List Place). length places ≤ 2 ^ 31)) (sym are) (All-replicate (λ (places : List Place). length places ≤ 2 ^ 31) 512 no_places (lit≤ tt));
}

-- the lists below a number were emptied
pub record IsCleared (n : ℕ) (vs : List (Vec Place Global)) : Type 0 where
  pub many : length vs ≡ 512
  pub front : take n (items_of vs) ≡ replicate n no_places

pub clear_more : (n : ℕ) (vs : List (Vec Place Global)) (w : Vec Place Global) → n < 512 → w.items ≡ [] → IsCleared n vs → IsCleared (n + 1) (set vs n w)
clear_more n vs w below empty is = record {
  many = length-set vs n w ∙ is.many;
  front = ap (λ l. take (n + 1) l) (map-set (λ (v : Vec Place Global). v.items) vs n w)
      ∙ (take_more_set (items_of vs) n w.items (omega (arith, below, is.many, length-map vs (λ (v : Vec Place Global). v.items)))
      ∙ (ap (λ l. l ++ w.items ∷ []) is.front
      ∙ (ap (λ x. replicate n no_places ++ x ∷ []) empty
      ∙ replicate_more n no_places)));
}

-- **One place more.**
pub total-more : (index : List (List Place)) (k : ℕ) (place : Place) → k < length index →
    total_of (set index k (get_or index k no_places ++ place ∷ [])) ≡ total_of index + 1
total-more index k place within =
    omega (arith, sum_by-set place_count index k (get_or index k no_places ++ place ∷ []) no_places within, length-append (get_or index k no_places) (place ∷ []))

pub list_in_total : (index : List (List Place)) (k : ℕ) → k < length index → length (get_or index k no_places) ≤ total_of index
list_in_total index k within = get_or-le-sum_by place_count index k no_places within

pub same_index : (a b : Inside) → lists_in b ≡ lists_in a → b.total ≡ a.total → IsIndex a → IsIndex b
same_index a b same total is = record {
  lists = ap length same ∙ is.lists;
  total = total ∙ is.total ∙ sym (ap total_of same);
  few = subst (All (λ (places : List Place). length places ≤ 2 ^ 31)) (sym same) is.few;
}

pub more_index : (a b : Inside) (k : ℕ) (place : Place) → k < 512 →
    lists_in b ≡ set (lists_in a) k (get_or (lists_in a) k no_places ++ place ∷ []) → b.total ≡ a.total + 1 →
    length (get_or (lists_in a) k no_places) < 2 ^ 31 → IsIndex a → IsIndex b
more_index a b k place below more total room is =
    let longer : List Place = get_or (lists_in a) k no_places ++ place ∷ [] in
    let within : k < length (lists_in a) = omega (arith, is.lists) in
    record {
      lists = ap length more ∙ length-set (lists_in a) k longer ∙ is.lists;
      total = omega (arith, total, is.total, ap total_of more, total-more (lists_in a) k place within);
      few = subst (All (λ (places : List Place). length places ≤ 2 ^ 31)) (sym more)
          (All-set (λ (places : List Place). length places ≤ 2 ^ 31) (lists_in a) k longer
          (omega (arith, length-append (get_or (lists_in a) k no_places) (place ∷ []))) is.few);
    }

-- all places are far below 2^64
pub total-below : (a : Inside) → IsIndex a → a.total ≤ 512 * 2 ^ 31
total-below a is =
    omega (arith, is.total, sum_by-le place_count (2 ^ 31) (lists_in a) is.few, is.lists, ap (λ n. n * 2 ^ 31) is.lists)
