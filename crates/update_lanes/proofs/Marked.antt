-- What the edges from vertices with a mark send, which is what those from vertices that changed send.
use Rattle.std.proofs.Common.{◌≡◌, ℕ, ◌+◌, ◌-◌, ◌<◌, ◌≤◌, Bool, true, false, cond, Option, Some, None, List, [], ◌∷◌, ◌++◌, length, take, get_or, set, length-set, refl, ◌∙◌, ap, arith, append-nil, length-append, add-one}
use Rattle.std.specs.List.{All, flat_map}
use Rattle.std.proofs.Math.Seq.{take-suc}
use Rattle.std.proofs.lemmas.Grind.{flat_map-append}
use Rattle.std.proofs.lemmas.List.Elements.{All-head, All-tail}
use Rattle.graph_model.specs.declared.edge.Edge.{Edge}
use Rattle.graph_model.specs.declared.value.Value.{Value}
use Rattle.graph_model.specs.declared.value.Update.{Update}
use Rattle.graph_model.specs.Programs.{Rules}
use Rattle.graph_model.specs.Rounds.{value_at, differs}
use Rattle.graph_model.proofs.ListLemmas.{at_set}
use Rattle.phase_model.specs.Sends.{update_to, sent_along, sent_by}
use Rattle.update_lanes.specs.Sending.{value_from, sending_changed, IsFrom, AreChanges}

module _ (rules : Rules) (first : ℕ) (now : List Value) (marks : List Bool) where
  -- what an edge sends where its source has a mark
  abbrev pub sent_marked : Edge → List Update
  sent_marked e = cond (get_or marks (e.src - first) false) (update_to e.dst (rules.send (value_from first now e.src) e.weight)) []

  abbrev pub sent_by_marked : List Edge → List Update
  sent_by_marked = flat_map sent_marked

  -- the next edge sends behind the ones before
  pub marked-next : (edges : List Edge) (i : ℕ) (d : Edge) → i < length edges → sent_by_marked (take (i + 1) edges) ≡ sent_by_marked (take i edges) ++ sent_marked (get_or edges i d)
  marked-next edges i d below =
      ap (λ k. sent_by_marked (take k edges)) (add-one i) ∙ ap sent_by_marked (take-suc edges i d below)
      ∙ flat_map-append sent_marked (take i edges) (get_or edges i d ∷ [])
      ∙ ap (λ us. sent_by_marked (take i edges) ++ us) (append-nil (sent_marked (get_or edges i d)))

  length-sent_marked : (e : Edge) → length (sent_marked e) ≤ 1
  length-sent_marked e = by_mark (get_or marks (e.src - first) false)
    where
      by_number : (number : Option ℕ) → length (update_to e.dst number) ≤ 1
      by_number None = omega arith
      by_number (Some number) = omega arith

      by_mark : (b : Bool) → length (cond b (update_to e.dst (rules.send (value_from first now e.src) e.weight)) []) ≤ 1
      by_mark true = by_number (rules.send (value_from first now e.src) e.weight)
      by_mark false = omega arith

  pub length-sent_by_marked : (edges : List Edge) → length (sent_by_marked edges) ≤ length edges
  length-sent_by_marked [] = omega arith
  length-sent_by_marked (e ∷ es) = omega (arith, length-append (sent_marked e) (sent_by_marked es), length-sent_marked e, length-sent_by_marked es)

  -- **Where the marks are the changes, this is what the vertices that changed send.**
  pub marked_is_changed : (before : List Value) (vertices : ℕ) (edges : List Edge) → AreChanges before now marks → All (IsFrom first (length now) vertices) edges
      → sent_by_marked edges ≡ sent_by (sending_changed rules first before now) edges
  marked_is_changed before vertices [] changes from = refl
  marked_is_changed before vertices (e ∷ es) changes from =
      let within = (All-head (IsFrom first (length now) vertices) e es from).within in
      let here : sent_marked e ≡ sent_along (sending_changed rules first before now) e =
      ap (λ b. cond b (update_to e.dst (rules.send (value_from first now e.src) e.weight)) []) (changes.each (e.src - first) false within) in
      λ i. here i ++ marked_is_changed before vertices es changes (All-tail (IsFrom first (length now) vertices) e es from) i

-- the first vertices are marked
pub record AreMarked (before now : List Value) (n : ℕ) (changed : List Bool) : Type 0 where
  pub many : length changed ≡ length now
  pub each : (k : ℕ) (d : Bool) → k < n → get_or changed k d ≡ differs (value_at now k) (value_at before k)

-- one vertex more
pub marked_one : (before now : List Value) (n : ℕ) (changed : List Bool) (mark : Bool) → n < length now → mark ≡ differs (value_at now n) (value_at before n) → AreMarked before now n changed → AreMarked before now (n + 1) (set changed n mark)
marked_one before now n changed mark within is are = record {
  many = length-set changed n mark ∙ are.many;
  each = λ k d below. at_set (λ j b. b ≡ differs (value_at now j) (value_at before j)) changed n k mark d (omega (arith, within, are.many))
      (λ same. is) (λ other. are.each k d (omega (arith, below, other)));
}
