-- What is sent to a vertex, and its merge: edges one behind the other, and one edge more.
use Rattle.std.proofs.Common.{◌≡◌, ℕ, ◌+◌, ◌<◌, List, [], ◌∷◌, ◌++◌, length, get_or, set, take, filter, Bool, true, false, cond, ◌==◌, Some, None, refl, sym, ◌∙◌, ap, subst, arith, append-nil, length-set}
use Rattle.std.specs.List.{filter_map, cons_option}
use Rattle.std.proofs.lemmas.List.{take_more, get_or-set_same, get_or-set_other}
use Rattle.std.proofs.lemmas.List.Elements.{filter-append, filter_map-append}
use Rattle.std.proofs.lemmas.List.Sums.{fold-append}
use Rattle.std.proofs.lemmas.Bool.{eqb-true, eqb-false, eq-eqb}
use Rattle.graph_model.specs.declared.edge.Edge.{Edge}
use Rattle.graph_model.specs.declared.value.Value.{Value}
use Rattle.graph_model.specs.Programs.{Rules}
use Rattle.graph_model.specs.Rounds.{merged, value_at, sent_to}

pub sent_to-append : (p : Rules) (xs ys : List Edge) (values : List Value) (v : ℕ) →
    sent_to p (xs ++ ys) values v ≡ sent_to p xs values v ++ sent_to p ys values v
sent_to-append p xs ys values v =
    ap (filter_map (λ (e : Edge). p.send (value_at values e.src) e.weight)) (filter-append (λ (e : Edge). e.dst == v) xs ys)
    ∙ filter_map-append (λ (e : Edge). p.send (value_at values e.src) e.weight)
    (filter (λ (e : Edge). e.dst == v) xs) (filter (λ (e : Edge). e.dst == v) ys)

pub merged-push : (p : Rules) (sums : List ℕ) (s : ℕ) → merged p (sums ++ s ∷ []) ≡ p.merge (merged p sums) s
merged-push p sums s = fold-append p.merge p.unit sums (s ∷ [])

-- One edge.
-- an edge that sends is all that is sent to its end
sent_by_one : (p : Rules) (e : Edge) (values : List Value) (v s : ℕ) → e.dst ≡ v → p.send (value_at values e.src) e.weight ≡ Some s →
    sent_to p (e ∷ []) values v ≡ s ∷ []
sent_by_one p e values v s at sends =
    ap (λ here. filter_map (λ (x : Edge). p.send (value_at values x.src) x.weight) (cond here (e ∷ []) [])) (eq-eqb e.dst v at)
    ∙ ap (λ sent. cons_option sent []) sends

sent_elsewhere : (p : Rules) (e : Edge) (values : List Value) (v : ℕ) → (e.dst == v) ≡ false → sent_to p (e ∷ []) values v ≡ []
sent_elsewhere p e values v apart =
    ap (λ here. filter_map (λ (x : Edge). p.send (value_at values x.src) x.weight) (cond here (e ∷ []) [])) apart

sent_by_none : (p : Rules) (e : Edge) (values : List Value) (v : ℕ) → p.send (value_at values e.src) e.weight ≡ None →
    sent_to p (e ∷ []) values v ≡ []
sent_by_none p e values v sends = by_test (e.dst == v) refl
  where
    by_test : (here : Bool) → (e.dst == v) ≡ here → sent_to p (e ∷ []) values v ≡ []
    by_test true at =
        ap (λ here. filter_map (λ (x : Edge). p.send (value_at values x.src) x.weight) (cond here (e ∷ []) [])) at
        ∙ ap (λ sent. cons_option sent []) sends
    by_test false apart = sent_elsewhere p e values v apart

merged_after : (p : Rules) (edges : List Edge) (i : ℕ) (d : Edge) (values : List Value) (v : ℕ) → i < length edges →
    merged p (sent_to p (take (i + 1) edges) values v)
    ≡ merged p (sent_to p (take i edges) values v ++ sent_to p (get_or edges i d ∷ []) values v)
merged_after p edges i d values v within =
    ap (λ front. merged p (sent_to p front values v)) (take_more edges i d within)
    ∙ ap (merged p) (sent_to-append p (take i edges) (get_or edges i d ∷ []) values v)

-- one edge more that sends nothing
pub gather_none : (p : Rules) (edges : List Edge) (i : ℕ) (d : Edge) (values : List Value) (before after : List ℕ) → i < length edges →
    p.send (value_at values (get_or edges i d).src) (get_or edges i d).weight ≡ None → after ≡ before →
    ((v : ℕ) → v < length before → get_or before v 0 ≡ merged p (sent_to p (take i edges) values v)) →
    (v : ℕ) → v < length after → get_or after v 0 ≡ merged p (sent_to p (take (i + 1) edges) values v)
gather_none p edges i d values before after within sends same so_far v below =
    ap (λ sums. get_or sums v 0) same
    ∙ so_far v (subst (λ sums. v < length sums) same below)
    ∙ sym (merged_after p edges i d values v within
    ∙ ap (λ sent. merged p (sent_to p (take i edges) values v ++ sent)) (sent_by_none p (get_or edges i d) values v sends)
    ∙ ap (merged p) (append-nil (sent_to p (take i edges) values v)))

-- one edge more, whose update is merged into the sum of its end
pub gather_some : (p : Rules) (edges : List Edge) (i : ℕ) (d : Edge) (values : List Value) (before after : List ℕ) (s new : ℕ) →
    i < length edges →
    p.send (value_at values (get_or edges i d).src) (get_or edges i d).weight ≡ Some s →
    new ≡ p.merge (get_or before (get_or edges i d).dst 0) s → after ≡ set before (get_or edges i d).dst new →
    ((v : ℕ) → v < length before → get_or before v 0 ≡ merged p (sent_to p (take i edges) values v)) →
    (v : ℕ) → v < length after → get_or after v 0 ≡ merged p (sent_to p (take (i + 1) edges) values v)
gather_some p edges i d values before after s new within sends is_new is_after so_far v below_after =
    ap (λ sums. get_or sums v 0) is_after ∙ by_test ((get_or edges i d).dst == v) refl
  where
    below : v < length before
    below = omega (arith, below_after, ap length is_after, length-set before (get_or edges i d).dst new)

    by_test : (here : Bool) → ((get_or edges i d).dst == v) ≡ here →
        get_or (set before (get_or edges i d).dst new) v 0 ≡ merged p (sent_to p (take (i + 1) edges) values v)
    by_test true same =
        let at : (get_or edges i d).dst ≡ v = eqb-true (get_or edges i d).dst v same in
        ap (λ place. get_or (set before place new) v 0) at
        ∙ get_or-set_same before v new 0 below
        ∙ is_new
        ∙ ap (λ place. p.merge (get_or before place 0) s) at
        ∙ ap (λ sum. p.merge sum s) (so_far v below)
        ∙ sym (merged_after p edges i d values v within
        ∙ ap (λ sent. merged p (sent_to p (take i edges) values v ++ sent)) (sent_by_one p (get_or edges i d) values v s at sends)
        ∙ merged-push p (sent_to p (take i edges) values v) s)
    by_test false apart =
        get_or-set_other before (get_or edges i d).dst v new 0 (λ e. eqb-false (get_or edges i d).dst v apart (sym e))
        ∙ so_far v below
        ∙ sym (merged_after p edges i d values v within
        ∙ ap (λ sent. merged p (sent_to p (take i edges) values v ++ sent)) (sent_elsewhere p (get_or edges i d) values v apart)
        ∙ ap (merged p) (append-nil (sent_to p (take i edges) values v)))
