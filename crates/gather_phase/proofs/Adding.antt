-- Updates taken into sums, one after another.
use Rattle.std.proofs.Common.{◌≡◌, ◌≢◌, ℕ, ◌+◌, ◌-◌, ◌<◌, ◌≤◌, List, [], ◌∷◌, ◌++◌, length, map, take, get_or, set, cond, Bool, true, false, eqb, ap, sym, ◌∙◌, subst, ⊎_elim, arith, length-set, eq-eqb, ne_eqb}
use Rattle.std.specs.List.{fold}
use Rattle.std.proofs.lemmas.Bool.{cases_eq}
use Rattle.std.proofs.lemmas.List.{append-nil, map-append, take_more, get_or-set_same, get_or-set_other}
use Rattle.std.proofs.lemmas.List.Sums.{fold-append}
use Rattle.graph_model.specs.declared.edge.Edge.{Edge}
use Rattle.graph_model.specs.declared.value.Update.{Update}
use Rattle.graph_model.specs.Programs.{plus}
use Rattle.phase_model.specs.Sums.{values_to, count_of, counts_of}
use Rattle.phase_model.proofs.Sent.{values_to-append}
use Rattle.gather_phase.specs.Summing.{HasSummed}

values_one : (u : Update) (v : ℕ) (here : Bool) → (eqb u.dst v) ≡ here → values_to v (u ∷ []) ≡ cond here (u.value ∷ []) []
values_one u v true at = ap (λ (here : Bool). map (λ (x : Update). x.value) (cond here (u ∷ []) [])) at
values_one u v false apart = ap (λ (here : Bool). map (λ (x : Update). x.value) (cond here (u ∷ []) [])) apart

-- one update more
pub summed_more : (add : ℕ → ℕ → ℕ) (first : ℕ) (us : List Update) (u : Update) (start old new : List ℕ) (at sum : ℕ) → HasSummed add first us start old → first ≤ u.dst → u.dst < first + length start → at ≡ u.dst - first → sum ≡ add (get_or old at 0) u.value → new ≡ set old at sum → HasSummed add first (us ++ u ∷ []) start new
summed_more add first us u start old new at sum summed from below at_is sum_is is = record {
  long = omega (arith, ap length is, length-set old at sum, summed.long);
  each = λ v within. ⊎_elim (here v within) (other v within) (cases_eq v at);
}
  where
    here : (v : ℕ) → v < length start → v ≡ at → get_or new v 0 ≡ fold add (get_or start v 0) (values_to (first + v) (us ++ u ∷ []))
    here v within same =
        let dst : u.dst ≡ first + v = omega (arith, from, at_is, same) in
        let inside : at < length old = omega (arith, summed.long, within, same) in
        ap (λ l. get_or l v 0) is
        ∙ (ap (λ i. get_or (set old at sum) i 0) same
        ∙ (get_or-set_same old at sum 0 inside
        ∙ (sum_is
        ∙ (ap (λ i. add (get_or old i 0) u.value) (sym same)
        ∙ (ap (λ s. add s u.value) (summed.each v within)
        ∙ sym (ap (fold add (get_or start v 0)) (values_to-append (first + v) us (u ∷ []) ∙ ap (λ l. values_to (first + v) us ++ l) (values_one u (first + v) true (eq-eqb u.dst (first + v) dst)))
        ∙ fold-append add (get_or start v 0) (values_to (first + v) us) (u.value ∷ [])))))))

    other : (v : ℕ) → v < length start → v ≢ at → get_or new v 0 ≡ fold add (get_or start v 0) (values_to (first + v) (us ++ u ∷ []))
    other v within ne =
        let apart : u.dst ≢ first + v = λ (e : u.dst ≡ first + v). ne (omega (arith, at_is, e)) in
        ap (λ l. get_or l v 0) is
        ∙ (get_or-set_other old at v sum 0 ne
        ∙ (summed.each v within
        ∙ ap (fold add (get_or start v 0)) (sym (values_to-append (first + v) us (u ∷ []) ∙ (ap (λ l. values_to (first + v) us ++ l) (values_one u (first + v) false (ne_eqb u.dst (first + v) apart)) ∙ append-nil (values_to (first + v) us))))))

-- one edge more
pub counts_more : (edges : List Edge) (i : ℕ) (d : Edge) → i < length edges → counts_of (take (i + 1) edges) ≡ counts_of (take i edges) ++ count_of (get_or edges i d) ∷ []
counts_more edges i d within = ap counts_of (take_more edges i d within) ∙ map-append count_of (take i edges) (get_or edges i d ∷ [])

pub counted_more : (first : ℕ) (edges : List Edge) (i : ℕ) (d : Edge) (start old new : List ℕ) (at sum : ℕ) → i < length edges → HasSummed plus first (counts_of (take i edges)) start old → first ≤ (get_or edges i d).src → (get_or edges i d).src < first + length start → at ≡ (get_or edges i d).src - first → sum ≡ plus (get_or old at 0) 1
    → new ≡ set old at sum → HasSummed plus first (counts_of (take (i + 1) edges)) start new
counted_more first edges i d start old new at sum within summed from below at_is sum_is is =
    subst (λ us. HasSummed plus first us start new) (sym (counts_more edges i d within)) (summed_more plus first (counts_of (take i edges)) (count_of (get_or edges i d)) start old new at sum summed from below at_is sum_is is)
