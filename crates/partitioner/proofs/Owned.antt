-- The vertices of an engine's partitions: before each partition, and all; those of all engines together are all vertices.
use Rattle.std.proofs.Common.{◌≡◌, ℕ, zero, suc, ◌+◌, ◌-◌, ◌<◌, ◌≤◌, nat_lt, ◌==◌, Bool, true, false, if◌then◌else◌, List, [], ◌∷◌, ◌++◌, filter, refl, sym, ◌∙◌, subst, ap, arith, add-one, add-zero, zero-add, eq-eqb}
use Rattle.std.proofs.Math.Nat.{mod-lt}
use Rattle.std.specs.List.{range_with_len, sum_by}
use Rattle.std.proofs.lemmas.Bool.{eqb-true, eqb-false, ne_eqb}
use Rattle.std.proofs.lemmas.List.Elements.{filter-append}
use Rattle.std.proofs.lemmas.List.Sums.{sum_by-append}
use Rattle.graph_model.specs.Partitions.{first_vertex, part_len, master_of, parts_of_master, own_count, own_before}
use Rattle.graph_model.proofs.ListLemmas.{range_with_len-more, sum_by_range-more}
use Rattle.partitioner.specs.Splits.{own_below}
use Rattle.partitioner.proofs.Ranges.{first_vertex-next, first_vertex-end}

-- one more partition, which the engine has or has not
parts_more : (engines p e : ℕ) (own : Bool) → master_of engines p == e ≡ own → parts_of_master engines (p + 1) e ≡ parts_of_master engines p e ++ (if own then p ∷ [] else [])
parts_more engines p e own test =
    let last : filter (λ q. master_of engines q == e) (p ∷ []) ≡ (if own then p ∷ [] else []) = rw test refl in
    ap (filter (λ q. master_of engines q == e)) (range_with_len-more p)
    ∙ filter-append (λ q. master_of engines q == e) (range_with_len 0 p) (p ∷ [])
    ∙ ap (λ back. parts_of_master engines p e ++ back) last

own_more : (n engines parts p e : ℕ) (back : List ℕ) → parts_of_master engines (p + 1) e ≡ parts_of_master engines p e ++ back → own_below n engines parts (p + 1) e ≡ own_below n engines parts p e + sum_by (part_len n parts) back
own_more n engines parts p e back more = ap (sum_by (part_len n parts)) more ∙ sum_by-append (part_len n parts) (parts_of_master engines p e) back

pub own_below-master : (n engines parts p e : ℕ) → master_of engines p ≡ e → own_below n engines parts (p + 1) e ≡ own_below n engines parts p e + part_len n parts p
own_below-master n engines parts p e master =
    own_more n engines parts p e (p ∷ []) (parts_more engines p e true (eq-eqb (master_of engines p) e master))
    ∙ ap (λ k. own_below n engines parts p e + k) (zero-add (part_len n parts p))

pub own_below-other : (n engines parts p e : ℕ) → (master_of engines p ≡ e → ⊥) → own_below n engines parts (p + 1) e ≡ own_below n engines parts p e
own_below-other n engines parts p e other =
    own_more n engines parts p e [] (parts_more engines p e false (ne_eqb (master_of engines p) e other)) ∙ add-zero (own_below n engines parts p e)

-- one more partition, whether the engine has it or not
own_more_by : (n engines parts p e : ℕ) (own : Bool) → master_of engines p == e ≡ own → own_below n engines parts (p + 1) e ≡ own_below n engines parts p e + (if own then part_len n parts p else 0)
own_more_by n engines parts p e true own = own_below-master n engines parts p e (eqb-true (master_of engines p) e own)
own_more_by n engines parts p e false own = own_below-other n engines parts p e (eqb-false (master_of engines p) e own) ∙ sym (add-zero (own_below n engines parts p e))

part_or_none : (own : Bool) (len : ℕ) → (if own then len else 0) ≤ len
part_or_none true len = omega arith
part_or_none false len = omega arith

-- more partitions have no fewer vertices
own_below-grows : (n engines parts p more e : ℕ) → own_below n engines parts p e ≤ own_below n engines parts (p + more) e
own_below-grows n engines parts p zero e = subst (λ k. own_below n engines parts p e ≤ own_below n engines parts k e) (sym (add-zero p)) (omega arith)
own_below-grows n engines parts p (suc more) e =
    let next : p + more + 1 ≡ p + suc more = omega arith in
    let grown = own_more_by n engines parts (p + more) e (master_of engines (p + more) == e) refl in
    let before = own_below-grows n engines parts p more e in
    subst (λ k. own_below n engines parts p e ≤ own_below n engines parts k e) next (omega arith)

-- **A partition's vertices stand behind those of the lower ones of its master, and within the master's.**
pub own_before-fits : (n engines parts p : ℕ) → p < parts → own_before n engines parts p + part_len n parts p ≤ own_count n engines parts (master_of engines p)
own_before-fits n engines parts p below =
    let master = master_of engines p in
    let more = own_below-master n engines parts p master refl in
    let rest = parts - (p + 1) in
    let all : p + 1 + rest ≡ parts = omega arith in
    let grown = subst (λ k. own_below n engines parts (p + 1) master ≤ own_below n engines parts k master) all (own_below-grows n engines parts (p + 1) rest master) in
    omega (arith, more, grown)

-- no engine has more vertices than there are below p
pub own_below-le : (n engines parts p e : ℕ) → own_below n engines parts p e ≤ first_vertex n parts p
own_below-le n engines parts zero e = omega arith
own_below-le n engines parts (suc p) e =
    let before = own_below-le n engines parts p e in
    let more = own_more_by n engines parts p e (master_of engines p == e) refl in
    let at_most = part_or_none (master_of engines p == e) (part_len n parts p) in
    let next = first_vertex-next n parts p (p + 1) refl in
    subst (λ q. own_below n engines parts q e ≤ first_vertex n parts q) (add-one p) (omega (arith, before, more, at_most, next))

pub own_count-le : (n engines parts e : ℕ) → own_count n engines parts e ≤ n
own_count-le n engines parts e = let below = own_below-le n engines parts parts e in omega (arith, below)

-- the step by which the sum grows, where that engine was counted, comes now, or comes later
pub one_of : (master engines more : ℕ) → (if nat_lt master (engines + 1) then more else 0) ≡ (if nat_lt master engines then more else 0) + (if master == engines then more else 0)
one_of master engines more = grind arith

none_of : (master more : ℕ) → 0 ≡ 0 + (if nat_lt master 0 then more else 0)
none_of master more = grind arith

is_counted : (master engines more : ℕ) → master < engines → (if nat_lt master engines then more else 0) ≡ more
is_counted master engines more below = grind arith

sum_more : (f g : ℕ → ℕ) (master more : ℕ) → ((e : ℕ) → g e ≡ f e + (if master == e then more else 0)) → (engines : ℕ) → sum_by g (range_with_len 0 engines) ≡ sum_by f (range_with_len 0 engines) + (if nat_lt master engines then more else 0)
sum_more f g master more adds zero = none_of master more
sum_more f g master more adds (suc engines) =
    let goal_at : ℕ → Type 0 = λ k. sum_by g (range_with_len 0 k) ≡ sum_by f (range_with_len 0 k) + (if nat_lt master k then more else 0) in
    let before = sum_more f g master more adds engines in
    let new = sum_by_range-more g engines in
    let old = sum_by_range-more f engines in
    let here = adds engines in
    let one = one_of master engines more in
    subst goal_at (add-one engines) (omega (arith, before, new, old, here, one))

sum_none : (engines : ℕ) → sum_by (λ e. 0) (range_with_len 0 engines) ≡ 0
sum_none zero = refl
sum_none (suc engines) =
    let before = sum_none engines in
    let new = sum_by_range-more (λ e. 0) engines in
    subst (λ k. sum_by (λ e. 0) (range_with_len 0 k) ≡ 0) (add-one engines) (omega (arith, before, new))

-- the engines' counts below p add up to the vertices below p
own_below-sum : (n engines parts p : ℕ) → 1 ≤ engines → sum_by (own_below n engines parts p) (range_with_len 0 engines) ≡ first_vertex n parts p
own_below-sum n engines parts zero some_engine = let start : first_vertex n parts 0 ≡ 0 = omega arith in sum_none engines ∙ sym start
own_below-sum n engines parts (suc p) some_engine =
    let master = master_of engines p in
    let before = own_below-sum n engines parts p some_engine in
    let grown = sum_more (own_below n engines parts p) (own_below n engines parts (p + 1)) master (part_len n parts p) (λ e. own_more_by n engines parts p e (master == e) refl) engines in
    let counted = is_counted master engines (part_len n parts p) (mod-lt p some_engine) in
    let next = first_vertex-next n parts p (p + 1) refl in
    subst (λ q. sum_by (own_below n engines parts q) (range_with_len 0 engines) ≡ first_vertex n parts q) (add-one p) (omega (arith, before, grown, counted, next))

-- **The counts of all engines add up to the vertices.**
pub own_count-sum : (n engines parts : ℕ) → 1 ≤ engines → 1 ≤ parts → sum_by (own_count n engines parts) (range_with_len 0 engines) ≡ n
own_count-sum n engines parts some_engine some_part = own_below-sum n engines parts parts some_engine ∙ first_vertex-end n parts some_part
