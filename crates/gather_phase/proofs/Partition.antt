-- The chunks of one partition among others, and how many vertices they bear on.
use Rattle.std.proofs.Common.{◌≡◌, ◌≢◌, ℕ, zero, suc, ◌+◌, ◌*◌, ◌^◌, ◌%◌, ◌<◌, ◌≤◌, Bool, true, false, cond, eqb, List, [], ◌∷◌, ◌++◌, length, get_or, replicate, refl, ap, sym, ◌∙◌, ⊎_elim, arith, eq-eqb, ne_eqb}
use Rattle.std.specs.List.{fold}
use Rattle.std.proofs.lemmas.Bool.{cases_eq, cond-true, cond-false}
use Rattle.std.proofs.lemmas.List.{append-nil, same_lists, length-replicate, get_or-replicate}
use Rattle.std.proofs.lemmas.List.FromFn.{length-map-range_with_len, get_or-map-range_with_len}
use Rattle.std.proofs.lemmas.List.Elements.{All-head, All-tail, filter-append}
use Rattle.graph_model.specs.declared.value.Update.{Update}
use Rattle.graph_model.specs.Partitions.{first_vertex}
use Rattle.partitioner.specs.declared.split.Split.{Split}
use Rattle.partitioner.specs.Splits.{IsSplit}
use Rattle.std.proofs.Math.Nat.{mul-le-mul_left}
use Rattle.chunk_object.specs.History.{total}
use Rattle.chunk_object.proofs.Histories.{total_same, total_same_below}
use Rattle.phase_model.specs.Sums.{values_to, sum_at}
use Rattle.phase_model.proofs.Lists.{sum_at-append}
use Rattle.worker_duty.specs.Views.{NoneOf}
use Rattle.replica_merge.specs.Accumulators.{len_of}
use Rattle.gather_phase.specs.Summing.{HasSummed}
use Rattle.gather_phase.specs.Gathering.{Adding, partition_sums, of_partition, len_where, touched_len, touched_but, touched}

module _ (p : ℕ) where
  pub none_there : (chunks : List (ℕ × ℕ)) → NoneOf p chunks → of_partition p chunks ≡ []
  none_there [] none = refl
  none_there (chunk ∷ chunks) none =
      cond-false (eqb (chunk.0 % 64) p) _ _ (ne_eqb (chunk.0 % 64) p (All-head (λ (c : ℕ × ℕ). c.0 % 64 ≢ p) chunk chunks none)) ∙ none_there chunks (All-tail (λ (c : ℕ × ℕ). c.0 % 64 ≢ p) chunk chunks none)

  pub one_there : (chunks : List (ℕ × ℕ)) (w t : ℕ) → w % 64 ≡ p → of_partition p (chunks ++ (w, t) ∷ []) ≡ of_partition p chunks ++ (w, t) ∷ []
  one_there chunks w t here = filter-append (λ (c : ℕ × ℕ). eqb (c.0 % 64) p) chunks ((w, t) ∷ []) ∙ ap (λ l. of_partition p chunks ++ l) (cond-true (eqb (w % 64) p) _ _ (eq-eqb (w % 64) p here))

  pub one_elsewhere : (chunks : List (ℕ × ℕ)) (w t : ℕ) → w % 64 ≢ p → of_partition p (chunks ++ (w, t) ∷ []) ≡ of_partition p chunks
  one_elsewhere chunks w t other =
      filter-append (λ (c : ℕ × ℕ). eqb (c.0 % 64) p) chunks ((w, t) ∷ [])
      ∙ (ap (λ l. of_partition p chunks ++ l) (cond-false (eqb (w % 64) p) _ _ (ne_eqb (w % 64) p other)) ∙ append-nil (of_partition p chunks))

-- the sum of numbers, and one of them apart
total_but : (m : ℕ) (f : ℕ → ℕ) (p : ℕ) → p < m → total m f ≡ total m (λ q. cond (eqb q p) 0 (f q)) + f p
total_but zero f p below = absurd (omega arith)
total_but (suc m) f p below = ⊎_elim
    (λ same.
    let others : total m f ≡ total m (λ q. cond (eqb q p) 0 (f q)) = total_same_below m f (λ q. cond (eqb q p) 0 (f q)) (λ q less. sym (cond-false (eqb q p) 0 (f q) (ne_eqb q p (λ (e : q ≡ p). omega arith)))) in
    let none : cond (eqb m p) 0 (f m) ≡ 0 = cond-true (eqb m p) 0 (f m) (eq-eqb m p same) in
    let last : f m ≡ f p = ap f same in
    omega (arith, others, none, last))
    (λ ne.
    let rest = total_but m f p (omega arith) in
    let kept : cond (eqb m p) 0 (f m) ≡ f m = cond-false (eqb m p) 0 (f m) (ne_eqb m p ne) in
    omega (arith, rest, kept))
    (cases_eq m p)

total_none : (m : ℕ) (f : ℕ → ℕ) (p : ℕ) → f p ≡ 0 → total m (λ q. cond (eqb q p) 0 (f q)) ≡ total m f
total_none m f p none = total_same m (λ q. cond (eqb q p) 0 (f q)) f (λ q. ⊎_elim (λ same. cond-true (eqb q p) 0 (f q) (eq-eqb q p same) ∙ (sym none ∙ ap f (sym same))) (λ ne. cond-false (eqb q p) 0 (f q) (ne_eqb q p ne)) (cases_eq q p))

total_few : (m : ℕ) (f : ℕ → ℕ) (most : ℕ) → ((q : ℕ) → f q ≤ most) → total m f ≤ m * most
total_few zero f most few = omega arith
total_few (suc m) f most few = let rest = total_few m f most few in let last = few m in let product : suc m * most ≡ m * most + most = grind arith in omega (arith, rest, last, product)

module _ (split : Split) (p : ℕ) where
  pub touched_fresh : (chunks : List (ℕ × ℕ)) → NoneOf p chunks → touched_but split chunks p ≡ touched split chunks
  touched_fresh chunks none = total_none split.parts (touched_len split chunks) p (ap (len_where (len_of split p)) (none_there p chunks none))

  len_some : (len : ℕ) (chunks : List (ℕ × ℕ)) → ((length chunks ≡ 0) → ⊥) → len_where len chunks ≡ len
  len_some len [] some = absurd (some refl)
  len_some len (chunk ∷ chunks) some = refl

  pub touched_here : (chunks : List (ℕ × ℕ)) → p < split.parts → ((length (of_partition p chunks) ≡ 0) → ⊥) → touched split chunks ≡ touched_but split chunks p + len_of split p
  touched_here chunks below some = total_but split.parts (touched_len split chunks) p below ∙ ap (λ n. touched_but split chunks p + n) (len_some (len_of split p) (of_partition p chunks) some)

  -- a chunk of the partition bears on no other
  pub touched_more : (chunks : List (ℕ × ℕ)) (w t : ℕ) → w % 64 ≡ p → touched_but split (chunks ++ (w, t) ∷ []) p ≡ touched_but split chunks p
  touched_more chunks w t here = total_same split.parts _ _ (λ q. ⊎_elim
      (λ same. cond-true (eqb q p) 0 (touched_len split (chunks ++ (w, t) ∷ []) q) (eq-eqb q p same) ∙ sym (cond-true (eqb q p) 0 (touched_len split chunks q) (eq-eqb q p same)))
      (λ ne. ap (λ l. cond (eqb q p) 0 (len_where (len_of split q) l)) (one_elsewhere q chunks w t (λ e. ne (sym e ∙ here))))
      (cases_eq q p))

  each_few : (chunks : List (ℕ × ℕ)) (q : ℕ) → cond (eqb q p) 0 (touched_len split chunks q) ≤ split.vertices
  each_few chunks q = by_test (eqb q p) (of_partition q chunks)
    where
      by_test : (b : Bool) (l : List (ℕ × ℕ)) → cond b 0 (len_where (len_of split q) l) ≤ split.vertices
      by_test true l = omega arith
      by_test false [] = omega arith
      by_test false (chunk ∷ l) = omega arith

  pub touched_few : (chunks : List (ℕ × ℕ)) → touched_but split chunks p ≤ split.parts * split.vertices
  touched_few chunks = total_few split.parts (λ q. cond (eqb q p) 0 (touched_len split chunks q)) split.vertices (each_few chunks)

-- The sums of a partition.
module _ (a : Adding) (p : ℕ) where
  pub sums_none : partition_sums a [] p ≡ replicate (len_of a.split p) a.unit
  sums_none = same_lists (partition_sums a [] p) (replicate (len_of a.split p) a.unit) (length-map-range_with_len (sum_at a.add a.unit []) (first_vertex a.split.vertices a.split.parts p) (len_of a.split p) ∙ sym (length-replicate (len_of a.split p) a.unit))
      (λ k d below.
      let inside : k < len_of a.split p = omega (arith, below, length-map-range_with_len (sum_at a.add a.unit []) (first_vertex a.split.vertices a.split.parts p) (len_of a.split p)) in
      get_or-map-range_with_len (sum_at a.add a.unit []) (first_vertex a.split.vertices a.split.parts p) (len_of a.split p) k (first_vertex a.split.vertices a.split.parts p + k) d inside refl ∙ sym (get_or-replicate (len_of a.split p) k a.unit d inside))

  long : (xs : List Update) → length (partition_sums a xs p) ≡ len_of a.split p
  long xs = length-map-range_with_len (sum_at a.add a.unit xs) (first_vertex a.split.vertices a.split.parts p) (len_of a.split p)

  at : (xs : List Update) (k : ℕ) → k < len_of a.split p → (d : ℕ) → get_or (partition_sums a xs p) k d ≡ sum_at a.add a.unit xs (first_vertex a.split.vertices a.split.parts p + k)
  at xs k inside d = get_or-map-range_with_len (sum_at a.add a.unit xs) (first_vertex a.split.vertices a.split.parts p) (len_of a.split p) k (first_vertex a.split.vertices a.split.parts p + k) d inside refl

  pub sums_more : (xs us : List Update) (old new : List ℕ) → old ≡ partition_sums a xs p → HasSummed a.add (first_vertex a.split.vertices a.split.parts p) us old new → new ≡ partition_sums a (xs ++ us) p
  sums_more xs us old new is summed = same_lists new (partition_sums a (xs ++ us) p) (summed.long ∙ (ap length is ∙ (long xs ∙ sym (long (xs ++ us)))))
      (λ k d below.
      let inside : k < len_of a.split p = omega (arith, below, summed.long, ap length is, long xs) in
      let there : k < length old = omega (arith, below, summed.long) in
      default new k d 0 below
      ∙ (summed.each k there
      ∙ (ap (λ s. fold a.add s (values_to (first_vertex a.split.vertices a.split.parts p + k) us)) (ap (λ l. get_or l k 0) is ∙ at xs k inside 0)
      ∙ (sym (sum_at-append a.add a.unit xs us (first_vertex a.split.vertices a.split.parts p + k)) ∙ sym (at (xs ++ us) k inside d)))))
    where
      default : (l : List ℕ) (k d e : ℕ) → k < length l → get_or l k d ≡ get_or l k e
      default [] k d e below = absurd (omega arith)
      default (x ∷ l) zero d e below = refl
      default (x ∷ l) (suc k) d e below = default l k d e (omega arith)

-- what is spilled of all partitions has room on a device
pub spill_fits : (split : Split) (p : ℕ) (chunks : List (ℕ × ℕ)) (size len : ℕ) → IsSplit split → size ≡ 8 * touched_but split chunks p → len ≡ len_of split p → size + 8 * len < 2 ^ 63
spill_fits split p chunks size len is width len_is =
    let few = touched_few split p chunks in
    let all : split.vertices * split.parts ≤ split.vertices * 64 = mul-le-mul_left split.vertices is.few in
    let below : split.vertices < 2 ^ 32 = is.vertices in
    omega (arith, few, all, width, len_is, below)
