-- The steps of a merge: one piece more of a worker's numbers, and one worker more.
use Rattle.std.proofs.Common.{◌≡◌, ℕ, ◌+◌, ◌-◌, ◌*◌, ◌/◌, ◌<◌, ◌≤◌, List, [], ◌∷◌, ◌++◌, zero, suc, length, take, get_or, map, Option, Some, inl, inr, refl, sym, ◌∙◌, ap, arith}
use Rattle.std.specs.Int.{from_be_bytes, w64}
use Rattle.std.proofs.lemmas.Bool.{cases_lt}
use Rattle.std.proofs.lemmas.List.Sums.{fold-append}
use Rattle.graph_model.specs.Programs.{Rules}
use Rattle.graph_model.specs.Rounds.{merged}
use Rattle.ports.specs.Bytes.{bytes_at}
use Rattle.ports.proofs.Parts.{bytes_at-within, length-bytes_at}
use Rattle.replica_merge.specs.declared.replicas.Replicas.{Replicas}
use Rattle.replica_merge.specs.Accumulators.{accumulators_of}
use Rattle.replica_merge.specs.Merging.{MergesFrom, sums_for}
use Rattle.replica_merge.specs.Numbers.{numbers_at}
use Rattle.replica_merge.proofs.NumberLemmas.{get_or-numbers_at}

-- the first sums were merged with the numbers that stand on a device from `at` on
pub record HasMergedFront (rules : Rules) (at done : ℕ) (device start now : List ℕ) : Type 0 where
  pub here : (v : ℕ) → v < done → get_or now v 0 ≡ rules.merge (get_or start v 0) (get_or (numbers_at at (length start) device) v 0)
  pub elsewhere : (v : ℕ) → done ≤ v → get_or now v 0 ≡ get_or start v 0

pub merged_piece : (rules : Rules) (at done count from n : ℕ) (device start mid new : List ℕ) →
    done + count ≤ length start → from ≡ at + 8 * done → n ≡ 8 * count → at + 8 * length start ≤ length device →
    HasMergedFront rules at done device start mid → MergesFrom rules done (bytes_at from n device) mid new →
    HasMergedFront rules at (done + count) device start new
merged_piece rules at done count from n device start mid new within place size inside so_far merges =
    let long : length (bytes_at from n device) ≡ n = length-bytes_at from n device (omega arith) in
    let many : length (bytes_at from n device) / 8 ≡ count = omega arith in
    record {
      here = λ v below. elim (cases_lt v done) [
        | inl before ↦ merges.elsewhere v (inl before) ∙ so_far.here v before
        | inr behind ↦
            let k : ℕ = v - done in
            let there : done + k ≡ v = omega arith in
            let number : from_be_bytes w64 (bytes_at (8 * k) 8 (bytes_at from n device)) ≡ get_or (numbers_at at (length start) device) v 0 =
            ap (from_be_bytes w64) (bytes_at-within from n (8 * k) 8 device (omega arith))
            ∙ ap (λ (p : ℕ). from_be_bytes w64 (bytes_at p 8 device)) (let same : from + 8 * k ≡ at + 8 * v = omega arith in same)
            ∙ sym (get_or-numbers_at at (length start) device v (omega arith)) in
            let old : get_or mid (done + k) 0 ≡ get_or start v 0 = ap (λ i. get_or mid i 0) there ∙ so_far.elsewhere v behind in
            sym (ap (λ i. get_or new i 0) there)
            ∙ merges.here k (omega (arith, many))
            ∙ ap (λ s. rules.merge s (from_be_bytes w64 (bytes_at (8 * k) 8 (bytes_at from n device)))) old
            ∙ ap (rules.merge (get_or start v 0)) number
      ];
      elsewhere = λ v behind. merges.elsewhere v (inr (omega (arith, many))) ∙ so_far.elsewhere v (omega arith);
    }

-- what one worker more has for a vertex
sums_for-next : (replicas : List Replicas) (devices : List (List ℕ)) (w p v : ℕ) (r : Replicas) → w < length replicas → length devices ≡ length replicas →
    sums_for (take (suc w) replicas) (take (suc w) devices) p v
    ≡ sums_for (take w replicas) (take w devices) p v ++ get_or (accumulators_of (get_or replicas w r) (get_or devices w []) p) v 0 ∷ []
sums_for-next (r' ∷ rs) (d ∷ ds) zero p v r below same = refl
sums_for-next (r' ∷ rs) (d ∷ ds) (suc w) p v r below same =
    ap (λ sums. get_or (accumulators_of r' d p) v 0 ∷ sums) (sums_for-next rs ds w p v r (omega arith) (omega arith))
sums_for-next [] devices w p v r below same = absurd (omega arith)
sums_for-next (r' ∷ rs) [] w p v r below same = absurd (omega arith)

-- one worker more is merged
pub merged_worker : (rules : Rules) (replicas : List Replicas) (devices : List (List ℕ)) (w p v : ℕ) (r : Replicas) (mid new : List ℕ) → w < length replicas → length devices ≡ length replicas →
    get_or mid v 0 ≡ merged rules (sums_for (take w replicas) (take w devices) p v) →
    get_or new v 0 ≡ rules.merge (get_or mid v 0) (get_or (accumulators_of (get_or replicas w r) (get_or devices w []) p) v 0) →
    get_or new v 0 ≡ merged rules (sums_for (take (w + 1) replicas) (take (w + 1) devices) p v)
merged_worker rules replicas devices w p v r mid new below same so_far next =
    let one : w + 1 ≡ suc w = omega arith in
    next
    ∙ ap (λ s. rules.merge s (get_or (accumulators_of (get_or replicas w r) (get_or devices w []) p) v 0)) so_far
    ∙ sym (fold-append rules.merge rules.unit (sums_for (take w replicas) (take w devices) p v) (get_or (accumulators_of (get_or replicas w r) (get_or devices w []) p) v 0 ∷ []))
    ∙ ap (merged rules) (sym (sums_for-next replicas devices w p v r below same))
    ∙ ap (λ n. merged rules (sums_for (take n replicas) (take n devices) p v)) (sym one)

-- the bytes of the w-th device
pub told_at : {X : Type 0} (bytes : X → Option (List ℕ)) (disks : List X) (devices : List (List ℕ)) (w : ℕ) (d : X) → map bytes disks ≡ map (λ device. Some device) devices → w < length disks →
    bytes (get_or disks w d) ≡ Some (get_or devices w [])
told_at bytes (x ∷ xs) (device ∷ devices) zero d told below = let first : bytes x ≡ Some device = cc in first
told_at bytes (x ∷ xs) (device ∷ devices) (suc w) d told below =
    let rest : map bytes xs ≡ map (λ other. Some other) devices = cc in
    told_at bytes xs devices w d rest (omega arith)
told_at bytes (x ∷ xs) [] w d told below = let none : ⊥ = cc in absurd none
told_at bytes [] devices w d told below = absurd (omega arith)

pub length-told : {X : Type 0} (bytes : X → Option (List ℕ)) (disks : List X) (devices : List (List ℕ)) → map bytes disks ≡ map (λ device. Some device) devices → length devices ≡ length disks
length-told bytes [] [] told = refl
length-told bytes [] (device ∷ devices) told = let none : ⊥ = cc in absurd none
length-told bytes (x ∷ xs) [] told = let none : ⊥ = cc in absurd none
length-told bytes (x ∷ xs) (device ∷ devices) told =
    let rest : map bytes xs ≡ map (λ other. Some other) devices = cc in
    ap suc (length-told bytes xs devices rest)
