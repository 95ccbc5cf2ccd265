-- Replicas with their device, for those who hold them.
use Rattle.std.proofs.Common.{◌≡◌, ℕ, List, length, drop, ap, arith, None, replicate}
use Rattle.std.proofs.lemmas.List.{take_at}
use Rattle.replica_merge.specs.declared.replicas.Replicas.{Replicas}
use Rattle.replica_merge.specs.Accumulators.{split_of, unit_of, sums_of, len_of, place_of, accumulators_of, accumulators_at, IsUnspilled, LiesWithin}
use Rattle.replica_merge.specs.Lending.{with_sums}

-- where nothing was spilled, all of it lies within any device
pub unspilled-lies : (replicas : Replicas) (size : ℕ) → IsUnspilled replicas → LiesWithin replicas size
unspilled-lies replicas size unspilled p at below place =
    let none : place_of replicas p ≡ None = unspilled p in
    let both : ⊥ = cc in absurd both

-- and each accumulator is a unit
pub unspilled-units : (replicas : Replicas) (device : List ℕ) (p : ℕ) → place_of replicas p ≡ None →
    accumulators_of replicas device p ≡ replicate (len_of (split_of replicas) p) (unit_of replicas)
unspilled-units replicas device p none =
    ap (λ place. accumulators_at place (len_of (split_of replicas) p) (unit_of replicas) device) none

-- the accumulators in memory are those that a borrower left
pub sums_of-with_sums : (replicas : Replicas) (sums : List ℕ) → length sums ≡ length (sums_of replicas) → sums_of (with_sums replicas sums) ≡ sums
sums_of-with_sums replicas sums long =
    take_at sums (drop (length sums) replicas.sums.items) replicas.sums.len (omega (arith, long, replicas.sums.ok.0))
