-- From what each worker has for a vertex to the merge over all workers.
use Rattle.std.proofs.Common.{◌≡◌, ℕ, suc, ◌+◌, ◌<◌, List, [], ◌∷◌, length, map, refl, ◌∙◌, ap, arith, slice_index, slice_index_or, Option, Some}
use Rattle.std.proofs.lemmas.List.FromFn.{get_or-map-range_with_len}
use Rattle.graph_model.specs.Partitions.{first_vertex}
use Rattle.graph_model.specs.Programs.{Rules}
use Rattle.graph_model.specs.Rounds.{merged}
use Rattle.partitioner.specs.declared.split.Split.{Split}
use Rattle.chunk_object.specs.declared.call.Call.{Call}
use Rattle.replica_merge.specs.declared.replicas.Replicas.{Replicas}
use Rattle.replica_merge.specs.Accumulators.{len_of, accumulators_of}
use Rattle.replica_merge.specs.Merging.{sums_for}
use Rattle.gather_phase.specs.Gathered.{over_partition}
use Rattle.apply_round.specs.Made.{AreMerged}

module _ (split : Split) (sum : ℕ → List Call → ℕ) where
  -- each worker's accumulators are the sums over its list
  abbrev pub EachSums : (replicas : List Replicas) → (devices : List (List ℕ)) → (lists : List (List Call)) → (partition : ℕ) → Type 0
  EachSums replicas devices lists partition =
      (w : ℕ) (r : Replicas) → w < length lists → accumulators_of (slice_index_or replicas w r) (slice_index_or devices w []) partition ≡ over_partition split (λ v. sum v (slice_index_or lists w [])) partition

  pub sums_are : (replicas : List Replicas) (devices : List (List ℕ)) (lists : List (List Call)) (partition place : ℕ) → length replicas ≡ length lists → length devices ≡ length lists → place < len_of split partition
      → EachSums replicas devices lists partition → sums_for replicas devices partition place ≡ map (sum (first_vertex split.vertices split.parts partition + place)) lists
  sums_are [] [] [] partition place many many' within each = refl
  sums_are [] [] (c ∷ cs) partition place many many' within each = absurd (omega arith)
  sums_are [] (d ∷ ds) [] partition place many many' within each = absurd (omega arith)
  sums_are [] (d ∷ ds) (c ∷ cs) partition place many many' within each = absurd (omega arith)
  sums_are (r ∷ rs) [] [] partition place many many' within each = absurd (omega arith)
  sums_are (r ∷ rs) [] (c ∷ cs) partition place many many' within each = absurd (omega arith)
  sums_are (r ∷ rs) (d ∷ ds) [] partition place many many' within each = absurd (omega arith)
  sums_are (r ∷ rs) (d ∷ ds) (c ∷ cs) partition place many many' within each =
      let first : ℕ = first_vertex split.vertices split.parts partition in
      let here : slice_index (accumulators_of r d partition) place ≡ sum (first + place) c =
      ap (λ (xs : List ℕ). slice_index xs place) (each 0 r (omega arith)) ∙ get_or-map-range_with_len (λ v. sum v c) first (len_of split partition) place (first + place) 0 within refl in
      let rest : sums_for rs ds partition place ≡ map (sum (first + place)) cs =
      sums_are rs ds cs partition place (omega arith) (omega arith) within (λ w r' below. each (suc w) r' (omega (arith, below))) in
      ap (λ (k : ℕ). k ∷ sums_for rs ds partition place) here ∙ ap (λ (xs : List ℕ). sum (first + place) c ∷ xs) rest

  -- **So the merge over all workers is that over their lists.**
  pub merge_is : (rules : Rules) (replicas : List Replicas) (devices : List (List ℕ)) (spills : List (Option (List ℕ))) (lists : List (List Call)) (numbers : ℕ → ℕ) → length replicas ≡ length lists → length devices ≡ length lists
      → spills ≡ map (λ device. Some device) devices
      → ((partition : ℕ) → partition < split.parts → EachSums replicas devices lists partition)
      → ((v : ℕ) → merged rules (map (sum v) lists) ≡ numbers v)
      → AreMerged rules split replicas spills numbers
  merge_is rules replicas devices spills lists numbers many many' told each are = record {
    devices = devices;
    told = told;
    are = λ partition place below within.
        ap (merged rules) (sums_are replicas devices lists partition place many many' within (each partition below)) ∙ are (first_vertex split.vertices split.parts partition + place);
  }
