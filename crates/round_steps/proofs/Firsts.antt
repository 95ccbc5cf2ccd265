-- Of what the values of round 0 are made.
use Rattle.std.proofs.Common.{◌≡◌, ℕ, ◌<◌, Bool, true, if◌then◌else◌, Option, List, sym, ◌∙◌, ap}
use Rattle.graph_model.specs.declared.edge.Edge.{Edge}
use Rattle.graph_model.specs.Programs.{Rules}
use Rattle.graph_model.specs.Rounds.{of_vertices, out_degree, values}
use Rattle.partitioner.specs.declared.split.Split.{Split}
use Rattle.replica_merge.specs.declared.replicas.Replicas.{Replicas}
use Rattle.apply_round.specs.Made.{AreMerged}
use Rattle.round_steps.specs.Rounds.{HasSums}

-- the law on start values
abbrev pub StartsAre : Rules → Type 0
StartsAre rules = (vertices : ℕ) (edges : List Edge) (numbers : ℕ → ℕ) → (rules.counts ≡ true → (vertex : ℕ) → vertex < vertices → numbers vertex ≡ out_degree edges vertex)
    → values rules vertices edges 0 ≡ of_vertices vertices (λ vertex. rules.start vertex (numbers vertex))

pub first_sums : (rules : Rules) (split : Split) (edges : List Edge) (replicas : List Replicas) (spills : List (Option (List ℕ))) (numbers : ℕ → ℕ) → StartsAre rules → AreMerged rules split replicas spills numbers
    → (rules.counts ≡ true → (v : ℕ) → numbers v ≡ out_degree edges v) → HasSums rules split edges 0 replicas spills
first_sums rules split edges replicas spills numbers law merged are = record {
  numbers = numbers;
  merged_are = merged;
  makes = sym (law split.vertices edges (λ v. if rules.counts then numbers v else 0) (λ counts v below. ap (λ (b : Bool). if b then numbers v else 0) counts ∙ are counts v));
}
