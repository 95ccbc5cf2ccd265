-- Replicas whose accumulators are lent: they end as the borrower leaves them.
use Rattle.std.specs.Prelude.{ℕ, List}
use Rattle.std.specs.Borrow.{Lends, MutBor, Fml, u64, Array}
use Rattle.std.specs.Vec.{with_items}
use Rattle.replica_merge.specs.declared.replicas.Replicas.{Replicas}
use Rattle.replica_merge.specs.contracts.replicas.Replicas.{the_row}

-- the same with other accumulators in memory
abbrev pub with_sums : Replicas → List ℕ → Replicas
with_sums replicas sums = record replicas { sums = with_items replicas.sums sums }

abbrev pub LendsSums : MutBor Replicas → MutBor (List ℕ) → Fml
LendsSums replicas lent = Lends the_row (Array u64 0) replicas lent (with_sums replicas.now)
