use Rattle.std.proofs.Common.{◌≡◌, ◌-◌, ◌≤◌, ◌++◌, length, take}
use Rattle.rmat_source.proofs.text.RmatTextSource.read.Given as goal

abbrev pub invariant-lines : goal.invariant-lines
invariant-lines l = record {
  within : l.count ≤ length l.into;
  given : take l.count l.into ++ l.self ≡ l.initial.self;
}

abbrev pub decreases-lines : goal.decreases-lines
decreases-lines l = length l.initial.into - l.count
