use Rattle.std.proofs.Common.{◌≡◌, ◌*◌, take}
use Rattle.replica_merge.specs.Numbers.{bytes_of_numbers}
use Rattle.replica_merge.proofs.numbers.put_numbers.Given as goal

abbrev pub invariant-loop-index : goal.invariant-loop-index
invariant-loop-index l = take (8 * l.index) l.bytes ≡ bytes_of_numbers (take l.index l.numbers)
