use Rattle.std.proofs.Common.{◌≡◌, ◌<◌, ◌^◌, take}
use Rattle.rmat_source.specs.Marks.{mark_more}
use Rattle.rmat_source.proofs.summary.mark_more.Given as goal

abbrev pub invariant-loop-byte : goal.invariant-loop-byte
invariant-loop-byte l = record {
  fits : l.mark < 2 ^ 32;
  so_far : l.mark ≡ mark_more l.initial.mark (take l.byte-index l.piece);
}
