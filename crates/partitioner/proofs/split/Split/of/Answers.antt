-- The number of partitions is the definition's, as it is computed, and that is the least that is enough.
use Rattle.std.proofs.Common.{◌≡◌, ◌*◌, ◌<◌, ◌≤◌, arith, refl, sym, ◌∙◌, ap, subst}
use Rattle.std.specs.Int.{div_ceil}
use Rattle.graph_model.specs.Partitions.{IsPartCount, part_count}
use Rattle.graph_model.proofs.SplitLemmas.{part_count_is, ceil_div-div_ceil, one-le-product}
use Rattle.partitioner.proofs.Made.{part_count-unique, part_count-computed, made-is_split}
use Rattle.partitioner.proofs.split.Split.of.Goals as goal

-- src/split.rt:37:13
pub returns-then-parts-gt-MOST_PARTS-clause-none : goal.returns-then-parts-gt-MOST_PARTS-clause-none
returns-then-parts-gt-MOST_PARTS-clause-none c parts is =
    let some_engine : 1 ≤ c.args.engines = omega arith in
    let quotient : c.div_ceil.result ≡ div_ceil c.args.vertices (c.args.engines * c.args.most) = cc in
    let computed = part_count-computed _ _ _ _ _ some_engine c.requires.most quotient c.max-turns.ensures in
    let made = part_count-unique c.args.vertices c.args.engines c.args.most parts some_engine c.requires.most is in
    let large : 64 < c.args.engines * c.max-turns.result = subst (λ k. 64 < k * c.max-turns.result) c.from-4.ensures c.if-parts-gt-MOST_PARTS.true in
    omega arith

-- src/split.rt:27:5
pub returns-clause-by : goal.returns-clause-by
returns-clause-by c =
    let some_engine : 1 ≤ c.args.engines = omega arith in
    let quotient : c.div_ceil.result ≡ div_ceil c.args.vertices (c.args.engines * c.args.most) = cc in
    let computed = part_count-computed _ _ _ _ _ some_engine c.requires.most quotient c.max-turns.ensures in
    let parts : c.from-4.result * c.max-turns.result ≡ part_count c.args.vertices c.args.engines c.args.most = ap (λ k. k * c.max-turns.result) c.from-4.ensures ∙ computed in
    let some_part : 1 ≤ c.from-4.result * c.max-turns.result = one-le-product _ _ (omega arith) (omega arith) in
    record {
      all_vertices = refl;
      all_engines = refl;
      parts = subst (IsPartCount c.args.vertices c.args.engines c.args.most) (sym parts) (part_count_is c.args.vertices c.args.engines c.args.most some_engine c.requires.most);
      few = c.if-parts-gt-MOST_PARTS.false;
      span = c.div_ceil-2.ensures ∙ sym (ceil_div-div_ceil c.args.vertices (c.from-4.result * c.max-turns.result) some_part);
    }

pub returns-clause-split : goal.returns-clause-split
returns-clause-split c = made-is_split c.args.vertices c.args.engines c.args.most _ (omega arith) c.requires.engines c.requires.most (returns-clause-by c)
