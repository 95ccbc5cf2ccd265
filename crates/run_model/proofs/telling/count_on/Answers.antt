-- The places of one partition more were counted, or those of all were.
use Rattle.std.proofs.Common.{◌≡◌, ◌∙◌, ℕ, ◌+◌, ◌*◌, length, sym, ap, arith}
use Rattle.std.specs.List.{sum_by, range_with_len}
use Rattle.chunk_file.specs.Places.{places_of}
use Rattle.graph_model.proofs.ListLemmas.{sum_by_range-more}
use Rattle.run_model.specs.Telling.{count_on}
use Rattle.run_model.proofs.telling.count_on.Goals as goal

pub loop-partition-preserved : goal.loop-partition-preserved
loop-partition-preserved c =
    let places : ℕ → ℕ = λ p. length (places_of c.args.index.now c.args.engine p) in
    record {
      so_far = ap (λ n. n + c.len-count.result) c.loop-partition.invariant.so_far
          ∙ ap (λ n. sum_by places (range_with_len 0 c.loop-partition.partition) + n) c.len-count.ensures
          ∙ sym (sum_by_range-more places c.loop-partition.partition);
      few = omega (arith, c.loop-partition.invariant.few, c.len-count.ensures, c.requires.few (64 * c.args.engine + c.loop-partition.partition));
    }

pub returns : goal.returns
unfolding count_on
returns c =
    let all : c.loop-partition.partition ≡ 64 = omega (arith, c.loop-partition-test.false, c.loop-partition.auto.partition-end) in
    c.loop-partition.invariant.so_far ∙ ap (λ k. sum_by (λ p. length (places_of c.args.index.now c.args.engine p)) (range_with_len 0 k)) all
