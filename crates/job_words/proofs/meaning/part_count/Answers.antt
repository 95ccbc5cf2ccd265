use Rattle.std.proofs.Common.{ℕ, subst, sym, arith}
use Rattle.graph_model.specs.Partitions.{IsPartCount}
use Rattle.graph_model.proofs.SplitLemmas.{part_count_is}
use Rattle.job_words.proofs.Parts.{part_count_steps}
use Rattle.job_words.proofs.meaning.part_count.Goals as goal

pub returns-clause-value : goal.returns-clause-value
returns-clause-value c =
    rw (c.from-4.ensures, c.max-turns.ensures, c.div_ceil.ensures, c.from.ensures, c.from-2.ensures, c.from-3.ensures)
    (part_count_steps c.args.vertices c.args.engines c.args.most (omega arith) (omega arith))

pub returns-clause-least : goal.returns-clause-least
returns-clause-least c =
    subst (λ (parts : ℕ). IsPartCount c.args.vertices c.args.engines c.args.most parts) (sym (returns-clause-value c))
    (part_count_is c.args.vertices c.args.engines c.args.most (omega arith) (omega arith))
