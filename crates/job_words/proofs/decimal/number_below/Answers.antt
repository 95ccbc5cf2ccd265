use Rattle.std.proofs.Common.{◌∙◌, arith}
use Rattle.job_words.proofs.Numerals.{below_none, below_not, below_some}
use Rattle.job_words.proofs.decimal.number_below.Goals as goal

pub returns-in_err-number-clause-value : goal.returns-in_err-number-clause-value
returns-in_err-number-clause-value c = c.from_residual.ensures ∙ below_none c.args.text.now c.args.bound (omega arith) c.in_err-number.ensures

pub returns-then-number-bound-clause-value : goal.returns-then-number-bound-clause-value
returns-then-number-bound-clause-value c = below_some c.args.text.now c.args.bound c.in_ok-number.number (omega arith) c.in_ok-number.ensures (omega arith)

pub returns-else-number-bound-clause-value : goal.returns-else-number-bound-clause-value
returns-else-number-bound-clause-value c = below_not c.args.text.now c.args.bound c.in_ok-number.number (omega arith) c.in_ok-number.ensures (omega arith)
