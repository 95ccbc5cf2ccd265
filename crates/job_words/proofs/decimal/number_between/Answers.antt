use Rattle.std.proofs.Common.{◌∙◌, arith}
use Rattle.job_words.proofs.Numerals.{between_none, between_not, between_some}
use Rattle.job_words.proofs.decimal.number_between.Goals as goal

pub returns-in_err-number-clause-value : goal.returns-in_err-number-clause-value
returns-in_err-number-clause-value c = c.from_residual.ensures ∙ between_none c.args.text.now c.args.least c.args.greatest (omega arith) c.in_err-number.ensures

pub returns-then-number-greatest-clause-value : goal.returns-then-number-greatest-clause-value
returns-then-number-greatest-clause-value c =
    between_some c.args.text.now c.args.least c.args.greatest c.in_ok-number.number (omega arith) c.in_ok-number.ensures (omega arith) (omega arith)

pub returns-else-least-number-clause-value : goal.returns-else-least-number-clause-value
returns-else-least-number-clause-value c =
    between_not c.args.text.now c.args.least c.args.greatest c.in_ok-number.number (omega arith) c.in_ok-number.ensures c.else-least-number.either
