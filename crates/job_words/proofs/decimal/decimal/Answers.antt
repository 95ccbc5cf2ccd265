use Rattle.std.proofs.Common.{◌∙◌, sym}
use Rattle.job_words.proofs.Numerals.{not_digits, parsed_number}
use Rattle.job_words.proofs.decimal.decimal.Goals as goal

pub returns-then-not-is_decimal : goal.returns-then-not-is_decimal
returns-then-not-is_decimal c = not_digits c.args.text.now (sym c.if-not-is_decimal.ensures)

pub returns : goal.returns
returns c = c.ok.ensures.value ∙ parsed_number c.args.text.now c.parse.result (sym c.if-not-is_decimal.ensures) c.parse.ensures.value.0
