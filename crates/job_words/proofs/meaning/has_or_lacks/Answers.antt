use Rattle.std.proofs.Common.{◌∙◌}
use Rattle.job_words.specs.Reader.{text_in}
use Rattle.job_words.proofs.GivenLemmas.{has_it, lacks_it}
use Rattle.job_words.proofs.meaning.has_or_lacks.Goals as goal

pub returns-then-is_among : goal.returns-then-is_among
returns-then-is_among c =
    c.if-is_among.true ∙ has_it c.args.command (text_in c.args.matches.now) c.args.commands.now c.args.name.now c.if-is_among.ensures

pub returns-else-is_among : goal.returns-else-is_among
returns-else-is_among c =
    c.lacks.ensures ∙ lacks_it c.args.command (text_in c.args.matches.now) c.args.commands.now c.args.name.now c.if-is_among.ensures
