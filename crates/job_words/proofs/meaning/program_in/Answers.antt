use Rattle.std.proofs.Common.{◌∙◌, ap}
use Rattle.job_words.specs.Commands.{and_then, program_of}
use Rattle.job_words.specs.Reader.{text_in}
use Rattle.job_words.specs.Tables.{argument_word}
use Rattle.job_words.proofs.meaning.program_in.Goals as goal

pub returns : goal.returns
returns c =
    c.program_of.ensures ∙ ap (program_of c.in_ok-name.name.now c.args.vertices) c.get_str-2.ensures
    ∙ ap (λ o. and_then o (λ name. program_of name c.args.vertices (text_in c.args.matches.now argument_word.name))) c.in_ok-name.ensures
