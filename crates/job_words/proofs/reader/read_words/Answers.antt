use Rattle.std.proofs.Common.{◌≡◌, ◌∙◌, sym}
use Rattle.job_words.specs.declared.command.WordFault.TheVariants.{Memory}
use Rattle.job_words.proofs.Read.{lone_unread, refused, taken}
use Rattle.job_words.proofs.reader.read_words.Goals as goal

pub returns-then-has_lone-clause-refused : goal.returns-then-has_lone-clause-refused
returns-then-has_lone-clause-refused c = λ e. lone_unread c.args.words.now (sym c.has_lone.ensures ∙ c.if-has_lone.true)

pub returns-in-Ok-clause-read : goal.returns-in-Ok-clause-read
returns-in-Ok-clause-read c =
    taken _ c.args.words.now c.in-Ok.matches c.in_ok-command.ensures (sym c.has_lone.ensures ∙ c.if-has_lone.false) c.in-Ok.ensures.matches c.in-Ok.ensures.kinds

pub returns-in-Err-clause-refused : goal.returns-in-Err-clause-refused
returns-in-Err-clause-refused c = λ e.
    refused _ c.args.words.now c.in-Err.error c.in_ok-command.ensures (sym c.has_lone.ensures ∙ c.if-has_lone.false) c.in-Err.ensures.kinds
    (λ out. let memory : c.fault_of.result ≡ Memory = c.fault_of.ensures.1 (c.kind.ensures ∙ out) in cc (e, memory))
