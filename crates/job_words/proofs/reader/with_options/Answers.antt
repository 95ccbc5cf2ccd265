use Rattle.std.proofs.Common.{◌∙◌, ap}
use Rattle.clap.specs.Words.{with_rule, app_of}
use Rattle.job_words.specs.declared.tables.OptionEntry.{OptionEntry}
use Rattle.job_words.specs.Reader.{option_rule}
use Rattle.job_words.proofs.Builds.{rule_more}
use Rattle.job_words.proofs.reader.with_options.Goals as goal

pub loop-entry-preserved : goal.loop-entry-preserved
loop-entry-preserved c =
    rule_more (λ (entry : OptionEntry). option_rule entry.name.now) _ _ _ _ _ c.entry-item.result c.loop-entry-test.true c.loop-entry.invariant
    (c.in_ok-command.ensures ∙ ap (λ (entry : OptionEntry). with_rule (app_of c.loop-entry.command) (option_rule entry.name.now)) c.entry-item.is)
