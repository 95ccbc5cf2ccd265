use Rattle.job_words.specs.declared.tables.FlagEntry.{FlagEntry}
use Rattle.job_words.specs.Reader.{flag_rule}
use Rattle.job_words.proofs.Builds.{rule_more}
use Rattle.job_words.proofs.reader.with_flags.Goals as goal

pub loop-entry-preserved : goal.loop-entry-preserved
loop-entry-preserved c =
    rule_more (λ (entry : FlagEntry). flag_rule entry.name.now) _ _ _ _ _ _ c.loop-entry-test.true c.loop-entry.invariant c.in_ok-command.ensures
