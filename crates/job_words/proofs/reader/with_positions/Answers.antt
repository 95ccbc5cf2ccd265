use Rattle.job_words.specs.declared.tables.PositionEntry.{PositionEntry}
use Rattle.job_words.specs.Reader.{position_rule}
use Rattle.job_words.proofs.Builds.{rule_more}
use Rattle.job_words.proofs.reader.with_positions.Goals as goal

pub loop-entry-preserved : goal.loop-entry-preserved
loop-entry-preserved c =
    rule_more (λ (entry : PositionEntry). position_rule entry.name.now) _ _ _ _ _ _ c.loop-entry-test.true c.loop-entry.invariant c.in_ok-command.ensures
