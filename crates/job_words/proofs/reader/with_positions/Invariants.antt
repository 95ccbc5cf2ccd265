use Rattle.std.proofs.Common.{◌≡◌, map, take}
use Rattle.clap.specs.Words.{app_of}
use Rattle.job_words.specs.Reader.{with_rules, position_rule}
use Rattle.job_words.proofs.reader.with_positions.Given as goal

abbrev pub invariant-loop-entry : goal.invariant-loop-entry
invariant-loop-entry l =
    app_of l.command ≡ with_rules (app_of l.initial.command) (map (λ entry. position_rule entry.name.now) (take l.entry-index l.entries))
