-- The name of each command that the code has.
use Rattle.job_words.specs.declared.tables.CommandName.{CommandName}
use Rattle.job_words.specs.declared.tables.CommandName.TheVariants as command
use Rattle.job_words.specs.Tables.{Text, run, bench, resume, drop}

abbrev pub name_of : CommandName → Text
name_of command.Run = run
name_of command.Bench = bench
name_of command.Resume = resume
name_of command.Discard = drop
