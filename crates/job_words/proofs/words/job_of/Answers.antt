use Rattle.std.proofs.Common.{map, string_bytes}
use Rattle.job_words.proofs.RangeLemmas.{answers_in_ranges}
use Rattle.job_words.proofs.words.job_of.Goals as goal

pub returns-clause-in_ranges : goal.returns-clause-in_ranges
returns-clause-in_ranges c =
    answers_in_ranges (map string_bytes c.args.words.now) c.in_ok-matches.matches c.command_by.result c.ok_or.result c.in_ok-matches.ensures.read
    c.command_by.ensures c.ok_or.ensures.value
