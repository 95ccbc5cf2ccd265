use Rattle.std.proofs.Common.{◌<◌, length, arith}
use Rattle.store_reader.specs.Reading.{own_in}
use Rattle.store_checks.proofs.kept.kept_round.Goals as goal

pub returns-clause-kept : goal.returns-clause-kept
returns-clause-kept g c = λ told tell.
    let some : 0 < length told = omega (arith, tell.many, c.requires.many, c.requires.split.engines) in
    c.greater.ensures.kept (own_in c.args.split.now) told some (c.in-Ok.ensures.finds told tell) (c.in-Ok-round_in_slot.ensures.finds told tell)
