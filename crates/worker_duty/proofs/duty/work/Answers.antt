use Rattle.std.proofs.lemmas.Bool.{not-true, not-false}
use Rattle.worker_duty.proofs.Duties.{own_stopped, all_worked}
use Rattle.worker_duty.proofs.duty.work.Goals as goal

pub returns-then-not-own-clause-worked : goal.returns-then-not-own-clause-worked
returns-then-not-own-clause-worked g c = own_stopped (g.P.Phase.terms c.args.context.now) c.requires.few.partitions c.args.share.worker c.args.share.partitions c.requires.numbers.2 _ _ c.own_partitions-own.result (not-true c.own_partitions-own.result.is_through c.if-not-own.true) c.own_partitions-own.ensures.piece

pub returns-clause-worked : goal.returns-clause-worked
returns-clause-worked g c =
    all_worked (g.P.Phase.terms c.args.context.now) c.requires.few.partitions c.args.share.worker c.args.share.partitions c.requires.numbers.2 _ _ _ c.own_partitions-own.result c.other_partitions-others.result (not-false c.own_partitions-own.result.is_through c.if-not-own.false) c.own_partitions-own.ensures.few.1 c.own_partitions-own.ensures.piece c.other_partitions-others.ensures.piece

pub returns-clause-follows : goal.returns-clause-follows
returns-clause-follows g c = c.requires.acts.joins _ _ _ c.own_partitions-own.ensures.follows c.other_partitions-others.ensures.follows
