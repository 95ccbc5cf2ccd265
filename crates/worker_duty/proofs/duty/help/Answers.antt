use Rattle.std.proofs.Common.{◌<◌, refl, sym, subst, arith}
use Rattle.chunk_object.specs.Epochs.{cursor_of}
use Rattle.steal_policy.specs.declared.proposal.Proposal.TheVariants as answer
use Rattle.worker_duty.specs.Views.{NoneOf}
use Rattle.worker_duty.proofs.Counts.{taken-proposes}
use Rattle.worker_duty.proofs.Shares.{ready_asked, help_quiet, help_admitted}
use Rattle.worker_duty.proofs.duty.help.Goals as goal

pub drain_partition-worked-requires-clause-ready : goal.drain_partition-worked-requires-clause-ready
drain_partition-worked-requires-clause-ready g c = λ e below.
    let small : c.args.partition < 64 = omega arith in
    ready_asked c.args.partition small (g.P.Phase.terms c.args.context.now) (cursor_of e c.args.partition) _ _ _ _ c.in-Admitted.ensures.proposal (c.requires.may.ready e (omega (arith, c.requires.numbers.1)))

pub drain_partition-worked-requires-clause-rests : goal.drain_partition-worked-requires-clause-rests
drain_partition-worked-requires-clause-rests g c = subst (g.P.Phase.rests c.args.context.now c.propose_help.new.desk) (sym (taken-proposes _ _ _ _ c.in-Admitted.ensures.proposal)) c.in-Admitted.ensures.at_rest

pub returns-in-Admitted-clause-piece : goal.returns-in-Admitted-clause-piece
returns-in-Admitted-clause-piece g c =
    let small : c.args.partition < 64 = omega arith in
    help_admitted c.args.partition small (g.P.Phase.terms c.args.context.now) c.args.engines _ _ _ c.drain_partition-worked.result c.in-Admitted.ensures.proposal c.requires.numbers.1 c.drain_partition-worked.ensures.few.1 c.drain_partition-worked.ensures.piece

pub returns-in-Refused-clause-piece : goal.returns-in-Refused-clause-piece
returns-in-Refused-clause-piece g c =
    let small : c.args.partition < 64 = omega arith in
    help_quiet c.args.partition small (g.P.Phase.terms c.args.context.now) _ _ (answer.Refused c.in-Refused.unread c.in-Refused.heads) (λ e. cc) refl c.in-Refused.ensures.proposal

pub returns-in-Refused-clause-rests : goal.returns-in-Refused-clause-rests
returns-in-Refused-clause-rests g c = λ is. subst (g.P.Phase.rests c.args.context.now c.propose_help.new.desk) (sym (taken-proposes _ _ _ _ c.in-Refused.ensures.proposal)) c.in-Refused.ensures.at_rest

pub returns-in-Contended-clause-piece : goal.returns-in-Contended-clause-piece
returns-in-Contended-clause-piece g c =
    let small : c.args.partition < 64 = omega arith in
    help_quiet c.args.partition small (g.P.Phase.terms c.args.context.now) _ _ (answer.Contended c.in-Contended.seen c.in-Contended.now) (λ e. cc) refl c.in-Contended.ensures.proposal

pub returns-in-Contended-clause-rests : goal.returns-in-Contended-clause-rests
returns-in-Contended-clause-rests g c = λ is. subst (g.P.Phase.rests c.args.context.now c.propose_help.new.desk) (sym (taken-proposes _ _ _ _ c.in-Contended.ensures.proposal)) c.in-Contended.ensures.at_rest

pub drain_partition-worked-requires-clause-fresh : goal.drain_partition-worked-requires-clause-fresh
drain_partition-worked-requires-clause-fresh g c = subst (NoneOf c.args.partition) (sym (taken-proposes _ _ _ _ c.in-Admitted.ensures.proposal)) c.requires.may.fresh

pub returns-in-Admitted-clause-follows : goal.returns-in-Admitted-clause-follows
returns-in-Admitted-clause-follows g c = c.requires.acts.joins _ _ _ c.in-Admitted.ensures.goes_on c.drain_partition-worked.ensures.follows
