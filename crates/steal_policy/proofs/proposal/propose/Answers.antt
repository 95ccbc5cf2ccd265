use Rattle.std.proofs.Common.{[], ◌∷◌, refl, sym, ◌∙◌}
use Rattle.std.proofs.lemmas.Bool.{false≢true}
use Rattle.chunk_object.specs.declared.call.Call.TheVariants.{Admitted, Contended}
use Rattle.chunk_cursor.proofs.Knowing.{with_calls-none}
use Rattle.steal_policy.proofs.Looking.{proposed}
use Rattle.steal_policy.proofs.proposal.propose.Goals as goal

pub returns-then-not-accepts-clause-proposal : goal.returns-then-not-accepts-clause-proposal
returns-then-not-accepts-clause-proposal c =
    proposed _ _ _ _ _ _ _ [] _ c.chunks_left-left.ensures.looks c.heads-heads.ensures.call (c.heads-heads.ensures.helpers c.chunks_left-left.ensures.looks.may) (sym (with_calls-none _))
    ((λ pays. false≢true (sym c.if-not-accepts.true ∙ c.accepts.ensures.1 pays)), refl, refl, refl)

pub returns-in-Admitted-clause-proposal : goal.returns-in-Admitted-clause-proposal
returns-in-Admitted-clause-proposal c =
    proposed _ _ _ _ _ _ _ (Admitted c.args.ask.now.partition c.heads-heads.result ∷ []) _ c.chunks_left-left.ensures.looks c.heads-heads.ensures.call (c.heads-heads.ensures.helpers c.chunks_left-left.ensures.looks.may) c.in-Admitted.ensures.call
    (c.accepts.ensures.0 c.if-not-accepts.false, refl)

pub returns-in-Contended-clause-proposal : goal.returns-in-Contended-clause-proposal
returns-in-Contended-clause-proposal c =
    proposed _ _ _ _ _ _ _ (Contended c.args.ask.now.partition c.heads-heads.result c.in-Contended.now ∷ []) _ c.chunks_left-left.ensures.looks c.heads-heads.ensures.call (c.heads-heads.ensures.helpers c.chunks_left-left.ensures.looks.may) c.in-Contended.ensures.call
    (c.accepts.ensures.0 c.if-not-accepts.false, refl, c.in-Contended.ensures.other.0, refl)
