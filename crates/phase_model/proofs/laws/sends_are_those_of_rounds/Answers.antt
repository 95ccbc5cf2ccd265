use Rattle.std.proofs.Common.{Some, None, ap, ◌∙◌}
use Rattle.graph_model.specs.Rounds.{value_at, sent_to}
use Rattle.phase_model.proofs.Sent.{sent_by_senders, filter_all}
use Rattle.phase_model.proofs.laws.sends_are_those_of_rounds.Goals as goal

pub returns-clause-all : goal.returns-clause-all
returns-clause-all c = λ p now edges v. sent_by_senders p now None v edges ∙ ap (λ l. sent_to p l now v) (filter_all edges)

pub returns-clause-changed : goal.returns-clause-changed
returns-clause-changed c = λ p before now edges v. sent_by_senders p now (Some (value_at before)) v edges
