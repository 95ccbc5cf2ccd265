-- The history is cut behind the last greeting, and the workers' entries behind it are kept.
use Rattle.epoch_laws.proofs.Stories.{object, epoch_history, of_workers, back}
use Rattle.epoch_laws.proofs.laws.epoch_has_history.Goals as goal

pub returns : goal.returns
returns c story stands terms some_engine few_engines some_part few past before epoch is duty = (
  object story stands terms some_engine few_engines some_part few past before epoch is duty,
  (of_workers (back stands.history), epoch_history story stands terms some_engine few_engines some_part few past before epoch is duty),
)
