use Rattle.rmat_source.proofs.MadeLines.{made_text_not_refused}
use Rattle.rmat_source.proofs.laws.made_text_is_well_formed.Goals as goal

pub returns : goal.returns
returns c vertices limit scale edges rng line fits is = made_text_not_refused vertices limit scale edges rng line fits is
