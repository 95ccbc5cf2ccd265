-- Engine by engine.
use Rattle.std.proofs.Common.{arith}
use Rattle.round_loop.specs.declared.run.Start.TheVariants.{Fresh}
use Rattle.store_rounds.proofs.Starting.{kept_after, kept_from_found}
use Rattle.store_rounds.proofs.rounds.stands_is_kept.Goals as goal

pub returns-clause-read : goal.returns-clause-read
returns-clause-read g c job edges start round old new stands e d below = (stands e d below).read

pub returns-clause-fresh : goal.returns-clause-fresh
returns-clause-fresh g c job edges round old new stands = kept_after g.D.Disk.state job edges Fresh round old new (λ e d below before. absurd (omega arith)) stands

pub returns-clause-found : goal.returns-clause-found
returns-clause-found g c job edges found changed round old new kept from stands = kept_from_found g.D.Disk.state job edges found changed round old new kept from stands
