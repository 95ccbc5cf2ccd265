-- By the beat of the stop.
use Rattle.std.proofs.Common.{ℕ, List, Option, subst, arith}
use Rattle.store_rounds.specs.Making.{LeaveMade}
use Rattle.store_rounds.proofs.Places.{stop_of_each}
use Rattle.store_rounds.proofs.Beginning.{making_at_stop, running_at_stop, whole_at_stop}
use Rattle.store_rounds.proofs.made.made_is_of_a_store.Goals as goal

pub returns-clause-making : goal.returns-clause-making
returns-clause-making g c job source text number now b graphs graphs_made values made stopped_graphs stopped told many_graphs many_values shut leave within stop_graphs stop =
    making_at_stop g.D.Disk.state job text number now b graphs graphs_made values made stopped_graphs stopped many_graphs many_values
    (subst (λ (read : Option (List ℕ)). LeaveMade g.D.Disk.state job read number now graphs graphs_made values made) told leave)
    (stop_of_each g.D.Disk.state b graphs graphs_made stopped_graphs stop_graphs) shut within (stop_of_each g.D.Disk.state b values made stopped stop)

pub returns-clause-running : goal.returns-clause-running
returns-clause-running g c job source text number now last b graphs graphs_made values made new stopped_graphs stopped told many_graphs many_values shut leave is rounds end within stop_graphs stop =
    running_at_stop g.D.Disk.state job text number now b graphs graphs_made values made stopped_graphs stopped many_graphs many_values
    (subst (λ (read : Option (List ℕ)). LeaveMade g.D.Disk.state job read number now graphs graphs_made values made) told leave)
    (stop_of_each g.D.Disk.state b graphs graphs_made stopped_graphs stop_graphs)
    (λ d. (g.met.D.Disk g.world.𝓛 g.world.𝓜 g.world.𝓡 ((λ s x. x), (λ x. x), (λ x. x), λ x. x)).lawful d)
    last new is rounds (omega (arith, end, within)) (stop_of_each g.D.Disk.state b values new stopped stop) shut within

pub returns-clause-later : goal.returns-clause-later
returns-clause-later g c job source text number now last b graphs graphs_made values made new stopped_graphs stopped told many_graphs many_values leave is rounds end after stop_graphs stop =
    whole_at_stop g.D.Disk.state job text number now b graphs graphs_made values made stopped_graphs stopped many_graphs many_values
    (subst (λ (read : Option (List ℕ)). LeaveMade g.D.Disk.state job read number now graphs graphs_made values made) told leave)
    (stop_of_each g.D.Disk.state b graphs graphs_made stopped_graphs stop_graphs)
    (λ d. (g.met.D.Disk g.world.𝓛 g.world.𝓜 g.world.𝓡 ((λ s x. x), (λ x. x), (λ x. x), λ x. x)).lawful d)
    last new is rounds end (stop_of_each g.D.Disk.state b values new stopped stop) after
