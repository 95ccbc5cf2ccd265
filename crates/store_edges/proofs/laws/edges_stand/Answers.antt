use Rattle.store_edges.proofs.Standing.{has_edges}
use Rattle.store_edges.proofs.laws.edges_stand.Goals as goal

pub returns : goal.returns
returns g c job edges storable split of_job index has graphs many tell = has_edges g.D.Disk.state job edges graphs many tell storable split of_job index has
