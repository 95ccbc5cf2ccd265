use Rattle.store_edges.proofs.Found.{found_stand}
use Rattle.store_edges.proofs.laws.found_chunks_stand.Goals as goal

pub returns : goal.returns
returns g c job well split of_job graphs values index opened devices tell = found_stand job well split of_job graphs values index opened g.D.Disk.state devices tell
