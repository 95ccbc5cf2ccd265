use Rattle.std.proofs.Common.{length}
use Rattle.ports.specs.Bytes.{Torn}
use Rattle.ports.specs.Disk.{IsDisk}
use Rattle.ports.proofs.Parts.{torn_same}
use Rattle.ports.proofs.Stops.{in_part}
use Rattle.ports.proofs.synced.write_synced.Goals as goal

pub returns-in_err-write_at-clause-any_moment : goal.returns-in_err-write_at-clause-any_moment
returns-in_err-write_at-clause-any_moment g c =
    let disks = g.met.D.Disk g.world.𝓛 g.world.𝓜 g.world.𝓡 ((λ s x. x), (λ x. x), (λ x. x), λ x. x) in
    let law : IsDisk (g.D.Disk.state c.args.disk.now) = disks.lawful c.args.disk.now in
    in_part _ _ _ (Torn c.args.at (length c.args.piece.now)) law (torn_same c.args.at (length c.args.piece.now)) c.in_err-write_at.ensures.changes
