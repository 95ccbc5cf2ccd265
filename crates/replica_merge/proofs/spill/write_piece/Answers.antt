-- One write at the end.
use Rattle.std.proofs.Common.{ℕ, List, subst}
use Rattle.ports.specs.Disk.{DiskState, Writes}
use Rattle.replica_merge.specs.Numbers.{bytes_of_numbers}
use Rattle.replica_merge.proofs.AppendLemmas.{appended_by_one}
use Rattle.replica_merge.proofs.spill.write_piece.Goals as goal

pub returns : goal.returns
returns g c =
    let disks = g.met.D.Disk g.world.𝓛 g.world.𝓜 g.world.𝓡 ((λ s x. x), (λ x. x), (λ x. x), λ x. x) in
    let old : DiskState = g.D.Disk.state c.args.disk.now in
    let new : DiskState = g.D.Disk.state c.write_at.new.self in
    let there : Writes c.args.beat.now old.size c.put_numbers.new.bytes old new c.write_at.result =
    subst (λ (at : ℕ). Writes c.args.beat.now at c.put_numbers.new.bytes old new c.write_at.result) c.size-end.ensures c.write_at.ensures in
    appended_by_one c.args.beat.now (bytes_of_numbers c.args.numbers.now) old new c.write_at.result (disks.lawful c.args.disk.now)
    (subst (λ (piece : List ℕ). Writes c.args.beat.now old.size piece old new c.write_at.result) c.put_numbers.ensures there)
