use Rattle.std.proofs.Common.{rules, IsTrue}
use Rattle.restart.proofs.Closing.{closes_open}
use Rattle.restart.proofs.dropping.close_gate.Goals as goal

pub returns-in_err-write_synced-clause-closes : goal.returns-in_err-write_synced-clause-closes
returns-in_err-write_synced-clause-closes g c =
    let disks = g.met.D.Disk g.world.𝓛 g.world.𝓜 g.world.𝓡 ((λ s x. x), (λ x. x), (λ x. x), λ x. x) in
    let sync = c.sync.ensures in
    let write = c.write_synced.ensures in
    let gate : IsTrue c.in_ok-is_open.field-0 = search rules in
    closes_open c.args.beat.now (g.D.Disk.state c.args.disk.now) (g.D.Disk.state c.sync.new.self) (g.D.Disk.state c.write_synced.new.disk)
    (disks.lawful c.args.disk.now) sync.changes c.in_ok-sync.ensures.settled sync.size sync.cause.later (c.in_ok-is_open.ensures.open gate)
    write.any_moment write.bytes write.no_shorter write.no_longer write.beat write.cause.later

pub returns-in_ok-write_synced-clause-closes : goal.returns-in_ok-write_synced-clause-closes
returns-in_ok-write_synced-clause-closes g c =
    let disks = g.met.D.Disk g.world.𝓛 g.world.𝓜 g.world.𝓡 ((λ s x. x), (λ x. x), (λ x. x), λ x. x) in
    let sync = c.sync.ensures in
    let write = c.write_synced.ensures in
    let gate : IsTrue c.in_ok-is_open.field-0 = search rules in
    closes_open c.args.beat.now (g.D.Disk.state c.args.disk.now) (g.D.Disk.state c.sync.new.self) (g.D.Disk.state c.write_synced.new.disk)
    (disks.lawful c.args.disk.now) sync.changes c.in_ok-sync.ensures.settled sync.size sync.cause.later (c.in_ok-is_open.ensures.open gate)
    write.any_moment write.bytes write.no_shorter write.no_longer write.beat write.cause.later
