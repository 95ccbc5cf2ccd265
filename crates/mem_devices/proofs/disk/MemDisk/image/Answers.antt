use Rattle.std.proofs.Common.{arith, ◌-◌}
use Rattle.mem_devices.specs.Images.{pick_of}
use Rattle.mem_devices.proofs.Picking.{picked_during, picked_now}
use Rattle.mem_devices.proofs.disk.MemDisk.image.Goals as goal

pub returns-in_err-bytes-clause-during : goal.returns-in_err-bytes-clause-during
returns-in_err-bytes-clause-during c =
    let history = c.args.self.now.history in
    λ within. picked_during (pick_of c.args.pick) history.first.items history.calls.items (c.args.moment - 1) history.rising (omega (arith, within, c.requires.first))

pub returns-in_err-bytes-clause-after : goal.returns-in_err-bytes-clause-after
returns-in_err-bytes-clause-after c =
    let history = c.args.self.now.history in
    λ end. picked_now (pick_of c.args.pick) history.first.items history.calls.items (c.args.moment - 1) (omega (arith, end))

pub returns-clause-during : goal.returns-clause-during
returns-clause-during c =
    let history = c.args.self.now.history in
    λ within. picked_during (pick_of c.args.pick) history.first.items history.calls.items (c.args.moment - 1) history.rising (omega (arith, within, c.requires.first))

pub returns-clause-after : goal.returns-clause-after
returns-clause-after c =
    let history = c.args.self.now.history in
    λ end. picked_now (pick_of c.args.pick) history.first.items history.calls.items (c.args.moment - 1) (omega (arith, end))
