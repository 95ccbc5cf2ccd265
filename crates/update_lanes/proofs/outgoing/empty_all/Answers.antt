use Rattle.std.proofs.Common.{◌<◌, length, rules}
use Rattle.update_lanes.proofs.Emptying.{emptying_one}
use Rattle.update_lanes.proofs.outgoing.empty_all.Goals as goal

pub buffers-preserved : goal.buffers-preserved
buffers-preserved c =
    let within : c.buffers.partition < length c.buffers.buffers.items = search rules in
    emptying_one c.buffers.partition c.args.buffers.now.items c.buffers.buffers.items c.empty.new.buffers.items within c.buffers.invariant c.empty.ensures
