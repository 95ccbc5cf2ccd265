use Rattle.mem_devices.proofs.Picking.{taken_each-more}
use Rattle.mem_devices.proofs.image.take_each.Goals as goal

pub loop-call-preserved : goal.loop-call-preserved
loop-call-preserved c = taken_each-more c.args.pick c.args.calls.now c.loop-call.call-index c.call-item.result c.args.bytes.now.items c.loop-call.bytes.items c.take.new.bytes.items c.loop-call-test.true c.call-item.is c.loop-call.invariant c.in_ok-take.ensures
