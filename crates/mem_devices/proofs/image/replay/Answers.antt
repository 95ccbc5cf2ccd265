use Rattle.mem_devices.proofs.Picking.{after_calls-more}
use Rattle.mem_devices.proofs.image.replay.Goals as goal

pub loop-call-preserved : goal.loop-call-preserved
loop-call-preserved c = after_calls-more c.args.calls.now c.loop-call.call-index c.call-item.result c.args.bytes.now.items c.loop-call.bytes.items c.apply.new.bytes.items c.loop-call-test.true c.call-item.is c.loop-call.invariant c.in_ok-apply.ensures.ok
