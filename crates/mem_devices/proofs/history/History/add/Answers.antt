use Rattle.mem_devices.proofs.Kept.{kept_replayed, kept_rising}
use Rattle.mem_devices.proofs.history.History.add.Goals as goal

pub invariant_of-self : goal.invariant_of-self
invariant_of-self c =
    let old = c.args.self.now in
    let kept = c.keep.ensures in
    record {
      replayed = kept_replayed c.keep.result old.first.items old.bytes.items c.keep.new.bytes.items old.calls.items c.keep.new.calls.items c.args.call old.replayed kept.calls kept.bytes kept.calls_stay kept.bytes_stay;
      rising = kept_rising c.keep.result old.calls.items c.keep.new.calls.items c.args.call old.rising c.requires kept.calls kept.calls_stay;
    }
