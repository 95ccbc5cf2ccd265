use Rattle.std.proofs.Common.{inl, rules, refl, arith}
use Rattle.std.proofs.iter.Serving.{serving}
use Rattle.update_lanes.proofs.GoingOn.{stays}
use Rattle.scatter_phase.proofs.Steps.{goes_on_then}
use Rattle.scatter_phase.proofs.scatter.work_through.Goals as goal

pub work-requires-clause-acts : goal.work-requires-clause-acts
work-requires-clause-acts g c = record {
  may_serve = λ p e k may. (c.requires.serving, (c.requires.values, (c.requires.slots, (may, grind serving))));
  serves = λ p q e k r may post. search rules;
  may_propose = λ p k may. (c.requires.serving, (may, grind serving));
  proposes = λ p q k r may post. search rules;
  may_leave = λ p k may. (may, grind serving);
  leaves = λ p q k r may post. search rules;
  stays = λ desk. record { worker = refl; room = λ job is. is; reads = omega arith; lanes = stays g.D.Disk.state c.args.context.now.beat.now desk.lanes.items; caused = λ is. inl is; calm = λ is. (is, refl, refl) };
  joins = λ a b d x y. goes_on_then g.D.Disk.state g.D.M.Meter.faults c.args.context.now.beat.now a b d x y;
  enters = λ desk k chunks below rests none. rests;
}
