use Rattle.std.proofs.Common.{ap}
use Rattle.seeded_place.specs.Placing.{Placing}
use Rattle.update_lanes.proofs.outgoing.reset.Goals as goal

pub returns-clause-room : goal.returns-clause-room
returns-clause-room c = record {
  split = c.requires.split;
  size = c.requires.size;
  many = c.empty_all.ensures.many;
  rooms = c.empty_all.ensures.rooms c.args.out.now.size c.requires.rooms;
  bytes = c.requires.bytes;
  engines = ap (λ (p : Placing). p.engines) c.new-out.ensures;
}
