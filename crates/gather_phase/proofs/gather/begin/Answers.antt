use Rattle.std.proofs.Common.{refl, ◌∙◌}
use Rattle.gather_phase.specs.Phases.{Takes, IsFound, adding_of}
use Rattle.store_reader.specs.Indexed.{lens_of}
use Rattle.gather_phase.proofs.Steps.{rests_first}
use Rattle.gather_phase.proofs.Beginning.{rests_on, found_none}
use Rattle.gather_phase.proofs.gather.begin.Goals as goal

pub returns-clause-rests : goal.returns-clause-rests
returns-clause-rests g c = record {
  at = rests_on (adding_of g.P.VertexProgram.rules g.D.Disk.state c.args.context.now) c.args.context.now.serving.job.now.engines (lens_of c.args.context.now.serving.index.now) (Takes g.D.Disk.state c.args.context.now.counting c.args.context.now.serving) _ _ _ _ _ _ c.args.desk.now.seat.view c.requires.story
      (rests_first (adding_of g.P.VertexProgram.rules g.D.Disk.state c.args.context.now) c.args.context.now.serving.job.now.engines (lens_of c.args.context.now.serving.index.now) (Takes g.D.Disk.state c.args.context.now.counting c.args.context.now.serving) _ _ _ _ _ _ refl (c.reset.ensures.split ∙ c.requires.replicas) (c.reset.ensures.unit ∙ c.first_sum.ensures) c.reset.ensures.unspilled c.requires.spill.0 c.requires.spill.1);
  found = found_none (IsFound g.D.Disk.state c.args.context.now.counting c.args.context.now.serving) c.args.desk.now.seat.view c.requires.story;
  room = record { updates = c.requires.room.updates; edges = c.requires.room.edges; bytes = c.requires.room.bytes };
  done = refl;
}
