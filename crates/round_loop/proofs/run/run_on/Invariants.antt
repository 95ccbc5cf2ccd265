use Rattle.std.proofs.Common.{◌≡◌, ◌-◌, ◌≤◌, vec_capacity}
use Rattle.round_loop.specs.Keeping.{Moment, moment}
use Rattle.round_loop.specs.Coming.{IsAt, bound}
use Rattle.round_steps.specs.Crews.{AreCrews}
use Rattle.round_loop.proofs.run.run_on.Given as goal

-- the run has come so far from wherever it began
abbrev pub invariant-rounds : goal.invariant-rounds
invariant-rounds g l = record {
  at : (from : Moment g.row.D.Denot g.row.D-M.Denot)
      → IsAt g.D.Disk.state g.D.M.Meter.faults (g.P.VertexProgram.rules l.fn.run.program.now) l.fn.run.job.now l.fn.start l.fn.run.index.now l.fn.begun from (moment l.fn.store l.fn.meters.items l.fn.seat.view l.fn.beat)
      → IsAt g.D.Disk.state g.D.M.Meter.faults (g.P.VertexProgram.rules l.fn.run.program.now) l.fn.run.job.now l.fn.start l.fn.run.index.now l.so_far from (moment l.store l.meters.items l.seat.view l.beat);
  crews : AreCrews l.fn.run.job.now l.fn.run.split.now l.crews;
  table : l.seat.table ≡ l.fn.seat.table;
  room : vec_capacity l.fn.meters ≤ vec_capacity l.meters;
}

abbrev pub decreases-rounds : goal.decreases-rounds
decreases-rounds g l = bound l.rounds l.fn.run.job.now.limit - l.so_far.round
