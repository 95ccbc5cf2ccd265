use Rattle.std.proofs.Common.{◌≡◌, ◌*◌, ◌^◌, ◌≤◌, Some, map}
use Rattle.checkpoint.specs.Applied.{sums_in}
use Rattle.checkpoint.proofs.Partwise.{SoFar}
use Rattle.checkpoint.proofs.apply.write_partitions.Given as goal

abbrev pub invariant-loop-partition : goal.invariant-loop-partition
invariant-loop-partition g l = record {
  so_far : SoFar (g.P.VertexProgram.rules l.context.program.now) l.context.split.now l.context.round l.slot l.context.beat.now
      (sums_in (g.P.VertexProgram.rules l.context.program.now) l.context.split.now l.context.replicas.now)
      (λ devices. map (λ d. (g.D.Disk.state d).bytes) l.context.spills.now ≡ map (λ device. Some device) devices)
      (g.D.Disk.state l.fn.disk) l.engine l.partition l.changed (g.D.Disk.state l.disk);
  few : l.changed ≤ l.partition * 2 ^ 32;
  beat : (g.D.Disk.state l.disk).beat ≤ l.context.beat.now;
  faults : (g.D.Disk.state l.fn.disk).faults ≤ (g.D.Disk.state l.disk).faults;
  reads : g.D.M.Meter.faults l.fn.meter ≤ g.D.M.Meter.faults l.meter;
  calm : ((g.D.Disk.state l.disk).faults ≡ (g.D.Disk.state l.fn.disk).faults) × (g.D.M.Meter.faults l.meter ≡ g.D.M.Meter.faults l.fn.meter);
}
