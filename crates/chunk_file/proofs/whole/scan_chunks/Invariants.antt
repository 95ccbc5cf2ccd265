use Rattle.std.proofs.Common.{◌≡◌, ◌-◌, ◌≤◌, drop, length}
use Rattle.std.specs.Prelude.{IfSome}
use Rattle.chunk_file.specs.declared.index.TheConstants.{MOST_PLACES}
use Rattle.chunk_file.specs.declared.whole.TheConstants.{FIRST_CHUNK}
use Rattle.chunk_file.specs.Places.{total_of}
use Rattle.chunk_file.specs.Scans.{Scanned}
use Rattle.chunk_file.proofs.whole.scan_chunks.Given as goal

abbrev pub invariant-chunks : goal.invariant-chunks
invariant-chunks g l = record {
  from : FIRST_CHUNK ≤ l.at;
  few : total_of l.into ≤ MOST_PLACES;
  later : g.D.M.Meter.faults l.initial.meter ≤ g.D.M.Meter.faults l.meter;
  calm : g.D.M.Meter.faults l.meter ≡ g.D.M.Meter.faults l.initial.meter;
  scanned : IfSome (g.D.Disk.state l.disk).bytes (λ told. Scanned l.format l.split (length l.initial.edges) l.engine told l.initial.into l.into (drop l.at told));
}

abbrev pub decreases-chunks : goal.decreases-chunks
decreases-chunks g l = l.size - l.at
