use Rattle.std.proofs.Common.{◌≡◌, ◌≤◌, ℕ, List}
use Rattle.chunk_file.specs.declared.index.TheConstants.{MOST_PLACES}
use Rattle.chunk_file.specs.Places.{total_of}
use Rattle.store_checks.specs.Causes.{Tell}
use Rattle.store_checks.proofs.Indexed.{ScannedBelow}
use Rattle.store_checks.proofs.indexing.index_graphs.Given as goal

abbrev pub invariant-loop-e : goal.invariant-loop-e
invariant-loop-e g l = record {
  few : total_of l.index ≤ MOST_PLACES;
  scanned : (told : List (List ℕ)) → Tell g.D.Disk.state l.graphs told → ScannedBelow l.job l.split told l.e l.index;
  later : g.D.M.Meter.faults l.fn.meter ≤ g.D.M.Meter.faults l.meter;
  calm : g.D.M.Meter.faults l.meter ≡ g.D.M.Meter.faults l.fn.meter;
}
