-- No event has come yet.
use Rattle.phase_core.specs.View.{IsUnused, machine_of}
use Rattle.phase_core.proofs.tests.chunks_of_edges.Given as goal

abbrev pub invariant-loop-src : goal.invariant-loop-src
invariant-loop-src g l = IsUnused (machine_of l.core)
