-- The cause of a fault, handed on.
use Rattle.std.proofs.Common.{ℕ}
use Rattle.chunk_file.specs.declared.fault.ChunkFault.{ChunkFault}
use Rattle.chunk_file.specs.declared.fault.ChunkFault.TheVariants.{DiskFault, Damaged, Memory}
use Rattle.chunk_file.specs.Causes.{HasChunkCause}

-- a call that never answers `Memory` within one that may
pub handed_on : (rose also_rose : Type 0) (damaged also_damaged : ℕ → Type 0) → (rose → also_rose) → ((at : ℕ) → damaged at → also_damaged at) →
    (fault : ChunkFault) → HasChunkCause rose damaged ⊥ fault → HasChunkCause also_rose also_damaged (Unit {0}) fault
handed_on rose also_rose damaged also_damaged by_rise by_damage DiskFault cause = by_rise cause
handed_on rose also_rose damaged also_damaged by_rise by_damage (Damaged at) cause = by_damage at cause
handed_on rose also_rose damaged also_damaged by_rise by_damage Memory cause = tt
