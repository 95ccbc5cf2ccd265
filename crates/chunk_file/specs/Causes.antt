-- Why chunks were not read.
use Rattle.std.specs.Prelude.{ℕ}
use Rattle.chunk_file.specs.declared.fault.ChunkFault.{ChunkFault}
use Rattle.chunk_file.specs.declared.fault.ChunkFault.TheVariants.{DiskFault, Damaged, Memory}

-- what is so where each fault is answered
abbrev pub HasChunkCause : (rose : Type 0) (damaged : ℕ → Type 0) (memory : Type 0) → ChunkFault → Type 0
HasChunkCause rose damaged memory DiskFault = rose
HasChunkCause rose damaged memory (Damaged place) = damaged place
HasChunkCause rose damaged memory Memory = memory
