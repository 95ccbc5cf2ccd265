-- Lanes that are emptied.
use Rattle.std.proofs.Common.{◌≡◌, ℕ, Option, Some, None, List, [], length, arith}
use Rattle.std.proofs.lemmas.List.{nil_from_length}
use Rattle.std.specs.Prelude.{IfSome}
use Rattle.ports.specs.Disk.{DiskState, IsDisk}
use Rattle.update_lanes.specs.Lanes.{HasChunks}

-- a lane without a byte has no chunk
pub has_none : (lane : DiskState) → IsDisk lane → lane.size ≡ 0 → HasChunks [] lane
has_none lane law none = record { size_is = none; bytes_are = told lane.bytes law.sized }
  where
    told : (bytes : Option (List ℕ)) → IfSome bytes (λ bytes. lane.size ≡ length bytes) → IfSome bytes (λ told. told ≡ [])
    told (Some bytes) sized = nil_from_length bytes (omega (arith, sized, none))
    told None sized = tt
