-- The calls that answers stand for.
use Rattle.std.specs.Prelude.{◌≢◌, ℕ, ◌≤◌}
use Rattle.chunk_object.specs.declared.call.Call.{Call}
use Rattle.chunk_object.specs.declared.call.Call.TheVariants.{Took, Exhausted, Admitted, Contended}
use Rattle.chunk_cursor.specs.declared.table.Claim.{Claim}
use Rattle.chunk_cursor.specs.declared.table.Claim.TheVariants as claimed
use Rattle.chunk_cursor.specs.declared.table.Admit.{Admit}
use Rattle.chunk_cursor.specs.declared.table.Admit.TheVariants as tried
use Rattle.chunk_cursor.specs.declared.view.View.{View}
use Rattle.chunk_cursor.specs.View.{MayTake}

-- the call of a claim that was answered so
abbrev pub claim_of : ℕ → Claim → Call
claim_of cursor (claimed.Took chunk) = Took cursor chunk
claim_of cursor claimed.Exhausted = Exhausted cursor

-- the chunk that was given is one that the seat may be given
abbrev pub IsGiven : View → ℕ → Claim → Type 0
IsGiven v cursor (claimed.Took chunk) = MayTake v cursor chunk
IsGiven v cursor claimed.Exhausted = Unit {0}

-- the call of an admit that was answered so
abbrev pub admit_of : (partition heads : ℕ) → Admit → Call
admit_of partition heads tried.Admitted = Admitted partition heads
admit_of partition heads (tried.Contended found) = Contended partition heads found

-- the count that an admit found, where it was not the one that it asked for
abbrev pub IsOther : ℕ → Admit → Type 0
IsOther heads tried.Admitted = Unit {0}
IsOther heads (tried.Contended found) = (found ≢ heads) × (1 ≤ found) × (found ≤ 7)
