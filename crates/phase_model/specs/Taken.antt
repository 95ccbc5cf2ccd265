-- The chunks that calls took, and the records in them.
use Rattle.std.specs.Prelude.{ℕ, Bool, true, false, List, [], ◌∷◌, length, count_by}
use Rattle.std.specs.List.{flat_map}
use Rattle.chunk_object.specs.declared.call.Call.{Call}
use Rattle.chunk_object.specs.declared.call.Call.TheVariants.{Open, Greet, Took, Exhausted, Look, Heads, Admitted, Contended, Split, Join}

-- the chunk that a call took, by its cursor and its place there, counted from 0
abbrev pub taken_in : Call → List (ℕ × ℕ)
taken_in (Open cursor len) = []
taken_in (Greet partition) = []
taken_in (Took cursor chunk) = (cursor, chunk) ∷ []
taken_in (Exhausted cursor) = []
taken_in (Look cursor left) = []
taken_in (Heads partition heads) = []
taken_in (Admitted partition heads) = []
taken_in (Contended partition heads found) = []
taken_in (Split serial worker) = []
taken_in (Join serial worker) = []

-- the chunks that the calls took, in order
abbrev pub taken : List Call → List (ℕ × ℕ)
taken = flat_map taken_in

-- the records of these chunks, in order, where `records` has the records of each chunk
abbrev pub records_of : {X : Type 0} → (ℕ → ℕ → List X) → List (ℕ × ℕ) → List X
records_of records = flat_map (λ chunk. records chunk.0 chunk.1)

-- the records that the calls took
abbrev pub records_taken : {X : Type 0} → (ℕ → ℕ → List X) → List Call → List X
records_taken records calls = records_of records (taken calls)

-- how many chunks were taken
abbrev pub claims : List Call → ℕ
claims calls = length (taken calls)

abbrev pub is_admission : Call → Bool
is_admission (Open cursor len) = false
is_admission (Greet partition) = false
is_admission (Took cursor chunk) = false
is_admission (Exhausted cursor) = false
is_admission (Look cursor left) = false
is_admission (Heads partition heads) = false
is_admission (Admitted partition heads) = true
is_admission (Contended partition heads found) = false
is_admission (Split serial worker) = false
is_admission (Join serial worker) = false

-- how often help was admitted
abbrev pub admissions : List Call → ℕ
admissions = count_by is_admission
