-- The duty of a worker in an epoch.
use Rattle.std.specs.Prelude.{◌≡◌, ℕ, ◌+◌, ◌*◌, ◌/◌, ◌%◌, ◌<◌, ◌≤◌, Bool, false, List, [], ◌∷◌, ◌++◌, length, sum, ◌==◌}
use Rattle.std.specs.List.{All, filter}
use Rattle.chunk_object.specs.declared.call.Call.{Call}
use Rattle.chunk_object.specs.declared.call.Call.TheVariants.{Took, Exhausted, Look, Heads, Admitted, Contended}
use Rattle.chunk_object.specs.Epochs.{cursor_of, Terms, Epoch, list_of}

-- the partition of a call; 64, which is none, where workers make no such call
abbrev pub partition_of : Call → ℕ
partition_of (Took cursor chunk) = cursor % 64
partition_of (Exhausted cursor) = cursor % 64
partition_of (Look cursor left) = cursor % 64
partition_of (Heads partition heads) = partition
partition_of (Admitted partition heads) = partition
partition_of (Contended partition heads found) = partition
partition_of _ = 64

abbrev pub is_on : ℕ → Call → Bool
is_on partition call = partition_of call == partition

-- a claim at the cursor
abbrev pub claims_at : ℕ → Call → Bool
claims_at cursor (Took claimed chunk) = claimed == cursor
claims_at cursor (Exhausted claimed) = claimed == cursor
claims_at cursor _ = false

-- a claim on one of so many engines
abbrev pub IsClaim : ℕ → Call → Type 0
IsClaim engines (Took cursor chunk) = cursor / 64 < engines
IsClaim engines (Exhausted cursor) = cursor / 64 < engines
IsClaim engines _ = ⊥

-- chunks are taken, and the last claim, and no other, is told that none is left
abbrev pub EndsExhausted : List Call → Type 0
EndsExhausted (Took cursor chunk ∷ calls) = EndsExhausted calls
EndsExhausted (Exhausted cursor ∷ []) = Unit {0}
EndsExhausted _ = ⊥

-- claims alone, on each engine until none is left
pub record ClaimsToTheEnd (engines partition : ℕ) (calls : List Call) : Type 0 where
  pub claims : All (IsClaim engines) calls
  pub each : (engine : ℕ) → engine < engines → EndsExhausted (filter (claims_at (cursor_of engine partition)) calls)

-- Help pays. The vertices have so many bytes, so many bytes are unread, and so many workers are at them; a tie is refused
abbrev pub Accepts : (set_bytes unread heads alpha : ℕ) → Type 0
Accepts set_bytes unread heads alpha = 100 * (set_bytes * heads * (heads + 1) + unread * heads) < alpha * unread * (heads + 1)

-- one look at each engine from this one on, which found so many chunks left
abbrev pub looks_from : (partition engine : ℕ) → List ℕ → List Call
looks_from partition engine [] = []
looks_from partition engine (left ∷ rest) = Look (cursor_of engine partition) left ∷ looks_from partition (engine + 1) rest

-- what follows on the helper count: an admit exactly where help pays, and claims to the end exactly where it succeeds
abbrev pub FollowsHeads : Terms → (partition unread heads : ℕ) → List Call → Type 0
FollowsHeads terms partition unread heads [] = Accepts (terms.set_bytes partition) unread heads terms.alpha → ⊥
FollowsHeads terms partition unread heads (Admitted asked count ∷ calls) =
    Accepts (terms.set_bytes partition) unread heads terms.alpha × (asked ≡ partition) × (count ≡ heads) × ClaimsToTheEnd terms.engines partition calls
FollowsHeads terms partition unread heads (Contended asked count found ∷ []) = Accepts (terms.set_bytes partition) unread heads terms.alpha × (asked ≡ partition) × (count ≡ heads)
FollowsHeads terms partition unread heads _ = ⊥

-- one proposal of help at the partition, with the claims of a helper: each engine is looked at once, in order, and then the helper count is read
pub record Helps (terms : Terms) (partition : ℕ) (calls : List Call) : Type 0 where
  pub looks : List ℕ
  pub heads : ℕ
  pub rest : List Call
  pub each : length looks ≡ terms.engines
  pub bounds : (1 ≤ heads) × (heads ≤ 7)
  pub is : calls ≡ looks_from partition 0 looks ++ Heads partition heads ∷ rest
  pub follows : FollowsHeads terms partition (sum looks * terms.chunk_bytes) heads rest

abbrev pub IsMaster : Terms → (worker partition : ℕ) → Type 0
IsMaster terms worker partition = partition % terms.engines ≡ worker

-- The list of a worker meets the duty: first its own partitions, each to the end, and then one proposal to each other partition, and nothing else
pub record IsDutiful (terms : Terms) (worker : ℕ) (calls : List Call) : Type 0 where
  pub own : List Call
  pub others : List Call
  pub is : calls ≡ own ++ others
  pub on_own : All (λ call. (partition_of call < terms.partitions) × IsMaster terms worker (partition_of call)) own
  pub on_others : All (λ call. (partition_of call < terms.partitions) × (IsMaster terms worker (partition_of call) → ⊥)) others
  pub master : (partition : ℕ) → partition < terms.partitions → IsMaster terms worker partition → ClaimsToTheEnd terms.engines partition (filter (is_on partition) calls)
  pub helper : (partition : ℕ) → partition < terms.partitions → (IsMaster terms worker partition → ⊥) → Helps terms partition (filter (is_on partition) calls)

-- the list can be gone on with to one that meets the duty
abbrev pub BeginsDutiful : Terms → ℕ → List Call → Type 0
BeginsDutiful terms worker calls = (rest : List Call) × IsDutiful terms worker (calls ++ rest)

-- each worker's list meets the duty
pub record MeetsDuty (terms : Terms) (epoch : Epoch) : Type 0 where
  pub workers : length epoch.lists ≡ terms.engines
  pub each : (worker : ℕ) → worker < terms.engines → IsDutiful terms worker (list_of epoch worker)
