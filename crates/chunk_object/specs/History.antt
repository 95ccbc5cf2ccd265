-- Histories: calls with their callers, in one order.
use Rattle.std.specs.Prelude.{◌≡◌, ◌≢◌, ℕ, zero, suc, ◌+◌, ◌/◌, ◌%◌, ◌<◌, ◌≤◌, Bool, true, false, ◌&&◌, ◌||◌, List, [], ◌∷◌, ◌++◌, ◌==◌, nat_lt, if◌then◌else◌}
use Rattle.std.specs.List.{All, filter}
use Rattle.chunk_object.specs.declared.call.Call.{Call}
use Rattle.chunk_object.specs.declared.call.Call.TheVariants.{Open, Greet, Took, Exhausted, Admitted, Split, Join}
use Rattle.chunk_object.specs.declared.call.Entry.{Entry}
use Rattle.chunk_object.specs.Object.{ChunkObject, unopened, put_at, Answers, after}

module _ {S E : Type 0} (next : S → E → S) where
  -- the state in which a run ends that begins at this one
  abbrev pub final : S → List E → S
  final s [] = s
  final s (e ∷ es) = final (next s e) es

  -- each step of the run is right where it stands
  abbrev pub EachStep : (S → E → Type 0) → S → List E → Type 0
  EachStep ok s [] = Unit {0}
  EachStep ok s (e ∷ es) = ok s e × EachStep ok (next s e) es

abbrev pub object_step : ChunkObject → Entry → ChunkObject
object_step o e = after o e.call

abbrev pub IsAnswered : ChunkObject → Entry → Type 0
IsAnswered o e = Answers o e.call

-- each reply is the object's at that point
abbrev pub IsLegal : List Entry → Type 0
IsLegal = EachStep object_step IsAnswered unopened

-- the chunk object after the history
abbrev pub object_after : List Entry → ChunkObject
object_after = final object_step unopened

-- a caller is not split off yet, or may call, or was joined
pub data Stage : Type 0 where
  unborn : Stage
  living : Stage
  gone : Stage

abbrev pub Turns : (ℕ → Stage) → Call → Type 0
Turns stage (Split serial worker) = stage serial ≡ unborn
Turns stage (Join serial worker) = stage serial ≡ living
Turns stage _ = Unit {0}

abbrev pub stage_after : (ℕ → Stage) → Call → ℕ → Stage
stage_after stage (Split serial worker) = put_at serial living stage
stage_after stage (Join serial worker) = put_at serial gone stage
stage_after stage _ = stage

abbrev pub stage_step : (ℕ → Stage) → Entry → ℕ → Stage
stage_step stage e = stage_after stage e.call

-- a caller that was split off calls only while it lives
abbrev pub MayStand : (ℕ → Stage) → Entry → Type 0
MayStand stage e = (e.serial ≢ 0 → stage e.serial ≡ living) × Turns stage e.call

-- all calls of a caller that was split off stand behind its split, and before its join
abbrev pub IsOrdered : List Entry → Type 0
IsOrdered = EachStep stage_step MayStand (λ serial. unborn)

abbrev pub stages : List Entry → ℕ → Stage
stages = final stage_step (λ serial. unborn)

-- the calls of one caller
abbrev pub entries_of : ℕ → List Entry → List Entry
entries_of serial = filter (λ e. e.serial == serial)

-- whether the call opens or greets
abbrev pub sets_word : Call → Bool
sets_word (Open cursor len) = true
sets_word (Greet partition) = true
sets_word _ = false

-- a worker is below 8, and the first caller goes by 8, which alone opens and greets
abbrev pub IsCaller : Entry → Type 0
IsCaller e = (e.worker ≤ 8) × (sets_word e.call ≡ true → e.serial ≡ 0)

-- what bears on a worker: all that opens or greets, and its own calls
abbrev pub bears_on : ℕ → Entry → Bool
bears_on worker e = sets_word e.call || e.worker == worker

abbrev pub count_step : (starts hits : Entry → Bool) → ℕ → Entry → ℕ
count_step starts hits k e = (if starts e then 0 else (if hits e then suc k else k))

-- the number of hits since the last start, where k came before the list
abbrev pub count_from : (starts hits : Entry → Bool) → ℕ → List Entry → ℕ
count_from starts hits = final (count_step starts hits)

abbrev pub count_since : (starts hits : Entry → Bool) → List Entry → ℕ
count_since starts hits = count_from starts hits 0

abbrev pub opens : ℕ → Call → Bool
opens cursor (Open opened len) = opened == cursor
opens cursor _ = false

abbrev pub exhausts : ℕ → Call → Bool
exhausts cursor (Exhausted claimed) = claimed == cursor
exhausts cursor _ = false

-- how often a claim at the cursor was told Exhausted since it was last opened
abbrev pub refusals : ℕ → List Entry → ℕ
refusals cursor = count_since (λ e. opens cursor e.call) (λ e. exhausts cursor e.call)

-- how often a claim for this worker was
abbrev pub refusals_of : (worker cursor : ℕ) → List Entry → ℕ
refusals_of worker cursor = count_since (λ e. opens cursor e.call) (λ e. exhausts cursor e.call && e.worker == worker)

abbrev pub greets : ℕ → Call → Bool
greets partition (Greet greeted) = greeted == partition
greets partition _ = false

abbrev pub admits : ℕ → Call → Bool
admits partition (Admitted admitted heads) = admitted == partition
admits partition _ = false

-- how often this worker was admitted at the partition since it was last greeted
abbrev pub admissions_of : (worker partition : ℕ) → List Entry → ℕ
admissions_of worker partition = count_since (λ e. greets partition e.call) (λ e. admits partition e.call && e.worker == worker)

abbrev pub takes : (cursor chunk : ℕ) → Call → Bool
takes cursor chunk (Took claimed given) = claimed == cursor && given == chunk
takes cursor chunk _ = false

-- how often the chunk was taken since its cursor was last opened
abbrev pub times_taken : (cursor chunk : ℕ) → List Entry → ℕ
times_taken cursor chunk = count_since (λ e. opens cursor e.call) (λ e. takes cursor chunk e.call)

abbrev pub takes_any : ℕ → Call → Bool
takes_any cursor (Took claimed chunk) = claimed == cursor
takes_any cursor _ = false

-- how many chunks of the cursor were given to this worker since it was last opened
abbrev pub taken_by : (worker cursor : ℕ) → List Entry → ℕ
taken_by worker cursor = count_since (λ e. opens cursor e.call) (λ e. takes_any cursor e.call && e.worker == worker)

abbrev pub len_after : (cursor before : ℕ) → Call → ℕ
len_after cursor before (Open opened len) = (if opened == cursor then len else before)
len_after cursor before _ = before

-- with how many chunks the cursor was last opened, where `before` came before the list
abbrev pub opened_from : (cursor before : ℕ) → List Entry → ℕ
opened_from cursor = final (λ len e. len_after cursor len e.call)

abbrev pub opened_len : ℕ → List Entry → ℕ
opened_len cursor = opened_from cursor 0

-- 1 where i is below n, else 0
abbrev pub one_below : ℕ → ℕ → ℕ
one_below n i = (if nat_lt i n then 1 else 0)

-- f 0 + .. + f (n - 1)
abbrev pub total : ℕ → (ℕ → ℕ) → ℕ
total zero f = 0
total (suc n) f = total n f + f n

-- What the first caller has done in the epoch that it is in: whether a caller was split off in it, 1 for each engine whose cursor of partition 0 was opened in it and 0 for others, and which partitions were greeted in it.
-- `past` has for each other partition the number of engines of the epoch in which it was last greeted, and 0 where it never was
pub record EpochSoFar : Type 0 where
  pub is_split : Bool
  pub engines : ℕ → ℕ
  pub greeted : ℕ → Bool
  pub past : ℕ → ℕ

abbrev pub no_epoch : EpochSoFar
no_epoch = record { is_split = true; engines = λ engine. 0; greeted = λ partition. false; past = λ partition. 0 }

-- the number of engines of the epoch
abbrev pub engine_count : EpochSoFar → ℕ
engine_count t = total 8 t.engines

-- the number of engines of the epoch in which the partition was last greeted
abbrev pub engines_at_greet : EpochSoFar → ℕ → ℕ
engines_at_greet t partition = (if t.greeted partition then engine_count t else t.past partition)

abbrev pub engines_after : ℕ → (ℕ → ℕ) → ℕ → ℕ
engines_after cursor engines = (if cursor % 64 == 0 then put_at (cursor / 64) 1 engines else engines)

abbrev pub next_epoch : EpochSoFar → EpochSoFar
next_epoch t = record { is_split = false; engines = λ engine. 0; greeted = λ partition. false; past = engines_at_greet t }

abbrev pub epoch_to_open : EpochSoFar → EpochSoFar
epoch_to_open t = (if t.is_split then next_epoch t else t)

-- an epoch begins with the first opening behind a split
abbrev pub epoch_after : EpochSoFar → Call → EpochSoFar
epoch_after t (Open cursor len) = let u = epoch_to_open t in record { is_split = false; engines = engines_after cursor u.engines; greeted = u.greeted; past = u.past }
epoch_after t (Greet partition) = record { is_split = t.is_split; engines = t.engines; greeted = put_at partition true t.greeted; past = t.past }
epoch_after t (Split serial worker) = record { is_split = true; engines = t.engines; greeted = t.greeted; past = t.past }
epoch_after t _ = t

abbrev pub epoch_step : EpochSoFar → Entry → EpochSoFar
epoch_step t e = epoch_after t e.call

-- the epoch that the first caller is in after this list
abbrev pub epoch_of : List Entry → EpochSoFar
epoch_of l = final epoch_step no_epoch (entries_of 0 l)

-- What bounds the helper counts, of how often each worker was admitted at each partition since it was last greeted. In the epoch that lasts, the master and those admitted are the count
pub record AreHelped (heads : ℕ → ℕ) (admitted : ℕ → ℕ → ℕ) (t : EpochSoFar) : Type 0 where
  pub counted : (partition : ℕ) → t.greeted partition ≡ true → heads partition ≡ suc (total 8 (λ worker. admitted worker partition))
  pub once : (worker partition : ℕ) → admitted worker partition ≤ 1
  pub no_master : (partition : ℕ) → 0 < engines_at_greet t partition → admitted (partition % engines_at_greet t partition) partition ≡ 0
  pub unsplit : t.is_split ≡ false → (worker partition : ℕ) → t.greeted partition ≡ true → admitted worker partition ≡ 0

abbrev pub most_chunks : ℕ
most_chunks = 2147483648

-- A history as calls on one table make it: each reply is the object's at its point, calls stand between their caller's split and join, no worker was refused twice at a cursor since it was opened,
-- and none was admitted twice at a partition since it was greeted, nor its master ever
pub record IsHistory (history : List Entry) : Type 0 where
  pub legal : IsLegal history
  pub ordered : IsOrdered history
  pub callers : All IsCaller history
  pub lens : (cursor : ℕ) → (object_after history).len cursor ≤ most_chunks
  pub refused_once : (worker cursor : ℕ) → refusals_of worker cursor history ≤ 1
  pub helped : AreHelped (object_after history).heads (λ worker partition. admissions_of worker partition history) (epoch_of history)

-- The story has the calls of all callers: there is one history with just the calls of each, in which what bears on each worker stands in the order of the story
pub record StandsWhole (story : List Entry) : Type 0 where
  pub history : List Entry
  pub is : IsHistory history
  pub calls : (serial : ℕ) → entries_of serial history ≡ entries_of serial story
  pub bears : (worker : ℕ) → filter (bears_on worker) history ≡ filter (bears_on worker) story

-- The history is cut at a call of the first caller, which has these calls before it and those behind it
pub record IsCutAt (history before : List Entry) (e : Entry) (behind : List Entry) : Type 0 where
  pub front : List Entry
  pub rest : List Entry
  pub is : history ≡ front ++ e ∷ rest
  pub first_before : entries_of 0 front ≡ before
  pub first_behind : entries_of 0 rest ≡ behind

-- no call of this caller stands before the cut
abbrev pub BeginsBehind : {history before : List Entry} {e : Entry} {behind : List Entry} → ℕ → IsCutAt history before e behind → Type 0
BeginsBehind serial cut = entries_of serial cut.front ≡ []

-- no call of this caller stands behind the cut
abbrev pub EndsBefore : {history before : List Entry} {e : Entry} {behind : List Entry} → ℕ → IsCutAt history before e behind → Type 0
EndsBefore serial cut = entries_of serial cut.rest ≡ []
