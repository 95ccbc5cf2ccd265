-- What each kind of step tells its seat, and what a seat's list says of the history.
use Rattle.std.specs.Prelude.{◌≡◌, ℕ, ◌-◌, ◌/◌, ◌%◌, ◌<◌, ◌≤◌, List, [], ◌==◌, nat_lt, if◌then◌else◌}
use Rattle.std.specs.List.{filter}
use Rattle.atomic_table.specs.Table.{Step, Me}
use Rattle.chunk_object.specs.declared.call.Call.{Call}
use Rattle.chunk_object.specs.declared.call.Call.TheVariants.{Open, Greet, Took, Exhausted, Look, Heads, Admitted, Contended}
use Rattle.chunk_object.specs.declared.call.Entry.{Entry}
use Rattle.chunk_object.specs.History.{entries_of, bears_on, opened_len, most_chunks, IsHistory}
use Rattle.chunk_cursor.specs.declared.view.View.{View}
use Rattle.chunk_cursor.specs.View.{knows, with_call, out_at, IsFirst, MayTake, MayAdmit}
use Rattle.chunk_cursor.specs.Rule.{half, IsBack}

-- a seat that holds no slot
abbrev pub Seated : Type 0
Seated = Me (Unit {0}) View

abbrev pub Opened : Step (Unit {0}) → Seated → ℕ → Seated → Type 0
Opened s before found after = after ≡ (with_call before.0 (Open s.word (s.first / half)), before.1)

-- the word of a partition's helpers stands behind those of the cursors
abbrev pub Greeted : Step (Unit {0}) → Seated → ℕ → Seated → Type 0
Greeted s before found after = after ≡ (with_call before.0 (Greet (s.word - 512)), before.1)

-- the claim that found this word
abbrev pub claim_at : ℕ → ℕ → Call
claim_at cursor found = (if nat_lt (found % half) (found / half) then Took cursor (found % half) else Exhausted cursor)

abbrev pub Claimed : Step (Unit {0}) → Seated → ℕ → Seated → Type 0
Claimed s before found after = (after ≡ (with_call before.0 (claim_at s.word found), before.1)) × (found % half < found / half → MayTake before.0 s.word (found % half))

abbrev pub Looked : Step (Unit {0}) → Seated → ℕ → Seated → Type 0
Looked s before found after =
    (after ≡ (with_call before.0 (Look s.word (found / half - found % half)), before.1)) × (found / half ≡ opened_len s.word (knows before.0)) × (found / half ≤ most_chunks)

abbrev pub Counted : Step (Unit {0}) → Seated → ℕ → Seated → Type 0
Counted s before found after = (after ≡ (with_call before.0 (Heads (s.word - 512) found), before.1)) × (MayAdmit before.0 (s.word - 512) → (1 ≤ found) × (found ≤ 7))

-- the admit that asked for this count and found that one
abbrev pub admit_at : ℕ → ℕ → ℕ → Call
admit_at partition heads found = (if found == heads then Admitted partition heads else Contended partition heads found)

abbrev pub Tried : Step (Unit {0}) → Seated → ℕ → Seated → Type 0
Tried s before found after = (after ≡ (with_call before.0 (admit_at (s.word - 512) s.first found), before.1)) × (1 ≤ found) × (found ≤ 7)

-- There is one history in which a seat's own calls are just its list, and what bears on its worker stands in the order in which the seat knows it
pub record StandsIn (v : View) : Type 0 where
  pub history : List Entry
  pub is : IsHistory history
  pub calls : entries_of v.serial history ≡ entries_of v.serial v.story
  pub bears : filter (bears_on v.worker) history ≡ filter (bears_on v.worker) (knows v)

-- There is one history in which all lists of the first seat stand: its own calls and those of each caller that is back are just these lists, nobody calls that was not split off, and what bears on a worker that is not out stands in the order of the story
pub record AllStandIn (v : View) : Type 0 where
  pub history : List Entry
  pub is : IsHistory history
  pub calls : (serial : ℕ) → IsBack v serial → entries_of serial history ≡ entries_of serial v.story
  pub none_later : (serial : ℕ) → v.splits < serial → entries_of serial history ≡ []
  pub bears : (worker : ℕ) → out_at v worker ≡ 0 → filter (bears_on worker) history ≡ filter (bears_on worker) v.story

abbrev pub Settled : Step (Unit {0}) → Seated → ℕ → Seated → Type 0
Settled s before found after = (after ≡ before) × StandsIn before.0 × (IsFirst before.0 → AllStandIn before.0)
