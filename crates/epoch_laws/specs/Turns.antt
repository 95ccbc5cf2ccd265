-- The calls of workers as events of the pure machine.
use Rattle.std.specs.Prelude.{◌≡◌, ℕ, ◌/◌, ◌%◌, ◌<◌, ◌≤◌, ◌==◌, ◌||◌, Bool, true, false, List, [], ◌∷◌, All, map, filter}
use Rattle.chunk_object.specs.declared.call.Call.{Call}
use Rattle.chunk_object.specs.declared.call.Call.TheVariants.{Took, Exhausted, Look, Heads, Admitted, Contended}
use Rattle.chunk_object.specs.declared.call.Entry.{Entry}
use Rattle.chunk_object.specs.Object.{ChunkObject, put_at}
use Rattle.chunk_object.specs.History.{EachStep, object_step, IsAnswered}
use Rattle.chunk_object.specs.Epochs.{Terms, Epoch, list_of}
use Rattle.phase_core.specs.declared.event.Event.{Event}
use Rattle.phase_core.specs.Runs.{event_of}

-- what a worker was told so far on a partition: whether it was admitted, and at which cursors no chunk is left
pub record Rights : Type 0 where
  pub admitted : Bool
  pub refused : ℕ → Bool

abbrev pub no_rights : Rights
no_rights = record { admitted = false; refused = λ cursor. false }

abbrev pub rights_after : Rights → Call → Rights
rights_after r (Admitted partition heads) = record { admitted = true; refused = r.refused }
rights_after r (Exhausted cursor) = record { admitted = r.admitted; refused = put_at cursor true r.refused }
rights_after r _ = r

-- a cursor that the epoch opens
abbrev pub IsTheirs : Terms → ℕ → Type 0
IsTheirs terms cursor = (cursor / 64 < terms.engines) × (cursor % 64 < terms.partitions)

-- the worker is the master, or was admitted
abbrev pub works : Terms → (worker partition : ℕ) → Rights → Bool
works terms worker partition r = partition % terms.engines == worker || r.admitted

pub record MayClaim (terms : Terms) (worker cursor : ℕ) (r : Rights) : Type 0 where
  pub theirs : IsTheirs terms cursor
  pub works_there : works terms worker (cursor % 64) r ≡ true
  pub not_refused : r.refused cursor ≡ false

pub record MayAdmit (terms : Terms) (worker partition seen : ℕ) (r : Rights) : Type 0 where
  pub theirs : partition < terms.partitions
  pub stranger : works terms worker partition r ≡ false
  pub low : 1 ≤ seen
  pub high : seen ≤ 7

-- the worker may make this call now
abbrev pub May : Terms → ℕ → Rights → Call → Type 0
May terms worker r (Took cursor chunk) = MayClaim terms worker cursor r
May terms worker r (Exhausted cursor) = MayClaim terms worker cursor r
May terms worker r (Look cursor left) = IsTheirs terms cursor
May terms worker r (Heads partition heads) = partition < terms.partitions
May terms worker r (Admitted partition heads) = MayAdmit terms worker partition heads r
May terms worker r (Contended partition heads found) = MayAdmit terms worker partition heads r
May terms worker r _ = ⊥

-- each call comes in its turn
abbrev pub InTurn : Terms → ℕ → Rights → List Call → Type 0
InTurn terms worker r [] = Unit {0}
InTurn terms worker r (call ∷ calls) = May terms worker r call × InTurn terms worker (rights_after r call) calls

-- the calls of a worker in a history, in order
abbrev pub calls_of_worker : ℕ → List Entry → List Call
calls_of_worker worker history = map (λ (e : Entry). e.call) (filter (λ (e : Entry). e.worker == worker) history)

-- the event that an entry is
abbrev pub event_at : Entry → Event
event_at e = event_of e.worker e.call

-- the object at the beginning of the workers' calls: each cursor was opened, and each partition greeted
pub record IsOpened (terms : Terms) (lens : ℕ → ℕ) (o : ChunkObject) : Type 0 where
  pub next : (cursor : ℕ) → IsTheirs terms cursor → o.next cursor ≡ 0
  pub len : (cursor : ℕ) → IsTheirs terms cursor → o.len cursor ≡ lens cursor
  pub heads : (partition : ℕ) → partition < terms.partitions → o.heads partition ≡ 1

-- **The calls of an epoch's workers in one legal history**, from such an object on: each worker made the calls of its list, and nobody else made one
pub record EpochHistory (terms : Terms) (epoch : Epoch) (o : ChunkObject) (history : List Entry) : Type 0 where
  pub opened : IsOpened terms epoch.lens o
  pub legal : EachStep object_step IsAnswered o history
  pub workers : All (λ (e : Entry). e.worker < terms.engines) history
  pub lists : (worker : ℕ) → worker < terms.engines → calls_of_worker worker history ≡ list_of epoch worker
