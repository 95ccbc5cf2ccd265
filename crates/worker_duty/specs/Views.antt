-- What a seat must be able to do in a phase, and what it did.
use Rattle.std.specs.Prelude.{◌≡◌, ◌≢◌, ℕ, ◌%◌, ◌<◌, ◌≤◌, List, map}
use Rattle.std.specs.List.{All}
use Rattle.chunk_object.specs.declared.call.Call.{Call}
use Rattle.chunk_object.specs.declared.call.Entry.{Entry}
use Rattle.chunk_object.specs.History.{opened_len, most_chunks}
use Rattle.chunk_object.specs.Epochs.{cursor_of, Terms}
use Rattle.chunk_object.specs.Duty.{IsMaster, IsDutiful, BeginsDutiful}
use Rattle.chunk_cursor.specs.declared.view.View.{View}
use Rattle.chunk_cursor.specs.View.{with_calls, knows, MayClaim, MayAdmit}
use Rattle.steal_policy.specs.declared.proposal.Ask.{Ask}
use Rattle.phase_model.specs.Taken.{taken, claims, admissions}

-- the calls in a seat's list
abbrev pub calls_of : View → List Call
calls_of v = map (λ (e : Entry). e.call) v.story

-- the chunks that a seat took
abbrev pub taken_by_seat : View → List (ℕ × ℕ)
taken_by_seat v = taken (calls_of v)

-- what a proposal of help at the partition is about
abbrev pub ask_of : Terms → ℕ → Ask
ask_of terms partition = record { engines = terms.engines; partition = partition; set_bytes = terms.set_bytes partition; chunk_bytes = terms.chunk_bytes; alpha = terms.alpha }

-- so few engines, partitions and chunks as shared cursors have room for
pub record AreFew (terms : Terms) (lens : ℕ → ℕ) : Type 0 where
  pub engines : (1 ≤ terms.engines) × (terms.engines ≤ 8)
  pub partitions : terms.partitions ≤ 64
  pub chunks : (cursor : ℕ) → lens cursor ≤ most_chunks

-- the seat may claim at the cursor, which was opened with so many chunks
pub record IsReady (v : View) (cursor len : ℕ) : Type 0 where
  pub may : MayClaim v cursor
  pub opened : opened_len cursor (knows v) ≡ len

-- none of these chunks is one of the partition
abbrev pub NoneOf : ℕ → List (ℕ × ℕ) → Type 0
NoneOf partition chunks = All (λ chunk. chunk.0 % 64 ≢ partition) chunks

-- the seat may do all that the duty asks at the partition, and took no chunk of it yet
pub record MayWorkAt (terms : Terms) (lens : ℕ → ℕ) (v : View) (partition : ℕ) : Type 0 where
  pub fresh : NoneOf partition (taken_by_seat v)
  pub ready : (engine : ℕ) → engine < terms.engines → IsReady v (cursor_of engine partition) (lens (cursor_of engine partition))
  pub may : (IsMaster terms v.worker partition → ⊥) → MayAdmit v partition

-- at each partition
abbrev pub MayWork : Terms → (ℕ → ℕ) → View → Type 0
MayWork terms lens v = (partition : ℕ) → partition < terms.partitions → MayWorkAt terms lens v partition

-- **The seat has worked in a phase**: its list grew by calls that meet the worker's duty, where it is through, and else by a front of such. So many of them took a chunk, and so often help was admitted.
pub record HasWorked (terms : Terms) (worker : ℕ) (IsThrough : Type 0) (old new : View) (took helped : ℕ) : Type 0 where
  pub calls : List Call
  pub grown : new ≡ with_calls old calls
  pub dutiful : IsThrough → IsDutiful terms worker calls
  pub begins : BeginsDutiful terms worker calls
  pub claims_are : took ≡ claims calls
  pub admissions_are : helped ≡ admissions calls
