-- Events one after another, and the calls of seats that they are.
use Rattle.std.specs.Prelude.{ℕ, ◌/◌, ◌%◌, ◌==◌, if◌then◌else◌, Bool, true, false, List, [], ◌∷◌, ◌++◌}
use Rattle.graph_model.specs.Programs.{Rules}
use Rattle.chunk_object.specs.declared.call.Call.{Call}
use Rattle.chunk_object.specs.declared.call.Call.TheVariants as call
use Rattle.chunk_object.specs.History.{final}
use Rattle.chunk_object.specs.Epochs.{cursor_of}
use Rattle.phase_core.specs.declared.event.Event.{Event}
use Rattle.phase_core.specs.declared.event.Event.TheVariants.{Claim, Look, Heads, Admit, Finish}
use Rattle.phase_core.specs.declared.event.Reply.{Reply}
use Rattle.phase_core.specs.declared.event.Reply.TheVariants.{Took, Exhausted, Number, Admitted, Contended, Finished}
use Rattle.phase_core.specs.Machine.{Machine, reply, stepped}

-- the machine after these events
abbrev pub ran : Rules → Machine → List Event → Machine
ran rules = final (stepped rules)

-- their replies
abbrev pub replies : Rules → Machine → List Event → List Reply
replies rules m [] = []
replies rules m (event ∷ events) = reply m event ∷ replies rules (stepped rules m event) events

abbrev pub worker_of : Event → ℕ
worker_of (Claim worker engine partition) = worker
worker_of (Look worker engine partition) = worker
worker_of (Heads worker partition) = worker
worker_of (Admit worker partition seen) = worker
worker_of (Finish worker) = worker

-- the call of a seat that an event with this reply is; none where it came at the wrong time or ends the worker's part
abbrev pub calls_of : Event → Reply → List Call
calls_of (Claim worker engine partition) (Took chunk) = call.Took (cursor_of engine partition) chunk ∷ []
calls_of (Claim worker engine partition) Exhausted = call.Exhausted (cursor_of engine partition) ∷ []
calls_of (Look worker engine partition) (Number left) = call.Look (cursor_of engine partition) left ∷ []
calls_of (Heads worker partition) (Number heads) = call.Heads partition heads ∷ []
calls_of (Admit worker partition seen) Admitted = call.Admitted partition seen ∷ []
calls_of (Admit worker partition seen) (Contended found) = call.Contended partition seen found ∷ []
calls_of _ _ = []

-- the calls of the workers that pass the test, in order
abbrev pub calls_where : (ℕ → Bool) → Rules → Machine → List Event → List Call
calls_where chosen rules m [] = []
calls_where chosen rules m (event ∷ events) =
    (if chosen (worker_of event) then calls_of event (reply m event) else []) ++ calls_where chosen rules (stepped rules m event) events

-- the calls of all workers, and those of one
abbrev pub all_calls : Rules → Machine → List Event → List Call
all_calls = calls_where (λ worker. true)

abbrev pub calls_by : ℕ → Rules → Machine → List Event → List Call
calls_by worker = calls_where (λ other. worker == other)

-- the event and the reply that a worker's call is; a worker makes no other call
abbrev pub event_of : ℕ → Call → Event
event_of worker (call.Took cursor chunk) = Claim worker (cursor / 64) (cursor % 64)
event_of worker (call.Exhausted cursor) = Claim worker (cursor / 64) (cursor % 64)
event_of worker (call.Look cursor left) = Look worker (cursor / 64) (cursor % 64)
event_of worker (call.Heads partition heads) = Heads worker partition
event_of worker (call.Admitted partition heads) = Admit worker partition heads
event_of worker (call.Contended partition heads found) = Admit worker partition heads
event_of worker _ = Finish worker

abbrev pub reply_of : Call → Reply
reply_of (call.Took cursor chunk) = Took chunk
reply_of (call.Exhausted cursor) = Exhausted
reply_of (call.Look cursor left) = Number left
reply_of (call.Heads partition heads) = Number heads
reply_of (call.Admitted partition heads) = Admitted
reply_of (call.Contended partition heads found) = Contended found
reply_of _ = Finished

-- a call that a worker makes
abbrev pub is_workers : Call → Bool
is_workers (call.Took cursor chunk) = true
is_workers (call.Exhausted cursor) = true
is_workers (call.Look cursor left) = true
is_workers (call.Heads partition heads) = true
is_workers (call.Admitted partition heads) = true
is_workers (call.Contended partition heads found) = true
is_workers _ = false
