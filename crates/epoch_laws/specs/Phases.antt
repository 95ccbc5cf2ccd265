-- The epochs of a round: what they open, what is sent in them, and what each worker has summed up.
use Rattle.std.specs.Prelude.{◌≡◌, ⊤, ℕ, ◌-◌, ◌≤◌, true, Option, Some, None, List, map}
use Rattle.graph_model.specs.declared.edge.Edge.{Edge}
use Rattle.graph_model.specs.declared.value.Value.{Value}
use Rattle.graph_model.specs.declared.value.Update.{Update}
use Rattle.graph_model.specs.declared.job.Job.{Job}
use Rattle.graph_model.specs.Programs.{Rules, plus}
use Rattle.graph_model.specs.Rounds.{merged, values}
use Rattle.chunk_object.specs.declared.call.Call.{Call}
use Rattle.chunk_object.specs.Epochs.{Epoch}
use Rattle.seeded_place.specs.Placing.{edge_stream, placed}
use Rattle.phase_model.specs.Shelves.{Shelf, lens_of, records_at}
use Rattle.phase_model.specs.Taken.{records_taken}
use Rattle.phase_model.specs.Sends.{Sending, sent_by, sending_of}
use Rattle.phase_model.specs.Sums.{sum_at, counts_of}
use Rattle.phase_model.specs.Lanes.{all_updates}
use Rattle.store_model.specs.Graphs.{edge_chunks}

-- the chunks of a job's edges with their engines
abbrev pub edge_shelf : Job → List Edge → Shelf Edge
edge_shelf job edges = placed job.seed edge_stream job.engines (edge_chunks job edges)

-- the epoch opens each cursor with the number of its chunks on the shelf
abbrev pub Opens : {X : Type 0} → Shelf X → Epoch → Type 0
Opens made epoch = (cursor : ℕ) → epoch.lens cursor ≡ lens_of made cursor

-- what a worker sends in a scatter epoch in which these are its calls
abbrev pub sent_in : Job → List Edge → Sending → List Call → List Update
sent_in job edges sending calls = sent_by sending (records_taken (records_at (edge_shelf job edges)) calls)

-- the update chunks of all workers of a scatter epoch, which is the t-th of the run
abbrev pub updates_of : Job → List Edge → Sending → (t : ℕ) → Epoch → Shelf Update
updates_of job edges sending t scatter = all_updates job t 0 (map (sent_in job edges sending) scatter.lists)

-- the sum of a worker for a vertex, where it took these calls in a gather epoch
abbrev pub gathered : Rules → Shelf Update → (vertex : ℕ) → List Call → ℕ
gathered rules updates vertex calls = sum_at rules.fold rules.unit (records_taken (records_at updates) calls) vertex

-- the number of edges out of a vertex among those that a worker took in a count epoch, capped
abbrev pub counted : Shelf Edge → (vertex : ℕ) → List Call → ℕ
counted edges vertex calls = sum_at plus 0 (counts_of (records_taken (records_at edges) calls)) vertex

-- the merge over all workers of an epoch
abbrev pub merged_over : Rules → (List Call → ℕ) → Epoch → ℕ
merged_over rules sum epoch = merged rules (map sum epoch.lists)

-- In a round all vertices send, or, where the program absorbs and this is not its first round, those alone whose value is another one than two rounds before
abbrev pub MaySend : Rules → (vertices : ℕ) → List Edge → (round : ℕ) → Option (List Value) → Type 0
MaySend rules vertices edges round None = ⊤
MaySend rules vertices edges round (Some before) = (rules.absorbs ≡ true) × (2 ≤ round) × (before ≡ values rules vertices edges (round - 2))

-- what is sent in the round
abbrev pub sending_in : Rules → (vertices : ℕ) → List Edge → (round : ℕ) → Option (List Value) → Sending
sending_in rules vertices edges round before = sending_of rules before (values rules vertices edges (round - 1))
