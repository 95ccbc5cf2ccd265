-- The pure machine of a phase, one event at a time.
use Rattle.std.specs.Prelude.{ℕ, ◌-◌, ◌==◌, ◌&&◌, ◌||◌, not, nat_lt, nat_le, if◌then◌else◌, Bool, true, false, List, [], ◌∷◌, ◌++◌, fold}
use Rattle.graph_model.specs.declared.value.Update.{Update}
use Rattle.graph_model.specs.Programs.{Rules}
use Rattle.graph_model.specs.Partitions.{master_of}
use Rattle.partitioner.specs.declared.split.Split.{Split}
use Rattle.chunk_object.specs.declared.call.Call.TheVariants as call
use Rattle.chunk_object.specs.Object.{ChunkObject, put_at, after}
use Rattle.chunk_object.specs.History.{one_below}
use Rattle.chunk_object.specs.Epochs.{cursor_of}
use Rattle.phase_model.specs.Shelves.{Shelf, lens_of, records_at}
use Rattle.phase_model.specs.Sums.{values_to}
use Rattle.phase_core.specs.declared.event.Event.{Event}
use Rattle.phase_core.specs.declared.event.Event.TheVariants.{Claim, Look, Heads, Admit, Finish}
use Rattle.phase_core.specs.declared.event.Reply.{Reply}
use Rattle.phase_core.specs.declared.event.Reply.TheVariants.{Took, Exhausted, Number, Admitted, Contended, Finished, NotNow}

-- The chunks of the phase and the chunk object over them; which worker was admitted at which partition, which was told
-- at which cursor that no chunk is left, and which is through; and the sum of each worker for each vertex
pub record Machine : Type 0 where
  pub split : Split
  pub chunks : Shelf Update
  pub object : ChunkObject
  pub admitted : ℕ → ℕ → Bool
  pub refused : ℕ → ℕ → Bool
  pub finished : ℕ → Bool
  pub sums : ℕ → ℕ → ℕ

-- before the first event
abbrev pub fresh : Split → ℕ → Shelf Update → Machine
fresh split unit chunks = record {
  split = split;
  chunks = chunks;
  object = record { next = λ cursor. 0; len = lens_of chunks; heads = one_below split.parts };
  admitted = λ worker partition. false;
  refused = λ worker cursor. false;
  finished = λ worker. false;
  sums = λ worker vertex. unit;
}

-- with one chunk more
abbrev pub with_chunk : Machine → (engine partition : ℕ) → List Update → Machine
with_chunk m engine partition updates =
    let chunks : Shelf Update = m.chunks ++ (engine, record { partition = partition; items = updates }) ∷ [] in
    record m { chunks = chunks; object = record m.object { len = lens_of chunks } }

abbrev pub is_active : Machine → ℕ → Bool
is_active m worker = nat_lt worker m.split.engines && not (m.finished worker)

abbrev pub is_cursor : Machine → (engine partition : ℕ) → Bool
is_cursor m engine partition = nat_lt engine m.split.engines && nat_lt partition m.split.parts

-- the worker is the partition's master, or was admitted there
abbrev pub works_at : Machine → (worker partition : ℕ) → Bool
works_at m worker partition = master_of m.split.engines partition == worker || m.admitted worker partition

-- whether the event may come now
abbrev pub is_timely : Machine → Event → Bool
is_timely m (Claim worker engine partition) = is_active m worker && is_cursor m engine partition && works_at m worker partition && not (m.refused worker (cursor_of engine partition))
is_timely m (Look worker engine partition) = is_active m worker && is_cursor m engine partition
is_timely m (Heads worker partition) = is_active m worker && nat_lt partition m.split.parts
is_timely m (Admit worker partition seen) = is_active m worker && nat_lt partition m.split.parts && not (works_at m worker partition) && nat_le 1 seen && nat_le seen 7
is_timely m (Finish worker) = is_active m worker

-- the reply of the chunk object
abbrev pub answer : ChunkObject → Event → Reply
answer o (Claim worker engine partition) = let cursor = cursor_of engine partition in if nat_lt (o.next cursor) (o.len cursor) then Took (o.next cursor) else Exhausted
answer o (Look worker engine partition) = let cursor = cursor_of engine partition in Number (o.len cursor - o.next cursor)
answer o (Heads worker partition) = Number (o.heads partition)
answer o (Admit worker partition seen) = if o.heads partition == seen then Admitted else Contended (o.heads partition)
answer o (Finish worker) = Finished

-- **The reply to an event.**
abbrev pub reply : Machine → Event → Reply
reply m event = if is_timely m event then answer m.object event else NotNow

-- the sums of a worker that folds these updates into them
abbrev pub folded : Rules → List Update → (ℕ → ℕ) → ℕ → ℕ
folded rules updates sums vertex = fold rules.fold (sums vertex) (values_to vertex updates)

-- the worker takes the next chunk of the cursor
abbrev pub taken_from : Rules → Machine → (worker cursor : ℕ) → Machine
taken_from rules m worker cursor =
    let chunk = m.object.next cursor in
    record m { object = after m.object (call.Took cursor chunk); sums = put_at worker (folded rules (records_at m.chunks cursor chunk) (m.sums worker)) m.sums }

-- the machine after an event with this reply
abbrev pub after_reply : Rules → Machine → Event → Reply → Machine
after_reply rules m (Claim worker engine partition) (Took chunk) =
    let cursor = cursor_of engine partition in
    record m { object = after m.object (call.Took cursor chunk); sums = put_at worker (folded rules (records_at m.chunks cursor chunk) (m.sums worker)) m.sums }
after_reply rules m (Claim worker engine partition) Exhausted = record m { refused = put_at worker (put_at (cursor_of engine partition) true (m.refused worker)) m.refused }
after_reply rules m (Admit worker partition seen) Admitted =
    record m { object = after m.object (call.Admitted partition seen); admitted = put_at worker (put_at partition true (m.admitted worker)) m.admitted }
after_reply rules m (Finish worker) Finished = record m { finished = put_at worker true m.finished }
after_reply rules m _ _ = m

-- **The machine after an event.**
abbrev pub stepped : Rules → Machine → Event → Machine
stepped rules m event = after_reply rules m event (reply m event)
