-- Two engines and two vertices, one in each partition; two chunks for vertex 0, both on engine 0. Worker 1 claims too
-- early, is admitted, and both workers take a chunk.
use Rattle.std.proofs.Common.{◌≡◌, ℕ, List, [], ◌∷◌, refl}
use Rattle.graph_model.specs.declared.value.Update.{Update}
use Rattle.graph_model.specs.Programs.{degrees}
use Rattle.partitioner.specs.declared.split.Split.{Split}
use Rattle.chunk_model.specs.Chunks.{Chunk}
use Rattle.chunk_object.specs.declared.call.Call.TheVariants as call
use Rattle.phase_core.specs.declared.event.Event.{Event}
use Rattle.phase_core.specs.declared.event.Event.TheVariants.{Claim, Look, Heads, Admit, Finish}
use Rattle.phase_core.specs.declared.event.Reply.TheVariants.{Took, Exhausted, Number, Admitted, Contended, Finished, NotNow}
use Rattle.phase_core.specs.Machine.{Machine, fresh}
use Rattle.phase_core.specs.Runs.{ran, replies, all_calls, calls_by}
use Rattle.phase_core.specs.Sums.{merged_at}

two_engines : Split
two_engines = record { vertices = 2; engines = 2; parts = 2; span = 1 }

one_update : ℕ → ℕ × Chunk Update
one_update value = (0, record { partition = 0; items = record { dst = 0; value = value } ∷ [] })

start : Machine
unfolding two_engines one_update
start = fresh two_engines 0 (one_update 1 ∷ one_update 2 ∷ [])

events : List Event
events = Claim 1 0 0 ∷ Admit 1 0 1 ∷ Claim 0 0 0 ∷ Claim 1 0 0 ∷ Claim 0 0 0 ∷ []

replied : replies degrees start events ≡ NotNow ∷ Admitted ∷ Took 0 ∷ Took 1 ∷ Exhausted ∷ []
unfolding start events two_engines one_update
replied = refl

merged_of_vertex_0 : merged_at degrees (ran degrees start events) 0 ≡ 3
unfolding start events two_engines one_update
merged_of_vertex_0 = refl

called : all_calls degrees start events ≡ call.Admitted 0 1 ∷ call.Took 0 0 ∷ call.Took 0 1 ∷ call.Exhausted 0 ∷ []
unfolding start events two_engines one_update
called = refl

called_by_worker_1 : calls_by 1 degrees start events ≡ call.Admitted 0 1 ∷ call.Took 0 1 ∷ []
unfolding start events two_engines one_update
called_by_worker_1 = refl

-- the master is not admitted, nobody claims behind Exhausted, and a worker that is through does nothing more
late : List Event
late = Admit 0 0 1 ∷ Admit 1 0 8 ∷ Heads 1 0 ∷ Admit 1 0 2 ∷ Look 1 0 0 ∷ Claim 0 1 0 ∷ Claim 0 1 0 ∷ Finish 1 ∷ Look 1 0 0 ∷ Claim 2 0 0 ∷ Claim 0 2 0 ∷ Claim 0 0 2 ∷ []

late_replied : replies degrees start late ≡
    NotNow ∷ NotNow ∷ Number 1 ∷ Contended 1 ∷ Number 2 ∷ Exhausted ∷ NotNow ∷ Finished ∷ NotNow ∷ NotNow ∷ NotNow ∷ NotNow ∷ []
unfolding start late two_engines one_update
late_replied = refl
