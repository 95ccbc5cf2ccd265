-- The definitions on worked examples: least distances from vertex 0 over three edges, on one engine.
use Rattle.std.proofs.Common.{◌≡◌, ℕ, ◌<◌, List, [], ◌∷◌, map, Some, None, refl, sym, subst, arith}
use Rattle.std.proofs.lemmas.List.Elements.{All-cons, All-nil}
use Rattle.rand_core.specs.Steps.{u32_at}
use Rattle.rand_chacha.specs.Block.{block_word, double_rounds, diagonal_round, quarter_round, column_round}
use Rattle.graph_model.specs.declared.edge.Edge.{Edge}
use Rattle.graph_model.specs.declared.value.Update.{Update}
use Rattle.graph_model.specs.declared.job.Job.{Job}
use Rattle.graph_model.specs.declared.job.Program.TheVariants.{Sssp}
use Rattle.graph_model.specs.Programs.{sssp, degrees}
use Rattle.graph_model.specs.Rounds.{values}
use Rattle.chunk_object.specs.declared.call.Call.{Call}
use Rattle.chunk_object.specs.declared.call.Call.TheVariants.{Took, Exhausted}
use Rattle.chunk_object.specs.declared.call.Entry.{Entry}
use Rattle.chunk_object.specs.Object.{ChunkObject}
use Rattle.chunk_object.specs.History.{one_below}
use Rattle.chunk_object.specs.Epochs.{Terms, Epoch, list_of}
use Rattle.phase_core.specs.declared.event.Event.TheVariants.{Claim}
use Rattle.epoch_laws.specs.Turns.{no_rights, InTurn, EpochHistory, calls_of_worker, event_at}
use Rattle.seeded_place.specs.Placing.{placing_key, engine_of}
use Rattle.phase_model.specs.Shelves.{lens_of, records_at}
use Rattle.epoch_laws.specs.Phases.{edge_shelf, Opens, sent_in, updates_of, gathered, counted, merged_over, MaySend, sending_in}

abbrev edge : ℕ → ℕ → ℕ → Edge
edge src dst weight = record { src = src; dst = dst; weight = weight }

abbrev update : ℕ → ℕ → Update
update dst value = record { dst = dst; value = value }

abbrev edges : List Edge
edges = edge 0 1 5 ∷ edge 0 2 1 ∷ edge 2 1 1 ∷ []

abbrev job : Job
job = record { program = Sssp 0; vertices = 3; engines = 1; most = 10; chunk = 4096; seed = 1; alpha = 100; limit = 10; format = 2; keep = 1 }

-- the worker takes the one chunk there is
abbrev calls : List Call
calls = Took 0 0 ∷ Exhausted 0 ∷ []

abbrev one_chunk : Epoch
one_chunk = record { lens = lens_of (edge_shelf job edges); lists = calls ∷ [] }

opens : Opens (edge_shelf job edges) one_chunk
opens cursor = refl

all_in_one_chunk : records_at (edge_shelf job edges) 0 0 ≡ edges
unfolding engine_of placing_key block_word double_rounds diagonal_round quarter_round column_round u32_at
all_in_one_chunk = refl

sent_in_round_1 : sent_in job edges (sending_in (sssp 0) 3 edges 1 None) calls ≡ update 1 5 ∷ update 2 1 ∷ []
unfolding values engine_of placing_key block_word double_rounds diagonal_round quarter_round column_round u32_at
sent_in_round_1 = refl

-- in round 2 the vertices 1 and 2 have changed, and an edge goes out of vertex 2 alone
sent_in_round_2 : sent_in job edges (sending_in (sssp 0) 3 edges 2 (Some (values (sssp 0) 3 edges 0))) calls ≡ update 1 2 ∷ []
unfolding values engine_of placing_key block_word double_rounds diagonal_round quarter_round column_round u32_at
sent_in_round_2 = refl

may_send : MaySend (sssp 0) 3 edges 2 (Some (values (sssp 0) 3 edges 0))
may_send = (refl, omega arith, refl)

gathered_in_round_1 : merged_over (sssp 0) (gathered (sssp 0) (updates_of job edges (sending_in (sssp 0) 3 edges 1 None) 0 one_chunk) 1) one_chunk ≡ 5
unfolding values engine_of placing_key block_word double_rounds diagonal_round quarter_round column_round u32_at
gathered_in_round_1 = refl

edges_out_of_vertex_0 : merged_over degrees (counted (edge_shelf job edges) 0) one_chunk ≡ 2
unfolding engine_of placing_key block_word double_rounds diagonal_round quarter_round column_round u32_at
edges_out_of_vertex_0 = refl

-- The calls of one worker in a legal history: it takes the one chunk, and is told that none is left.
abbrev terms : Terms
terms = record { engines = 1; partitions = 1; set_bytes = λ partition. 48; chunk_bytes = 49160; alpha = 100 }

abbrev epoch : Epoch
epoch = record { lens = one_below 1; lists = calls ∷ [] }

abbrev opened : ChunkObject
opened = record { next = λ cursor. 0; len = one_below 1; heads = λ partition. 1 }

abbrev took : Entry
took = record { serial = 1; worker = 0; call = Took 0 0 }

abbrev told : Entry
told = record { serial = 1; worker = 0; call = Exhausted 0 }

abbrev history : List Entry
history = took ∷ told ∷ []

one_worker : EpochHistory terms epoch opened history
one_worker = record {
  opened = record { next = λ cursor theirs. refl; len = λ cursor theirs. refl; heads = λ partition below. refl };
  legal = ((refl, omega arith), (omega arith, tt));
  workers = All-cons (λ (e : Entry). e.worker < 1) took (told ∷ []) (omega arith) (All-cons (λ (e : Entry). e.worker < 1) told [] (omega arith) (All-nil (λ (e : Entry). e.worker < 1)));
  lists = λ worker below. let first : worker ≡ 0 = omega arith in subst (λ k. calls_of_worker k history ≡ list_of epoch k) (sym first) refl;
}

events : map event_at history ≡ Claim 0 0 0 ∷ Claim 0 0 0 ∷ []
events = refl

in_turn : InTurn terms 0 no_rights calls
in_turn = (record { theirs = (omega arith, omega arith); works_there = refl; not_refused = refl }, (record { theirs = (omega arith, omega arith); works_there = refl; not_refused = refl }, tt))
