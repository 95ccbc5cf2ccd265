-- What a stop within a run over a text leaves.
use Rattle.std.specs.Prelude.{◌≡◌, ◌⊎◌, ℕ, ◌+◌, ◌-◌, ◌<◌, ◌≤◌, List, [], Some, map, slice_index_or}
use Rattle.ports.specs.Disk.{DiskState, InEveryImage}
use Rattle.ports.specs.Stops.{IsStop}
use Rattle.graph_model.specs.declared.job.Job.{Job}
use Rattle.graph_model.specs.Answer.{edges, IsAccepted}
use Rattle.store_model.specs.Heads.{IsShutGraph}
use Rattle.store_model.specs.Kept.{IsPrepared, IsUnprepared, IsWholeStore, IsEverywhere}
use Rattle.store_reader.specs.declared.store.Store.{Store}
use Rattle.run_model.specs.Calls.{Call, OfText, OfTold}

module _ {D M : Type 0} (state : D → DiskState) where
  -- of each tuple of a stop in some beat since the call began
  abbrev pub AtEachStop : Call D M → (ℕ → (graphs values : List (List ℕ)) → Type 0) → Type 0
  AtEachStop call P = (b : ℕ) (graphs values : List (List ℕ)) → b ≤ call.after.beat
      → IsStop b (map state call.before.store.graphs.items) (map state call.after.store.graphs.items) graphs
      → IsStop b (map state call.before.store.values.items) (map state call.after.store.values.items) values → P b graphs values

module _ {D M : Type 0} (state : D → DiskState) (job : Job) where
  -- some graph device is not open in any image
  abbrev pub SomeShut : Store D M → Type 0
  SomeShut store = (e : ℕ) × (e < job.engines) × ((d : D) → InEveryImage (state (slice_index_or store.graphs.items e d)) IsShutGraph)

  -- **What a stop leaves**, where some graph device was not open: a store that is not prepared, or, where the text was read
  -- to its end and accepted, the whole store of the job; from the beat of round 1 on that store, with the round before
  pub record LeavesStores (call : Call D M) : Type 0 where
    pub any_stop : SomeShut call.before.store → OfText call.text (λ text. OfTold state call.before.store (λ told.
        AtEachStop state call (λ b graphs values. IsUnprepared graphs
        ⊎ (IsAccepted job text × (call.text_after ≡ Some []) × IsWholeStore job (edges job text) graphs values))))
    pub in_rounds : OfText call.text (λ text. OfTold state call.before.store (λ told. (round : ℕ) → 1 ≤ round →
        AtEachStop state call (λ b graphs values. b ≡ call.before.beat + 2 + round → IsPrepared graphs × IsEverywhere job (edges job text) values (round - 1))))
