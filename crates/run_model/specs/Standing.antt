-- What stands on the devices after a run over a text.
use Rattle.std.specs.Prelude.{◌≡◌, ⊤, ℕ, ◌<◌, List, slice_index_or}
use Rattle.ports.specs.Disk.{DiskState, InEveryImage}
use Rattle.graph_model.specs.declared.edge.Edge.{Edge}
use Rattle.graph_model.specs.declared.job.Job.{Job}
use Rattle.graph_model.specs.Programs.{rules_of}
use Rattle.graph_model.specs.Rounds.{IsLastRound}
use Rattle.graph_model.specs.Answer.{edges}
use Rattle.store_model.specs.Heads.{IsShutGraph}
use Rattle.store_model.specs.Graphs.{graph}
use Rattle.store_reader.specs.declared.store.Store.{Store}
use Rattle.round_loop.specs.Kept.{IsKept}
use Rattle.endings.specs.declared.ending.Ending.{Ending}
use Rattle.endings.specs.declared.ending.Ending.TheVariants.{Answered, Dropped, Usage, BadLine, DiskFault, RoundLimit, Memory, ReadFault, WriteFault, NotPrepared, EnginesDiffer, Damaged, TooLong, StoreHolds}
use Rattle.run_model.specs.Calls.{Call, OfText, OfTold}

module _ {D M : Type 0} (state : D → DiskState) (job : Job) where
  -- **The store has these edges and this round**: in every image each graph device is whole, and the round stands on each
  -- values device
  pub record IsStored (edges : List Edge) (round : ℕ) (store : Store D M) : Type 0 where
    pub graphs : (e : ℕ) (d : D) → e < job.engines → InEveryImage (state (slice_index_or store.graphs.items e d)) (λ bytes. bytes ≡ graph job edges e)
    pub values : IsKept (rules_of job.program) job edges state round store.values.items

  -- no graph device is open, in any image
  abbrev pub AllShut : Store D M → Type 0
  AllShut store = (e : ℕ) (d : D) → e < job.engines → InEveryImage (state (slice_index_or store.graphs.items e d)) IsShutGraph

  -- **What stands after each ending of a run over a text**
  abbrev pub StandsAfter : Call D M → Ending → Type 0
  StandsAfter call (Answered report) = OfText call.text (λ text. OfTold state call.before.store (λ graphs. IsStored (edges job text) report.rounds call.after.store))
  StandsAfter call WriteFault = OfText call.text (λ text. OfTold state call.before.store (λ graphs.
      (last : ℕ) × IsLastRound (rules_of job.program) job.vertices (edges job text) job.limit last × IsStored (edges job text) last call.after.store))
  StandsAfter call (RoundLimit limit) = OfText call.text (λ text. OfTold state call.before.store (λ graphs. IsStored (edges job text) limit call.after.store))
  StandsAfter call (BadLine line) = AllShut call.after.store
  StandsAfter call (TooLong limit) = AllShut call.after.store
  StandsAfter call ReadFault = AllShut call.after.store
  StandsAfter call StoreHolds = call.after.store ≡ call.before.store
  StandsAfter call DiskFault = ⊤
  StandsAfter call Memory = ⊤
  StandsAfter call (Damaged part engine place) = ⊤
  StandsAfter call Dropped = ⊤
  StandsAfter call Usage = ⊤
  StandsAfter call NotPrepared = ⊤
  StandsAfter call (EnginesDiffer held asked) = ⊤
