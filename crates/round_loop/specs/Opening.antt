-- Which epochs a run has, and what each opens.
use Rattle.std.specs.Prelude.{ℕ, ◌+◌, ◌&&◌, Bool, true, false, nat_lt, List, [], ◌∷◌}
use Rattle.graph_model.specs.declared.edge.Edge.{Edge}
use Rattle.graph_model.specs.declared.job.Job.{Job}
use Rattle.graph_model.specs.Programs.{Rules}
use Rattle.chunk_object.specs.Epochs.{Epoch}
use Rattle.epoch_laws.specs.Phases.{Opens, edge_shelf, updates_of, sending_in}
use Rattle.round_steps.specs.Rounds.{earlier_values}

module _ (rules : Rules) (job : Job) (edges : List Edge) where
  -- the epoch opens the chunks of all edges
  abbrev pub OpensEdges : Epoch → Type 0
  OpensEdges epoch = Opens (edge_shelf job edges) epoch

  -- the epoch opens the chunks of the updates that were sent for the round in the epoch before it, which was the t-th of the run
  abbrev pub OpensUpdates : (changed_only : Bool) → (t round : ℕ) → (scatter gather : Epoch) → Type 0
  OpensUpdates changed_only t round scatter gather = Opens (updates_of job edges (sending_in rules job.vertices edges round (earlier_values rules job.vertices edges round changed_only)) t scatter) gather

  -- in a round that is not the first for which this run sends, only vertices that changed send, where the program absorbs
  abbrev pub sends_changed : (first round : ℕ) → Bool
  sends_changed first round = nat_lt first round && rules.absorbs

  -- the epochs of all rounds from this one on, as far as they go; t epochs of the run stand before them
  abbrev pub OpensRounds : (first t round : ℕ) → List Epoch → Type 0
  OpensRounds first t round [] = Unit {0}
  OpensRounds first t round (scatter ∷ []) = OpensEdges scatter
  OpensRounds first t round (scatter ∷ gather ∷ epochs) =
      OpensEdges scatter × OpensUpdates (sends_changed first round) t round scatter gather × OpensRounds first (t + 2) (round + 1) epochs

  -- **The epochs of a run, as far as they go**: a count epoch first, where edges are counted, and then two for each round, one in which edges send and one in which exactly what was sent is gathered
  abbrev pub AreEpochsOf : (counts : Bool) → (first : ℕ) → List Epoch → Type 0
  AreEpochsOf false first epochs = OpensRounds first 0 first epochs
  AreEpochsOf true first [] = Unit {0}
  AreEpochsOf true first (count ∷ epochs) = OpensEdges count × OpensRounds first 1 first epochs
