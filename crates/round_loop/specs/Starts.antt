-- Where a run begins, which rounds and epochs it has from there, and which rounds it may come to.
use Rattle.std.specs.Prelude.{◌≡◌, ℕ, ◌+◌, ◌-◌, ◌*◌, ◌<◌, ◌≤◌, Bool, false, if◌then◌else◌, None, Some, List, length}
use Rattle.graph_model.specs.declared.edge.Edge.{Edge}
use Rattle.graph_model.specs.Programs.{Rules}
use Rattle.graph_model.specs.Rounds.{Repeats, IsLastRound, IsUnsettled}
use Rattle.chunk_object.specs.Epochs.{Epoch}
use Rattle.round_loop.specs.declared.run.Start.{Start}
use Rattle.round_loop.specs.declared.run.Start.TheVariants.{Fresh, At}

-- the first round that is made
abbrev pub first_made : Start → ℕ
first_made Fresh = 0
first_made (At round changed) = round + 1

-- the first round for which edges send
abbrev pub first_sent : Start → ℕ
first_sent Fresh = 1
first_sent (At round changed) = round + 1

-- edges are counted first
abbrev pub counts_first : Rules → Start → Bool
counts_first rules Fresh = rules.counts
counts_first rules (At round changed) = false

-- how many epochs a run has to the end of a round
abbrev pub epochs_to : Rules → Start → (round : ℕ) → ℕ
epochs_to rules start round = (if counts_first rules start then 1 else 0) + 2 * (round + 1 - first_sent start)

-- the last of these epochs belongs to this round, which is at least 1
pub record IsLastBegun (rules : Rules) (start : Start) (epochs : List Epoch) (round : ℕ) : Type 0 where
  pub later : 1 ≤ round
  pub begun : epochs_to rules start (round - 1) < length epochs
  pub within : length epochs ≤ epochs_to rules start round

-- **A round that a run may come to**: none beyond the last one, nor beyond the limit where there is no last one
pub record IsReached (rules : Rules) (vertices : ℕ) (edges : List Edge) (limit round : ℕ) : Type 0 where
  pub no_later : (last : ℕ) → IsLastRound rules vertices edges limit last → round ≤ last
  pub within : IsUnsettled rules vertices edges limit → round ≤ limit

-- the same, by the rounds before
pub record IsDue (rules : Rules) (vertices : ℕ) (edges : List Edge) (limit round : ℕ) : Type 0 where
  pub fixed : (last : ℕ) → rules.rounds ≡ Some last → round ≤ last
  pub within : rules.rounds ≡ None → round ≤ limit
  pub early : rules.rounds ≡ None → (earlier : ℕ) → earlier < round → ¬ (Repeats rules vertices edges earlier)
