-- Claims at many cursors, as workers make them in tests.
use Rattle.std.specs.Prelude.{◌≡◌, ◌≢◌, ℕ, ◌<◌, ◌≤◌}
use Rattle.chunk_object.specs.History.{refusals_of}
use Rattle.chunk_cursor.specs.declared.view.View.{View}
use Rattle.chunk_cursor.specs.View.{MayClaim}

-- the seat may claim at each cursor from `low` on and below `high`
abbrev pub MayClaimWithin : (low high : ℕ) → View → Type 0
MayClaimWithin low high v = (cursor : ℕ) → low ≤ cursor → cursor < high → MayClaim v cursor

-- nobody was refused at the cursors below `high` since they were opened, as far as the first seat knows
abbrev pub IsFreshBelow : ℕ → View → Type 0
IsFreshBelow high v = (worker cursor : ℕ) → cursor < high → refusals_of worker cursor v.story ≡ 0

-- the seat has made claims at this cursor
pub record HasDrained (cursor : ℕ) (old new : View) : Type 0 where
  pub worker : new.worker ≡ old.worker
  pub others : (other : ℕ) → other ≢ cursor → MayClaim old other → MayClaim new other
