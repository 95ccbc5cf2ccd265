-- The first seat between epochs, and what an epoch adds to its story.
use Rattle.std.specs.Prelude.{◌≡◌, ◌+◌, true, ◌++◌}
use Rattle.chunk_object.specs.History.{epoch_of, StandsWhole}
use Rattle.chunk_object.specs.Epochs.{Terms, Epoch, epoch_entries}
use Rattle.chunk_cursor.specs.declared.view.View.{View}
use Rattle.chunk_cursor.specs.View.{IsAlone}

-- **No epoch is open**: the first seat is alone, and what it opens next begins an epoch
pub record IsBetweenEpochs (v : View) : Type 0 where
  pub alone : IsAlone v
  pub ended : (epoch_of v.story).is_split ≡ true

-- **The epoch was opened, and has ended**: its entries stand in the story behind what stood there, and all calls of all callers, each with its reply, stand in one legal history
pub record HasEnded (terms : Terms) (before after : View) (epoch : Epoch) : Type 0 where
  pub story : after.story ≡ before.story ++ epoch_entries terms before.splits epoch
  pub splits : after.splits ≡ before.splits + terms.engines
  pub held : after.held ≡ before.held
  pub between : IsBetweenEpochs after
  pub whole : StandsWhole after.story
