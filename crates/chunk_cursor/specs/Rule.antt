-- The rule of the table, which holds between any two steps.
use Rattle.std.specs.Prelude.{◌≡◌, ◌≢◌, ℕ, suc, ◌+◌, ◌*◌, ◌<◌, ◌≤◌, true, false, List, [], length, slice_index}
use Rattle.std.specs.List.{filter}
use mathlib.Core.Option.{some}
use lib.ListN.{get_elem?}
use Rattle.atomic_table.specs.Table.{State}
use Rattle.chunk_object.specs.declared.call.Entry.{Entry}
use Rattle.chunk_object.specs.History.{unborn, living, stages, entries_of, bears_on, refusals, object_after, epoch_of, IsHistory}
use Rattle.chunk_cursor.specs.declared.view.View.{View}
use Rattle.chunk_cursor.specs.View.{knows, out_at, IsFirst}

-- the unit of the high half of a word
abbrev pub half : ℕ
half = 4294967296

-- The words show the chunk object after the history. The word of a cursor has its number of chunks in the high half, and in the low half the next chunk, raised by the refusals since it was opened
pub record Shows (words : List ℕ) (history : List Entry) : Type 0 where
  pub size : length words ≡ 576
  pub cursors : (cursor : ℕ) → cursor < 512 → slice_index words cursor ≡ (object_after history).len cursor * half + ((object_after history).next cursor + refusals cursor history)
  pub helpers : (partition : ℕ) → partition < 64 → slice_index words (512 + partition) ≡ (object_after history).heads partition

-- A living seat that was split off: the first seat knows it, its calls in the history are just its list, and what it held and its list have all that bears on its worker. The first seat's own list has gained nothing since that would bear on it
pub record IsSeated (history : List Entry) (first : View) (id : ℕ) (v : View) : Type 0 where
  pub serial : v.serial ≡ id
  pub worker : v.worker < 8
  pub known : out_at first v.worker ≡ id
  pub calls : entries_of id history ≡ v.story
  pub bears : filter (bears_on v.worker) history ≡ filter (bears_on v.worker) (knows v)
  pub held : filter (bears_on v.worker) first.story ≡ filter (bears_on v.worker) v.held
  pub lives : stages history id ≡ living
  pub apart : entries_of id first.story ≡ []
  pub quiet : (worker : ℕ) → worker ≢ v.worker → filter (bears_on worker) v.story ≡ []
  pub engines : (epoch_of v.held).engines ≡ (epoch_of history).engines
  pub greeted : (epoch_of v.held).greeted ≡ (epoch_of history).greeted
  pub is_split : (epoch_of history).is_split ≡ true

-- no seat that is out has this serial number
abbrev pub IsBack : View → ℕ → Type 0
IsBack v serial = (worker : ℕ) → out_at v worker ≡ serial → serial ≡ 0

-- The seats: a seat's place among the views is its serial number. The calls of each caller that is back are in the history just those that the first seat has
pub record AreSeated (history : List Entry) (first : View) (views : List View) : Type 0 where
  pub place : get_elem? views 0 ≡ some first
  pub number : IsFirst first
  pub held : first.held ≡ []
  pub lives : first.spent ≡ false
  pub workers : length first.out ≡ 8
  pub count : length views ≡ suc first.splits
  pub outs : (worker : ℕ) → out_at first worker ≤ first.splits
  pub calls : (serial : ℕ) → IsBack first serial → entries_of serial history ≡ entries_of serial first.story
  pub none_later : (serial : ℕ) → first.splits < serial → entries_of serial history ≡ []
  pub unborn_later : (serial : ℕ) → first.splits < serial → stages history serial ≡ unborn
  pub bears : (worker : ℕ) → out_at first worker ≡ 0 → filter (bears_on worker) history ≡ filter (bears_on worker) first.story
  pub seated : (id : ℕ) (v : View) → get_elem? views id ≡ some v → id ≢ 0 → v.spent ≡ false → IsSeated history first id v

-- There is one history, which the words show, and in which the lists of all seats stand
pub record IsKept (s : State (Unit {0}) View) : Type 0 where
  pub history : List Entry
  pub first : View
  pub is : IsHistory history
  pub shows : Shows s.words history
  pub seats : AreSeated history first s.views
