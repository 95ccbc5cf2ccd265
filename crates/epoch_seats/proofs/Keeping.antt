-- The calls that a worker's seat makes are its own.
use Rattle.std.proofs.Common.{◌≡◌, ℕ, List, [], ◌++◌, map, ap, sym, ◌∙◌}
use Rattle.std.proofs.lemmas.List.{map-append}
use Rattle.chunk_object.specs.declared.call.Call.{Call}
use Rattle.chunk_object.specs.declared.call.Entry.{Entry}
use Rattle.chunk_object.specs.Epochs.{entry_of}
use Rattle.chunk_cursor.specs.declared.view.View.{View}
use Rattle.chunk_cursor.specs.View.{with_calls}
use Rattle.worker_duty.proofs.Elsewhere.{calls_of-more}
use Rattle.worker_duty.specs.Views.{calls_of}
use Rattle.epoch_seats.specs.Seats.{IsSeatOf}

pub own_still : (before worker : ℕ) (v : View) (calls : List Call) → IsSeatOf before worker v → IsSeatOf before worker (with_calls v calls)
own_still before worker v calls is = record {
  serial = is.serial;
  number = is.number;
  own = ap (λ story. story ++ map (entry_of v.serial v.worker) calls) is.own
      ∙ (sym (map-append (entry_of v.serial v.worker) (calls_of v) calls) ∙ ap (map (entry_of v.serial v.worker)) (sym (calls_of-more v calls)));
}

-- where it made none before, they are its list
pub calls_are : (v : View) (calls : List Call) → v.story ≡ [] → calls_of (with_calls v calls) ≡ calls
calls_are v calls none = calls_of-more v calls ∙ ap (λ (story : List Entry). map (λ (e : Entry). e.call) story ++ calls) none
