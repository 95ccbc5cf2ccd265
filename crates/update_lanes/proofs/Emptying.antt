-- Buffers that are emptied, one after another, and what a worker has sent before its first update.
use Rattle.std.proofs.Common.{◌≡◌, ℕ, ◌+◌, ◌<◌, List, [], ◌∷◌, length, get_or, refl, sym, ◌∙◌, subst, arith}
use Rattle.std.specs.Prelude.{Vec, vec_len}
use Rattle.std.specs.Global.{Global}
use Rattle.std.proofs.lemmas.List.Elements.{All-nil}
use Rattle.graph_model.specs.declared.job.Job.{Job}
use Rattle.graph_model.specs.declared.value.Update.{Update}
use Rattle.graph_model.specs.Jobs.{parts_of}
use Rattle.graph_model.proofs.ListLemmas.{at_set}
use Rattle.ports.specs.Disk.{DiskState}
use Rattle.chunk_model.proofs.Waiting.{hold_none}
use Rattle.seeded_place.specs.Placing.{Placing, HasPlaced, update_stream}
use Rattle.phase_model.specs.declared.placed.Placed.{Placed}
use Rattle.phase_model.specs.Lanes.{update_home}
use Rattle.update_lanes.specs.Lanes.{HasChunks}
use Rattle.update_lanes.specs.Outgoing.{Lists, waiting, AreBuffers, NoneWaits, Empties, FitsJob, HasSent}
use Rattle.update_lanes.proofs.Sent.{waiting_at, length-waiting, length-empties, empties_room}

-- the buffers below q were emptied
pub record IsEmptying (q : ℕ) (old new : Lists) : Type 0 where
  pub many : length new ≡ length old
  pub rooms : (size : ℕ) → AreBuffers size old → AreBuffers size new
  pub none : (p : ℕ) (d : Vec Update Global) → p < length new → p < q → (vec_len (get_or new p d) ≡ 0) × ((get_or new p d).items ≡ [])

pub emptying_none : (buffers : Lists) → IsEmptying 0 buffers buffers
emptying_none buffers = record { many = refl; rooms = λ size rooms. rooms; none = λ p d below before. absurd (omega (arith, before)) }

pub emptying_one : (q : ℕ) (old mid new : Lists) → q < length mid → IsEmptying q old mid → Empties q mid new → IsEmptying (q + 1) old new
emptying_one q old mid new within is e = record {
  many = length-empties q mid new e ∙ is.many;
  rooms = λ size rooms. empties_room size q mid new within (is.rooms size rooms) e;
  none = λ p d below before.
      subst (λ xs. (vec_len (get_or xs p d) ≡ 0) × ((get_or xs p d).items ≡ [])) (sym e.is)
      (at_set (λ j x. (vec_len x ≡ 0) × (x.items ≡ [])) mid q p e.buffer d within (λ same. (e.short, e.none))
      (λ other. is.none p d (omega (arith, length-empties q mid new e, below)) (omega (arith, before, other))));
}

-- **Nothing was sent yet.**
pub sent_nothing : {X : Type 0} (state : X → DiskState) (job : Job) (epoch worker : ℕ) (buffers : Lists) (placer : Placing) (lanes : List X) (places : List Placed) → length buffers ≡ parts_of job → NoneWaits buffers
    → HasPlaced job.seed (update_stream epoch worker) job.engines 0 placer → places ≡ [] → ((e : ℕ) (d : X) → e < length lanes → HasChunks [] (state (get_or lanes e d)))
    → HasSent state job epoch worker [] buffers placer lanes places
sent_nothing state job epoch worker buffers placer lanes places many none placed no_places empty = record {
  fit = All-nil (FitsJob job);
  below = All-nil (λ (u : Update). update_home job u < parts_of job);
  holds = hold_none job.chunk (update_home job) (parts_of job) (waiting buffers) (length-waiting buffers ∙ many) (λ p below. waits p (omega (arith, many, below)));
  made = record { placer_has = placed; written = record { places_are = no_places; lanes_are = empty } };
}
  where
    waits_by : (xs : Lists) → NoneWaits xs → (p : ℕ) → p < length xs → get_or (waiting xs) p [] ≡ []
    waits_by [] none p below = absurd (omega (arith, below))
    waits_by (x ∷ xs) none p below = waiting_at (x ∷ xs) p x below ∙ (none p x below).1

    waits : (p : ℕ) → p < length buffers → get_or (waiting buffers) p [] ≡ []
    waits = waits_by buffers none
