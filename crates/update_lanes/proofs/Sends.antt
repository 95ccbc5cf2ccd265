-- Updates that are sent one after another.
use Rattle.std.proofs.Common.{◌≡◌, ℕ, ◌+◌, ◌*◌, ◌<◌, ◌≤◌, Bool, true, false, cond, Option, Some, None, List, [], ◌∷◌, ◌++◌, length, take, get_or, refl, sym, ◌∙◌, ap, subst, arith, append-nil, append_assoc, length-append, add-one}
use Rattle.std.specs.List.{All}
use Rattle.std.proofs.Math.Seq.{take-suc}
use Rattle.std.proofs.lemmas.Grind.{flat_map-append}
use Rattle.graph_model.specs.declared.edge.Edge.{Edge}
use Rattle.graph_model.specs.declared.value.Update.{Update}
use Rattle.ports.specs.Disk.{DiskState}
use Rattle.partitioner.specs.declared.split.Split.{Split}
use Rattle.partitioner.specs.Splits.{IsSplitOf}
use Rattle.phase_model.specs.declared.placed.Placed.{Placed}
use Rattle.phase_model.specs.Sends.{Sending, is_sender, update_to, sent_along, sent_by}
use Rattle.update_lanes.specs.declared.outgoing.Outgoing.{Outgoing}
use Rattle.update_lanes.specs.Lanes.{AreReady, GoOn, IsWithin}
use Rattle.update_lanes.specs.Outgoing.{HasSent, HasRoom, NoneFull, IsSameRoom, SendsOn, StopsOn}
use Rattle.update_lanes.proofs.GoingOn.{goes_on, stays}
use Rattle.update_lanes.proofs.Sent.{places_few}

-- the next edge sends behind the ones before
pub sent_by-next : (s : Sending) (edges : List Edge) (i : ℕ) (d : Edge) → i < length edges → sent_by s (take (i + 1) edges) ≡ sent_by s (take i edges) ++ sent_along s (get_or edges i d)
sent_by-next s edges i d below =
    ap (λ k. sent_by s (take k edges)) (add-one i) ∙ ap (sent_by s) (take-suc edges i d below)
    ∙ flat_map-append (sent_along s) (take i edges) (get_or edges i d ∷ [])
    ∙ ap (λ us. sent_by s (take i edges) ++ us) (append-nil (sent_along s (get_or edges i d)))

-- nothing was sent yet
pub sends_none : {X : Type 0} (state : X → DiskState) (number : ℕ) (out : Outgoing) (lanes : List X) (places : List Placed) → HasRoom out → NoneFull out.size out.buffers.items → AreReady state out.split.engines number (length places) lanes
    → SendsOn state number out out lanes lanes places places []
sends_none state number out lanes places room none ready = record {
  same = record { split = refl; size = refl; format = refl; bytes = refl };
  room = room;
  open_still = none;
  go_on = stays state number lanes;
  ready = ready;
  within = λ all. all;
  sent = λ job epoch worker before of_job size has. subst (λ updates. HasSent state job epoch worker updates out.buffers.items out.placer lanes places) (sym (append-nil before)) has;
}

pub same_room : (old mid new : Outgoing) → IsSameRoom old mid → IsSameRoom mid new → IsSameRoom old new
same_room old mid new first next = record { split = next.split ∙ first.split; size = next.size ∙ first.size; format = next.format ∙ first.format; bytes = next.bytes ∙ first.bytes }

-- some updates, and then others
pub sends_then : {X : Type 0} (state : X → DiskState) (number : ℕ) (old mid new : Outgoing) (lanes half written : List X) (places some noted : List Placed) (us vs : List Update)
    → SendsOn state number old mid lanes half places some us → SendsOn state number mid new half written some noted vs → SendsOn state number old new lanes written places noted (us ++ vs)
sends_then {X} state number old mid new lanes half written places some noted us vs first next = record {
  same = same_room old mid new first.same next.same;
  room = next.room;
  open_still = next.open_still;
  go_on = goes_on state number lanes half written first.go_on next.go_on;
  ready = next.ready;
  within = λ all. subst (λ (s : Split). All (IsWithin s.engines s.parts) noted) first.same.split (next.within (subst (λ (s : Split). All (IsWithin s.engines s.parts) some) (sym first.same.split) (first.within all)));
  sent = λ job epoch worker before of_job size has.
      subst (λ updates. HasSent state job epoch worker updates new.buffers.items new.placer written noted) (append_assoc before us vs)
      (next.sent job epoch worker (before ++ us) (subst (λ (s : Split). IsSplitOf job s) (sym first.same.split) of_job) (first.same.size ∙ size) (first.sent job epoch worker before of_job size has));
}

-- what was sent until it was stopped is no more than so much
pub stops_then : {X : Type 0} (state : X → DiskState) (number : ℕ) (old mid new : Outgoing) (lanes half written : List X) (places some noted : List Placed) (us : List Update) (most : ℕ)
    → SendsOn state number old mid lanes half places some us → IsSameRoom mid new → HasRoom new → GoOn state number half written → noted ≡ some → length us ≤ most
    → StopsOn state number old new lanes written places noted most
stops_then {X} state number old mid new lanes half written places some noted us most first same room go kept few = record {
  same = same_room old mid new first.same same;
  room = room;
  go_on = goes_on state number lanes half written first.go_on go;
  within = λ all. subst (λ ps. All (IsWithin old.split.engines old.split.parts) ps) (sym kept) (first.within all);
  few = λ job epoch worker before of_job size has.
      let sent = first.sent job epoch worker before of_job size has in
      let some_size : 1 ≤ job.chunk = omega (arith, first.room.size.0, first.same.size, size) in
      omega (arith, ap (λ ps. length ps * job.chunk) kept, places_few state job epoch worker (before ++ us) mid.buffers.items mid.placer half some some_size sent, length-append before us, few);
}

-- an edge sends one update at most
length-sent_along : (s : Sending) (e : Edge) → length (sent_along s e) ≤ 1
length-sent_along s e = by_test (is_sender s e.src)
  where
    by_number : (number : Option ℕ) → length (update_to e.dst number) ≤ 1
    by_number None = omega arith
    by_number (Some number) = omega arith

    by_test : (b : Bool) → length (cond b (update_to e.dst (s.send (s.now e.src) e.weight)) []) ≤ 1
    by_test true = by_number (s.send (s.now e.src) e.weight)
    by_test false = omega arith

pub length-sent_by : (s : Sending) (edges : List Edge) → length (sent_by s edges) ≤ length edges
length-sent_by s [] = omega arith
length-sent_by s (e ∷ es) = omega (arith, length-append (sent_along s e) (sent_by s es), length-sent_along s e, length-sent_by s es)
