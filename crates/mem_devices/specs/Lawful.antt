-- A disk in memory is a disk, whatever calls it has recorded.
use Rattle.std.proofs.Common.{◌≡◌, ℕ, ◌<◌, ◌≤◌, inl, inr, List, [], ◌∷◌, ◌++◌, length, take, drop, get_or, true, false, if◌then◌else◌, All, arith, refl, sym, subst, ◌∙◌, ap}
use Rattle.std.specs.List.{list_any}
use Rattle.std.proofs.lemmas.Bool.{cases_lt}
use Rattle.std.proofs.lemmas.List.{take_all, drop_all, length-map, length-drop, get_or-drop}
use Rattle.std.proofs.lemmas.List.Elements.{All-same, All-weaker, All-nil}
use Rattle.ports.specs.Disk.{IsDisk}
use Rattle.ports.proofs.Parts.{torn_same, cut_same, cut_take}
use Rattle.mem_devices.specs.declared.call.Call.{Call}
use Rattle.mem_devices.specs.declared.call.Work.{Work}
use Rattle.mem_devices.specs.declared.call.Work.TheVariants.{Write, Cut, Sync}
use Rattle.mem_devices.specs.Call.{InPart, covers, after_call, after_work}
use Rattle.mem_devices.specs.History.{beats, after_calls, covered_calls, uncovered_calls, TakesEach, IsImage, MayLeave, recorded_state}
use Rattle.mem_devices.specs.Overlays.{torn_overlay}

pub in_part_same : (work : Work) (bytes : List ℕ) → InPart work bytes bytes
in_part_same (Write patch) bytes = torn_same patch.at (length patch.piece.items) bytes
in_part_same (Cut size) bytes = cut_same size bytes
in_part_same Sync bytes = refl

pub in_part_whole : (work : Work) (bytes : List ℕ) → InPart work bytes (after_work work bytes)
in_part_whole (Write patch) bytes = torn_overlay patch.at patch.piece.items bytes
in_part_whole (Cut size) bytes = cut_take size bytes
in_part_whole Sync bytes = refl

-- what a read gives after a call is one way to do it in part
pub in_part_after : (call : Call) (bytes : List ℕ) → InPart call.work bytes (after_call call bytes)
in_part_after call bytes =
    elim call.failed as (λ failed. InPart call.work bytes (if failed then bytes else after_work call.work bytes)) [
      | true ↦ in_part_same call.work bytes
      | false ↦ in_part_whole call.work bytes
    ]

pub after_calls-append : (xs ys : List Call) (bytes : List ℕ) → after_calls (xs ++ ys) bytes ≡ after_calls ys (after_calls xs bytes)
after_calls-append [] ys bytes = refl
after_calls-append (x ∷ xs) ys bytes = after_calls-append xs ys (after_call x bytes)

-- covered and uncovered calls are all of them
pub covered-append : (calls : List Call) → covered_calls calls ++ uncovered_calls calls ≡ calls
covered-append [] = refl
covered-append (call ∷ calls) =
    elim (list_any covers (call ∷ calls)) as (λ b. (if b then call ∷ covered_calls calls else []) ++ (if b then uncovered_calls calls else call ∷ calls) ≡ call ∷ calls) [
      | true ↦ ap (λ rest. call ∷ rest) (covered-append calls)
      | false ↦ refl
    ]

-- What a read gives is an image.
takes_each_after : (calls : List Call) (image : List ℕ) → TakesEach calls image (after_calls calls image)
takes_each_after [] image = refl
takes_each_after (call ∷ calls) image = (after_call call image, in_part_after call image, takes_each_after calls (after_call call image))

pub is_image_read : (first : List ℕ) (calls : List Call) → IsImage first calls (after_calls calls first)
is_image_read first calls =
    subst (IsImage first calls)
    (sym (after_calls-append (covered_calls calls) (uncovered_calls calls) first) ∙ ap (λ all. after_calls all first) (covered-append calls))
    (takes_each_after (uncovered_calls calls) (after_calls (covered_calls calls) first))

-- The moment after all calls.
pub length-beats : (calls : List Call) → length (beats calls) ≡ length calls
length-beats calls = length-map calls (λ (call : Call). call.beat)

stops_now : (first : List ℕ) (calls : List Call) (number b t : ℕ) (c : List ℕ) → All (λ n. n ≤ number) (beats calls) → number ≤ b → t ≤ length calls → IsImage first calls c → MayLeave first calls b t c
stops_now first calls number b t c bound later since image =
    let all : take (length calls) (beats calls) ≡ beats calls = take_all (length calls) (beats calls) (omega (arith, length-beats calls)) in
    let none : drop (length calls) (beats calls) ≡ [] = drop_all (length calls) (beats calls) (omega (arith, length-beats calls)) in
    record {
      moment = length calls;
      since = since;
      within = omega arith;
      before = All-same (λ n. n ≤ b) (take (length calls) (beats calls)) (beats calls) all (All-weaker (λ n. n ≤ number) (λ n. n ≤ b) (λ n below. omega arith) (beats calls) bound);
      behind = All-same (λ n. b ≤ n) (drop (length calls) (beats calls)) [] none (All-nil (λ n. b ≤ n));
      image = subst (λ (some : List Call). IsImage first some c) (sym (take_all (length calls) calls (omega arith))) image;
    }

pub stop_at_end : (first : List ℕ) (calls : List Call) (b t : ℕ) (c : List ℕ) (stop : MayLeave first calls b t c) → length calls ≤ stop.moment → IsImage first calls c
stop_at_end first calls b t c stop end = subst (λ (some : List Call). IsImage first some c) (take_all stop.moment calls end) stop.image

-- a beat after that of the last call has no moment but this one
no_call_behind : (first : List ℕ) (calls : List Call) (number b t : ℕ) (c : List ℕ) → All (λ n. n ≤ number) (beats calls) → number < b → (stop : MayLeave first calls b t c) → length calls ≤ stop.moment
no_call_behind first calls number b t c bound later stop =
    elim (cases_lt stop.moment (length calls)) [
      | inl inside ↦
          let there : stop.moment < length (beats calls) = omega (arith, length-beats calls) in
          let here : 0 < length (drop stop.moment (beats calls)) = omega (arith, length-drop stop.moment (beats calls)) in
          let low : b ≤ get_or (drop stop.moment (beats calls)) 0 0 = stop.behind 0 0 here in
          let same : get_or (drop stop.moment (beats calls)) 0 0 ≡ get_or (beats calls) stop.moment 0 = get_or-drop stop.moment (beats calls) 0 0 ∙ ap (λ n. get_or (beats calls) n 0) (omega arith) in
          let high : get_or (beats calls) stop.moment 0 ≤ number = bound stop.moment 0 there in
          absurd (omega (arith, low, same, high, later))
      | inr end ↦ end
    ]

pub recorded_is_disk : (first bytes : List ℕ) (calls : List Call) (number faults : ℕ) → bytes ≡ after_calls calls first → All (λ n. n ≤ number) (beats calls) → IsDisk (recorded_state first bytes calls number faults)
recorded_is_disk first bytes calls number faults replayed bound = record {
  sized = refl;
  present = subst (IsImage first calls) (sym replayed) (is_image_read first calls);
  told = λ c image. refl;
  counts_now = λ b t c later since image. stops_now first calls number b t c bound later since image;
  only_now = λ b c stop. stop_at_end first calls b (length calls) c stop stop.since;
  later_beats = λ b t c later stop. stop_at_end first calls b t c stop (no_call_behind first calls number b t c bound later stop);
}
