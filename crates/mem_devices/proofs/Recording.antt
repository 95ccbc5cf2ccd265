-- What a call of a disk in memory makes of it, recorded or not.
use Rattle.std.proofs.Common.{◌≡◌, ℕ, ◌+◌, ◌≤◌, ◌⊎◌, ◌||◌, inl, inr, List, [], ◌∷◌, ◌++◌, length, take, drop, Bool, true, false, Some, if◌then◌else◌, All, arith, refl, sym, subst, ◌∙◌, ap}
use Rattle.std.specs.List.{list_any}
use Rattle.std.proofs.lemmas.Bool.{cases_lt}
use Rattle.std.proofs.lemmas.List.{take_all, take_at, drop_at, take-append-le, drop-append-le, length-append, map-append}
use Rattle.std.proofs.lemmas.List.Elements.{All-same, All-take, All-drop, All-push}
use Rattle.std.proofs.lemmas.List.Folds.{list_any-append}
use Rattle.ports.specs.Disk.{Changes, Uncovered, IsSettled}
use Rattle.mem_devices.specs.declared.call.Call.{Call}
use Rattle.mem_devices.specs.Call.{InPart, covers, after_call}
use Rattle.mem_devices.specs.History.{beats, after_calls, covered_calls, uncovered_calls, TakesEach, IsImage, MayLeave, recorded_state}
use Rattle.mem_devices.specs.Lawful.{in_part_same, in_part_after, after_calls-append, is_image_read, stop_at_end, length-beats}

or_true : (b : Bool) → (b || true) ≡ true
or_true true = refl
or_true false = refl

or_false : (b : Bool) → (b || false) ≡ b
or_false true = refl
or_false false = refl

any_covers-push : (calls : List Call) (call : Call) → covers call ≡ true → list_any covers (calls ++ call ∷ []) ≡ true
any_covers-push calls call covering =
    list_any-append covers calls (call ∷ []) ∙ ap (λ b. list_any covers calls || (b || false)) covering ∙ or_true (list_any covers calls)

any_covers-push_other : (calls : List Call) (call : Call) → covers call ≡ false → list_any covers (calls ++ call ∷ []) ≡ list_any covers calls
any_covers-push_other calls call other =
    list_any-append covers calls (call ∷ []) ∙ ap (λ b. list_any covers calls || (b || false)) other ∙ or_false (list_any covers calls)

-- A sync that succeeds covers all calls.
pub covered-push : (calls : List Call) (call : Call) → covers call ≡ true → covered_calls (calls ++ call ∷ []) ≡ calls ++ call ∷ []
covered-push [] call covering = ap (λ b. if b || false then call ∷ [] else []) covering
covered-push (x ∷ xs) call covering =
    ap (λ b. if b then x ∷ covered_calls (xs ++ call ∷ []) else []) (any_covers-push (x ∷ xs) call covering)
    ∙ ap (λ rest. x ∷ rest) (covered-push xs call covering)

pub uncovered-push : (calls : List Call) (call : Call) → covers call ≡ true → uncovered_calls (calls ++ call ∷ []) ≡ []
uncovered-push [] call covering = ap (λ b. if b || false then [] else call ∷ []) covering
uncovered-push (x ∷ xs) call covering =
    ap (λ b. if b then uncovered_calls (xs ++ call ∷ []) else x ∷ (xs ++ call ∷ [])) (any_covers-push (x ∷ xs) call covering)
    ∙ uncovered-push xs call covering

-- Any other call covers nothing.
pub covered-push_other : (calls : List Call) (call : Call) → covers call ≡ false → covered_calls (calls ++ call ∷ []) ≡ covered_calls calls
covered-push_other [] call other = ap (λ b. if b || false then call ∷ [] else []) other
covered-push_other (x ∷ xs) call other =
    ap (λ b. if b then x ∷ covered_calls (xs ++ call ∷ []) else []) (any_covers-push_other (x ∷ xs) call other)
    ∙ ap (λ rest. if list_any covers (x ∷ xs) then x ∷ rest else []) (covered-push_other xs call other)

pub uncovered-push_other : (calls : List Call) (call : Call) → covers call ≡ false → uncovered_calls (calls ++ call ∷ []) ≡ uncovered_calls calls ++ call ∷ []
uncovered-push_other [] call other = ap (λ b. if b || false then [] else call ∷ []) other
uncovered-push_other (x ∷ xs) call other =
    ap (λ b. if b then uncovered_calls (xs ++ call ∷ []) else x ∷ (xs ++ call ∷ [])) (any_covers-push_other (x ∷ xs) call other)
    ∙ ap (λ rest. if list_any covers (x ∷ xs) then rest else x ∷ (xs ++ call ∷ [])) (uncovered-push_other xs call other)
    ∙ (elim (list_any covers (x ∷ xs)) as (λ b. (if b then uncovered_calls xs ++ call ∷ [] else x ∷ (xs ++ call ∷ [])) ≡ (if b then uncovered_calls xs else x ∷ xs) ++ call ∷ []) [
      | true ↦ refl
      | false ↦ refl
    ])

takes_each-push : (calls : List Call) (call : Call) (image d c : List ℕ) → TakesEach calls image d → InPart call.work d c → TakesEach (calls ++ call ∷ []) image c
takes_each-push [] call image d c same part = (c, subst (λ (from : List ℕ). InPart call.work from c) same part, refl)
takes_each-push (x ∷ xs) call image d c takes part = (takes.0, takes.1, takes_each-push xs call takes.0 d c takes.2 part)

takes_each-pop : (calls : List Call) (call : Call) (image c : List ℕ) → TakesEach (calls ++ call ∷ []) image c → (d : List ℕ) × TakesEach calls image d × InPart call.work d c
takes_each-pop [] call image c takes = (image, refl, subst (InPart call.work image) (sym takes.2) takes.1)
takes_each-pop (x ∷ xs) call image c takes =
    let rest : (d : List ℕ) × TakesEach xs takes.0 d × InPart call.work d c = takes_each-pop xs call takes.0 c takes.2 in
    (rest.0, (takes.0, takes.1, rest.1), rest.2)

-- The images after a call that covers nothing are those before it, each with the call in part.
pub is_image-push : (first : List ℕ) (calls : List Call) (call : Call) (d c : List ℕ) → covers call ≡ false → IsImage first calls d → InPart call.work d c → IsImage first (calls ++ call ∷ []) c
is_image-push first calls call d c other image part =
    subst (λ (all : List Call). TakesEach all (after_calls (covered_calls (calls ++ call ∷ [])) first) c) (sym (uncovered-push_other calls call other))
    (subst (λ (all : List Call). TakesEach (uncovered_calls calls ++ call ∷ []) (after_calls all first) c) (sym (covered-push_other calls call other))
    (takes_each-push (uncovered_calls calls) call (after_calls (covered_calls calls) first) d c image part))

is_image-pop : (first : List ℕ) (calls : List Call) (call : Call) (c : List ℕ) → covers call ≡ false → IsImage first (calls ++ call ∷ []) c → (d : List ℕ) × IsImage first calls d × InPart call.work d c
is_image-pop first calls call c other image =
    takes_each-pop (uncovered_calls calls) call (after_calls (covered_calls calls) first) c
    (subst (λ (all : List Call). TakesEach (uncovered_calls calls ++ call ∷ []) (after_calls all first) c) (covered-push_other calls call other)
    (subst (λ (all : List Call). TakesEach all (after_calls (covered_calls (calls ++ call ∷ [])) first) c) (uncovered-push_other calls call other) image))

-- After a sync that succeeded what a read gives is the only image.
pub image_after_sync : (first : List ℕ) (calls : List Call) (call : Call) (c : List ℕ) → covers call ≡ true → IsImage first (calls ++ call ∷ []) c → c ≡ after_calls (calls ++ call ∷ []) first
image_after_sync first calls call c covering image =
    let last : TakesEach [] (after_calls (covered_calls (calls ++ call ∷ [])) first) c =
    subst (λ (all : List Call). TakesEach all (after_calls (covered_calls (calls ++ call ∷ [])) first) c) (uncovered-push calls call covering) image in
    last ∙ ap (λ all. after_calls all first) (covered-push calls call covering)

pub after_calls-push : (calls : List Call) (call : Call) (first : List ℕ) → after_calls (calls ++ call ∷ []) first ≡ after_call call (after_calls calls first)
after_calls-push calls call first = after_calls-append calls (call ∷ []) first

image_from_by : (first : List ℕ) (calls : List Call) (call : Call) (c : List ℕ) (b : Bool) → covers call ≡ b → IsImage first (calls ++ call ∷ []) c → (d : List ℕ) × IsImage first calls d × InPart call.work d c
image_from_by first calls call c true covering image =
    let read : List ℕ = after_calls calls first in
    let same : c ≡ after_call call read = image_after_sync first calls call c covering image ∙ after_calls-push calls call first in
    (read, is_image_read first calls, subst (InPart call.work read) (sym same) (in_part_after call read))
image_from_by first calls call c false other image = is_image-pop first calls call c other image

-- each image is one from before the call, with the call in part
image_from : (first : List ℕ) (calls : List Call) (call : Call) (c : List ℕ) → IsImage first (calls ++ call ∷ []) c → (d : List ℕ) × IsImage first calls d × InPart call.work d c
image_from first calls call c image = image_from_by first calls call c (covers call) refl image

pub beats-push : (calls : List Call) (call : Call) → beats (calls ++ call ∷ []) ≡ beats calls ++ call.beat ∷ []
beats-push calls call = map-append (λ (x : Call). x.beat) calls (call ∷ [])

All-parts : (P : ℕ → Type 0) (xs ys : List ℕ) → All P (xs ++ ys) → All P xs × All P ys
All-parts P xs ys all = (
  All-same P xs (take (length xs) (xs ++ ys)) (sym (take_at xs ys (length xs) refl)) (All-take P (length xs) (xs ++ ys) all),
  All-same P ys (drop (length xs) (xs ++ ys)) (sym (drop_at xs ys (length xs) refl)) (All-drop P (length xs) (xs ++ ys) all),
)

-- A stop of the record with the call is one without it, or one behind it.
stop_since : (first : List ℕ) (calls : List Call) (call : Call) (b t : ℕ) (c : List ℕ) → MayLeave first (calls ++ call ∷ []) b t c → MayLeave first calls b t c ⊎ ((call.beat ≤ b) × IsImage first (calls ++ call ∷ []) c)
stop_since first calls call b t c stop =
    let all : List Call = calls ++ call ∷ [] in
    let moment : ℕ = stop.moment in
    let numbers : beats all ≡ beats calls ++ call.beat ∷ [] = beats-push calls call in
    elim (cases_lt (length calls) moment) [
      | inl behind ↦
          let end : length all ≤ moment = omega (arith, length-append calls (call ∷ []), behind) in
          let long : length (beats all) ≤ moment = omega (arith, length-beats all, end) in
          let early : All (λ n. n ≤ b) (beats calls ++ call.beat ∷ []) =
          All-same (λ n. n ≤ b) (beats calls ++ call.beat ∷ []) (take moment (beats all)) (sym (take_all moment (beats all) long ∙ numbers)) stop.before in
          let last : call.beat ≤ b = (All-parts (λ n. n ≤ b) (beats calls) (call.beat ∷ []) early).1 0 0 (omega arith) in
          inr (last, stop_at_end first all b t c stop end)
      | inr within ↦
          let short : moment ≤ length (beats calls) = omega (arith, length-beats calls, within) in
          inl (record {
            moment = moment;
            since = stop.since;
            within = within;
            before = All-same (λ n. n ≤ b) (take moment (beats calls)) (take moment (beats all))
                (sym (ap (λ ns. take moment ns) numbers ∙ take-append-le moment (beats calls) (call.beat ∷ []) short)) stop.before;
            behind = (All-parts (λ n. b ≤ n) (drop moment (beats calls)) (call.beat ∷ [])
                (All-same (λ n. b ≤ n) (drop moment (beats calls) ++ call.beat ∷ []) (drop moment (beats all))
                (sym (ap (λ ns. drop moment ns) numbers ∙ drop-append-le moment (beats calls) (call.beat ∷ []) short)) stop.behind)).0;
            image = subst (λ (some : List Call). IsImage first some c) (take-append-le moment calls (call ∷ []) within) stop.image;
          })
    ]

stop_keeps : (first : List ℕ) (calls : List Call) (call : Call) (b t : ℕ) (c : List ℕ) → b ≤ call.beat → MayLeave first calls b t c → MayLeave first (calls ++ call ∷ []) b t c
stop_keeps first calls call b t c later stop =
    let all : List Call = calls ++ call ∷ [] in
    let moment : ℕ = stop.moment in
    let within : moment ≤ length calls = stop.within in
    let numbers : beats all ≡ beats calls ++ call.beat ∷ [] = beats-push calls call in
    let short : moment ≤ length (beats calls) = omega (arith, length-beats calls, within) in
    record {
      moment = moment;
      since = stop.since;
      within = omega (arith, length-append calls (call ∷ []), within);
      before = All-same (λ n. n ≤ b) (take moment (beats all)) (take moment (beats calls))
          (ap (λ ns. take moment ns) numbers ∙ take-append-le moment (beats calls) (call.beat ∷ []) short) stop.before;
      behind = All-same (λ n. b ≤ n) (drop moment (beats all)) (drop moment (beats calls) ++ call.beat ∷ [])
          (ap (λ ns. drop moment ns) numbers ∙ drop-append-le moment (beats calls) (call.beat ∷ []) short)
          (All-push (λ n. b ≤ n) (drop moment (beats calls)) call.beat stop.behind later);
      image = subst (λ (some : List Call). IsImage first some c) (sym (take-append-le moment calls (call ∷ []) within)) stop.image;
    }

-- A call that is recorded.
pub recorded_changes : (first bytes : List ℕ) (calls : List Call) (call : Call) (number faults faults' : ℕ) → Changes call.beat (InPart call.work) (recorded_state first bytes calls number faults) (recorded_state first (after_call call bytes) (calls ++ call ∷ []) call.beat faults')
recorded_changes first bytes calls call number faults faults' =
    let one_more : length (calls ++ call ∷ []) ≡ length calls + 1 = length-append calls (call ∷ []) in
    record {
      bytes = in_part_after call bytes;
      images = λ c image. image_from first calls call c image;
      beat = refl;
      later = omega (arith, one_more);
      unmoved = λ same c image. absurd (omega (arith, one_more, same));
      since = λ b t c before stop. stop_since first calls call b t c stop;
      keeps = λ b t c before later stop. stop_keeps first calls call b t c later stop;
    }

pub recorded_uncovered : (first bytes : List ℕ) (calls : List Call) (call : Call) (number faults faults' : ℕ) → covers call ≡ false → Uncovered (InPart call.work) (recorded_state first bytes calls number faults) (recorded_state first (after_call call bytes) (calls ++ call ∷ []) call.beat faults')
recorded_uncovered first bytes calls call number faults faults' other = record {
  stays = λ c image. is_image-push first calls call c c other image (in_part_same call.work c);
  may = λ moved c after. is_image-push first calls call after.0 c other after.1 after.2;
}

pub recorded_settled : (first bytes : List ℕ) (calls : List Call) (call : Call) (faults : ℕ) → bytes ≡ after_calls calls first → covers call ≡ true → IsSettled (recorded_state first (after_call call bytes) (calls ++ call ∷ []) call.beat faults)
recorded_settled first bytes calls call faults replayed covering c image =
    ap (λ xs. Some xs) (ap (λ xs. after_call call xs) replayed ∙ sym (after_calls-push calls call first) ∙ sym (image_after_sync first calls call c covering image))

-- One that is not, for want of memory.
pub unrecorded_changes : (part : List ℕ → List ℕ → Type 0) (first bytes : List ℕ) (calls : List Call) (number number' faults faults' : ℕ) → ((a : List ℕ) → part a a) → Changes number' part (recorded_state first bytes calls number faults) (recorded_state first bytes calls number' faults')
unrecorded_changes part first bytes calls number number' faults faults' nothing = record {
  bytes = nothing bytes;
  images = λ c image. (c, image, nothing c);
  beat = refl;
  later = omega arith;
  unmoved = λ same c image. image;
  since = λ b t c before stop. inl stop;
  keeps = λ b t c before later stop. stop;
}

pub unrecorded_uncovered : (part : List ℕ → List ℕ → Type 0) (first bytes : List ℕ) (calls : List Call) (number number' faults faults' : ℕ) → Uncovered part (recorded_state first bytes calls number faults) (recorded_state first bytes calls number' faults')
unrecorded_uncovered part first bytes calls number number' faults faults' = record {
  stays = λ c image. image;
  may = λ moved c after. absurd (omega (arith, moved));
}
