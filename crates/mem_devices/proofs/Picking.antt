-- The images that are picked are what they are said to be, and images of the model.
use Rattle.std.proofs.Common.{◌≡◌, ℕ, ◌+◌, ◌<◌, ◌≤◌, List, [], ◌∷◌, ◌++◌, length, take, drop, get_or, replicate, slice_index, true, false, Bool, All, zero, suc, if◌then◌else◌, arith, refl, sym, subst, ◌∙◌, ap}
use Rattle.std.specs.List.Sorted.{IsNonDecreasing}
use Rattle.std.proofs.lemmas.List.{take_more, take_all, drop_all, take_at, drop_at, append-nil, length-append, length-take, length-take-le, length-drop, length-replicate, get_or-take, get_or-drop}
use Rattle.std.proofs.lemmas.List.Elements.{All-from_get_or}
use Rattle.ports.specs.Bytes.{Torn}
use Rattle.mem_devices.specs.declared.call.Call.{Call}
use Rattle.mem_devices.specs.declared.call.Work.{Work}
use Rattle.mem_devices.specs.declared.call.Work.TheVariants.{Write, Cut, Sync}
use Rattle.mem_devices.specs.declared.image.Pick.{Pick}
use Rattle.mem_devices.specs.declared.image.Pick.TheVariants.{Nothing, Written, Filled}
use Rattle.mem_devices.specs.Bytes.{overlay}
use Rattle.mem_devices.specs.Call.{InPart, covers, is_sync, after_call}
use Rattle.mem_devices.specs.History.{beats, after_calls, covered_calls, uncovered_calls, TakesEach, IsImage, MayLeave}
use Rattle.mem_devices.specs.Images.{filled, taken, taken_each, picked_image}
use Rattle.mem_devices.specs.Lawful.{in_part_same, in_part_whole, covered-append, length-beats}
use Rattle.mem_devices.specs.Overlays.{torn_overlay}
use Rattle.mem_devices.proofs.Recording.{covered-push, covered-push_other, after_calls-push, is_image-push}

taken_each-append : (pick : Pick) (xs ys : List Call) (bytes : List ℕ) → taken_each pick (xs ++ ys) bytes ≡ taken_each pick ys (taken_each pick xs bytes)
taken_each-append pick [] ys bytes = refl
taken_each-append pick (x ∷ xs) ys bytes = taken_each-append pick xs ys (taken pick x.work bytes)

-- a step of each loop
pub taken_each-more : (pick : Pick) (calls : List Call) (i : ℕ) (call : Call) (first now new : List ℕ) → i < length calls → call ≡ get_or calls i call → now ≡ taken_each pick (take i calls) first → new ≡ taken pick call.work now → new ≡ taken_each pick (take (i + 1) calls) first
taken_each-more pick calls i call first now new within at so_far step =
    step ∙ ap (λ bytes. taken pick call.work bytes) so_far
    ∙ sym (ap (λ all. taken_each pick all first) (take_more calls i call within ∙ ap (λ x. take i calls ++ x ∷ []) (sym at)) ∙ taken_each-append pick (take i calls) (call ∷ []) first)

pub after_calls-more : (calls : List Call) (i : ℕ) (call : Call) (first now new : List ℕ) → i < length calls → call ≡ get_or calls i call → now ≡ after_calls (take i calls) first → new ≡ after_call call now → new ≡ after_calls (take (i + 1) calls) first
after_calls-more calls i call first now new within at so_far step =
    step ∙ ap (λ bytes. after_call call bytes) so_far
    ∙ sym (ap (λ all. after_calls all first) (take_more calls i call within ∙ ap (λ x. take i calls ++ x ∷ []) (sym at)) ∙ after_calls-push (take i calls) call first)

take-push : (calls : List Call) (i : ℕ) (call : Call) → i < length calls → call ≡ get_or calls i call → take (i + 1) calls ≡ take i calls ++ call ∷ []
take-push calls i call within at = take_more calls i call within ∙ ap (λ x. take i calls ++ x ∷ []) (sym at)

pub covered_count-more : (calls : List Call) (i : ℕ) (call : Call) → i < length calls → call ≡ get_or calls i call → covers call ≡ true → i + 1 ≡ length (covered_calls (take (i + 1) calls))
covered_count-more calls i call within at covering =
    sym (ap (λ all. length (covered_calls all)) (take-push calls i call within at)
    ∙ ap length (covered-push (take i calls) call covering)
    ∙ length-append (take i calls) (call ∷ [])
    ∙ ap (λ n. n + 1) (length-take-le i calls (omega arith)))

pub covered_count-same : (calls : List Call) (i : ℕ) (call : Call) → i < length calls → call ≡ get_or calls i call → covers call ≡ false → length (covered_calls (take i calls)) ≡ length (covered_calls (take (i + 1) calls))
covered_count-same calls i call within at other =
    sym (ap (λ all. length (covered_calls all)) (take-push calls i call within at) ∙ ap length (covered-push_other (take i calls) call other))

pub length-covered : (calls : List Call) → length (covered_calls calls) ≤ length calls
length-covered calls = omega (arith, ap length (covered-append calls), length-append (covered_calls calls) (uncovered_calls calls))

pub take-covered : (calls : List Call) → take (length (covered_calls calls)) calls ≡ covered_calls calls
take-covered calls = ap (λ all. take (length (covered_calls calls)) all) (sym (covered-append calls)) ∙ take_at (covered_calls calls) (uncovered_calls calls) (length (covered_calls calls)) refl

pub drop-covered : (calls : List Call) → drop (length (covered_calls calls)) calls ≡ uncovered_calls calls
drop-covered calls = ap (λ all. drop (length (covered_calls calls)) all) (sym (covered-append calls)) ∙ drop_at (covered_calls calls) (uncovered_calls calls) (length (covered_calls calls)) refl

-- the three steps of an image
pub picked_image_of : (pick : Pick) (first : List ℕ) (calls : List Call) (before : ℕ) (covered uncovered flight : List Call) (done taken image : List ℕ) → covered ≡ covered_calls (take before calls) → uncovered ≡ uncovered_calls (take before calls) → flight ≡ take 1 (drop before calls) → done ≡ after_calls covered first → taken ≡ taken_each pick uncovered done → image ≡ taken_each pick flight taken → image ≡ picked_image pick first calls before
picked_image_of pick first calls before covered uncovered flight done taken image is_covered is_uncovered is_flight is_done is_taken is_image =
    is_image ∙ ap (λ bytes. taken_each pick flight bytes) is_taken
    ∙ sym (taken_each-append pick uncovered flight done)
    ∙ ap (λ bytes. taken_each pick (uncovered ++ flight) bytes) (is_done ∙ ap (λ all. after_calls all first) is_covered)
    ∙ ap (λ all. taken_each pick (all ++ flight) (after_calls (covered_calls (take before calls)) first)) is_uncovered
    ∙ ap (λ all. taken_each pick (uncovered_calls (take before calls) ++ all) (after_calls (covered_calls (take before calls)) first)) is_flight

-- What a pick makes of a call is the call in part.
in_part_filled : (byte : ℕ) (work : Work) (bytes : List ℕ) → InPart work bytes (filled byte work bytes)
in_part_filled byte (Write patch) bytes =
    let piece : List ℕ = replicate (length patch.piece.items) byte in
    subst (λ (n : ℕ). Torn patch.at n bytes (overlay patch.at piece bytes)) (length-replicate (length patch.piece.items) byte) (torn_overlay patch.at piece bytes)
in_part_filled byte (Cut size) bytes = in_part_whole (Cut size) bytes
in_part_filled byte Sync bytes = refl

in_part_taken : (pick : Pick) (work : Work) (bytes : List ℕ) → InPart work bytes (taken pick work bytes)
in_part_taken Nothing work bytes = in_part_same work bytes
in_part_taken Written work bytes = in_part_whole work bytes
in_part_taken (Filled byte) work bytes = in_part_filled byte work bytes

takes_taken : (pick : Pick) (calls : List Call) (bytes : List ℕ) → TakesEach calls bytes (taken_each pick calls bytes)
takes_taken pick [] bytes = refl
takes_taken pick (call ∷ calls) bytes = (taken pick call.work bytes, in_part_taken pick call.work bytes, takes_taken pick calls (taken pick call.work bytes))

-- the image before a call is in flight
picked_before : (pick : Pick) (first : List ℕ) (calls : List Call) → IsImage first calls (taken_each pick (uncovered_calls calls) (after_calls (covered_calls calls) first))
picked_before pick first calls = takes_taken pick (uncovered_calls calls) (after_calls (covered_calls calls) first)

-- the k-th call, and what stands before it
record CallAt (k : ℕ) (calls : List Call) : Type 0 where
  call : Call
  with_it : take (k + 1) calls ≡ take k calls ++ call ∷ []
  alone : take 1 (drop k calls) ≡ call ∷ []

call_at : (k : ℕ) (calls : List Call) → k < length calls → CallAt k calls
call_at k [] within = absurd (omega arith)
call_at zero (x ∷ xs) within = record { call = x; with_it = refl; alone = refl }
call_at (suc k) (x ∷ xs) within =
    let at : CallAt k xs = call_at k xs (omega arith) in
    let next : suc k + 1 ≡ suc (k + 1) = omega arith in
    record {
      call = at.call;
      with_it = ap (λ n. take n (x ∷ xs)) next ∙ ap (λ rest. x ∷ rest) at.with_it;
      alone = at.alone;
    }

taken_sync_by : (pick : Pick) (work : Work) (bytes : List ℕ) → is_sync work ≡ true → taken pick work bytes ≡ bytes
taken_sync_by Nothing work bytes covering = refl
taken_sync_by Written (Write patch) bytes covering = absurd (cc)
taken_sync_by Written (Cut size) bytes covering = absurd (cc)
taken_sync_by Written Sync bytes covering = refl
taken_sync_by (Filled byte) (Write patch) bytes covering = absurd (cc)
taken_sync_by (Filled byte) (Cut size) bytes covering = absurd (cc)
taken_sync_by (Filled byte) Sync bytes covering = refl

sync_of_covers : (failed : Bool) (work : Work) → (if failed then false else is_sync work) ≡ true → is_sync work ≡ true
sync_of_covers true work covering = absurd (cc)
sync_of_covers false work covering = covering

-- a sync that is in flight takes nothing
taken_sync : (pick : Pick) (call : Call) (bytes : List ℕ) → covers call ≡ true → taken pick call.work bytes ≡ bytes
taken_sync pick call bytes covering = taken_sync_by pick call.work bytes (sync_of_covers call.failed call.work covering)

-- Moments just before and after the k-th call are in its beat.
early_beats : (xs : List ℕ) (k n : ℕ) → IsNonDecreasing xs → k < length xs → n ≤ k + 1 → All (λ x. x ≤ slice_index xs k) (take n xs)
early_beats xs k n rising within most =
    All-from_get_or (λ x. x ≤ slice_index xs k) (take n xs) 0
    (λ i below.
    let before : i < n = omega (arith, length-take n xs) in
    subst (λ (x : ℕ). x ≤ slice_index xs k) (sym (get_or-take n xs i 0 before)) (rising i k 0 (omega arith) within))

late_beats : (xs : List ℕ) (k n : ℕ) → IsNonDecreasing xs → k ≤ n → All (λ x. slice_index xs k ≤ x) (drop n xs)
late_beats xs k n rising from =
    All-from_get_or (λ x. slice_index xs k ≤ x) (drop n xs) 0
    (λ i below.
    subst (λ (x : ℕ). slice_index xs k ≤ x) (sym (get_or-drop n xs i 0)) (rising k (n + i) 0 (omega arith) (omega (arith, length-drop n xs))))

picked_with : (pick : Pick) (first : List ℕ) (calls : List Call) (k : ℕ) (call : Call) → take 1 (drop k calls) ≡ call ∷ [] → picked_image pick first calls k ≡ taken pick call.work (taken_each pick (uncovered_calls (take k calls)) (after_calls (covered_calls (take k calls)) first))
picked_with pick first calls k call alone =
    ap (λ flight. taken_each pick (uncovered_calls (take k calls) ++ flight) (after_calls (covered_calls (take k calls)) first)) alone
    ∙ taken_each-append pick (uncovered_calls (take k calls)) (call ∷ []) (after_calls (covered_calls (take k calls)) first)

during_by : (pick : Pick) (first : List ℕ) (calls : List Call) (k : ℕ) (b : Bool) (at : CallAt k calls) → covers at.call ≡ b → IsNonDecreasing (beats calls) → k < length calls → MayLeave first calls (slice_index (beats calls) k) k (picked_image pick first calls k)
during_by pick first calls k true at covering rising within =
    let before : List ℕ = taken_each pick (uncovered_calls (take k calls)) (after_calls (covered_calls (take k calls)) first) in
    let there : k < length (beats calls) = omega (arith, length-beats calls) in
    record {
      moment = k;
      since = omega arith;
      within = omega arith;
      before = early_beats (beats calls) k k rising there (omega arith);
      behind = late_beats (beats calls) k k rising (omega arith);
      image = subst (λ (c : List ℕ). IsImage first (take k calls) c) (sym (picked_with pick first calls k at.call at.alone ∙ taken_sync pick at.call before covering)) (picked_before pick first (take k calls));
    }
during_by pick first calls k false at other rising within =
    let before : List ℕ = taken_each pick (uncovered_calls (take k calls)) (after_calls (covered_calls (take k calls)) first) in
    let there : k < length (beats calls) = omega (arith, length-beats calls) in
    record {
      moment = k + 1;
      since = omega arith;
      within = omega arith;
      before = early_beats (beats calls) k (k + 1) rising there (omega arith);
      behind = late_beats (beats calls) k (k + 1) rising (omega arith);
      image = subst (λ (c : List ℕ). IsImage first (take (k + 1) calls) c) (sym (picked_with pick first calls k at.call at.alone))
          (subst (λ (all : List Call). IsImage first all (taken pick at.call.work before)) (sym at.with_it)
          (is_image-push first (take k calls) at.call before (taken pick at.call.work before) other (picked_before pick first (take k calls)) (in_part_taken pick at.call.work before)));
    }

-- The image with a call in flight is one of a moment of that call.
pub picked_during : (pick : Pick) (first : List ℕ) (calls : List Call) (k : ℕ) → IsNonDecreasing (beats calls) → k < length calls → MayLeave first calls (slice_index (beats calls) k) k (picked_image pick first calls k)
picked_during pick first calls k rising within = let at : CallAt k calls = call_at k calls within in during_by pick first calls k (covers at.call) at refl rising within

-- And with none it is one of now.
pub picked_now : (pick : Pick) (first : List ℕ) (calls : List Call) (k : ℕ) → k ≡ length calls → IsImage first calls (picked_image pick first calls k)
picked_now pick first calls k end =
    let all : take k calls ≡ calls = take_all k calls (omega arith) in
    let none : take 1 (drop k calls) ≡ [] = ap (λ rest. take 1 rest) (drop_all k calls (omega arith)) in
    subst (λ (some : List Call). IsImage first some (picked_image pick first calls k)) all
    (subst (λ (c : List ℕ). IsImage first (take k calls) c)
    (sym (ap (λ flight. taken_each pick (uncovered_calls (take k calls) ++ flight) (after_calls (covered_calls (take k calls)) first)) none
    ∙ ap (λ some. taken_each pick some (after_calls (covered_calls (take k calls)) first)) (append-nil (uncovered_calls (take k calls)))))
    (picked_before pick first (take k calls)))
