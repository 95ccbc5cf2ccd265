-- What a call that is done, or recorded as failed, or has found no memory, makes of a disk in memory.
use Rattle.std.proofs.Common.{◌≡◌, ℕ, ◌<◌, ◌≤◌, inl, inr, List, [], ◌∷◌, ◌++◌, length, take, true, false, Result, Ok, Err, OnOk, OnErr, arith, refl, sym, subst, ◌∙◌, ap}
use Rattle.std.proofs.lemmas.List.{length-append, length-take, length-take-le}
use Rattle.std.proofs.lemmas.Result.{on_ok_weaker}
use Rattle.ports.specs.Bytes.{after_write}
use Rattle.ports.specs.Disk.{Changes, Uncovered, IsSettled, Writes, Cuts, Syncs}
use Rattle.ports.specs.Faults.{HasCause}
use Rattle.ports.proofs.Parts.{length-after_write}
use Rattle.mem_devices.specs.declared.call.Call.{Call}
use Rattle.mem_devices.specs.declared.call.Patch.{Patch}
use Rattle.mem_devices.specs.declared.call.Work.{Work}
use Rattle.mem_devices.specs.declared.call.Work.TheVariants.{Write, Cut, Sync}
use Rattle.mem_devices.specs.Call.{InPart, is_sync, after_call, after_work}
use Rattle.mem_devices.specs.History.{after_calls, recorded_state, Entered, Enters}
use Rattle.mem_devices.specs.Lawful.{in_part_same}
use Rattle.mem_devices.specs.Overlays.{overlay-within}
use Rattle.mem_devices.proofs.Recording.{recorded_changes, recorded_uncovered, recorded_settled, unrecorded_changes, unrecorded_uncovered}

entered_to : (P : List ℕ → List Call → Type 0) (call : Call) (bytes bytes' : List ℕ) (calls calls' : List Call) → Entered call bytes bytes' calls calls' → P (after_call call bytes) (calls ++ call ∷ []) → P bytes' calls'
entered_to P call bytes bytes' calls calls' entered holds =
    subst (λ (xs : List ℕ). P xs calls') (sym entered.bytes_are) (subst (λ (all : List Call). P (after_call call bytes) all) (sym entered.calls_are) holds)

stayed_to : (P : List ℕ → List Call → Type 0) (bytes bytes' : List ℕ) (calls calls' : List Call) → (bytes' ≡ bytes) × (calls' ≡ calls) → P bytes calls → P bytes' calls'
stayed_to P bytes bytes' calls calls' stays holds =
    subst (λ (xs : List ℕ). P xs calls') (sym stays.0) (subst (λ (all : List Call). P bytes all) (sym stays.1) holds)

enters_changes : {T E : Type 0} (result : Result T E) (number : ℕ) (work : Work) (first bytes bytes' : List ℕ) (calls calls' : List Call) (beat faults faults' : ℕ) → Enters number work bytes bytes' calls calls' result → Changes number (InPart work) (recorded_state first bytes calls beat faults) (recorded_state first bytes' calls' number faults')
enters_changes (Ok x) number work first bytes bytes' calls calls' beat faults faults' enters =
    let call : Call = record { beat = number; failed = false; work = work } in
    entered_to (λ xs all. Changes number (InPart work) (recorded_state first bytes calls beat faults) (recorded_state first xs all number faults')) call bytes bytes' calls calls' enters.done
    (recorded_changes first bytes calls call beat faults faults')
enters_changes (Err e) number work first bytes bytes' calls calls' beat faults faults' enters =
    let call : Call = record { beat = number; failed = true; work = work } in
    elim enters.failed [
      | inl entered ↦ entered_to (λ xs all. Changes number (InPart work) (recorded_state first bytes calls beat faults) (recorded_state first xs all number faults')) call bytes bytes' calls calls' entered
          (recorded_changes first bytes calls call beat faults faults')
      | inr stays ↦ stayed_to (λ xs all. Changes number (InPart work) (recorded_state first bytes calls beat faults) (recorded_state first xs all number faults')) bytes bytes' calls calls' stays
          (unrecorded_changes (InPart work) first bytes calls beat number faults faults' (in_part_same work))
    ]

-- a call that failed covers nothing
enters_uncovered : {T E : Type 0} (result : Result T E) (number : ℕ) (work : Work) (first bytes bytes' : List ℕ) (calls calls' : List Call) (beat faults faults' : ℕ) → Enters number work bytes bytes' calls calls' result → OnErr result (Uncovered (InPart work) (recorded_state first bytes calls beat faults) (recorded_state first bytes' calls' number faults'))
enters_uncovered (Ok x) number work first bytes bytes' calls calls' beat faults faults' enters = tt
enters_uncovered (Err e) number work first bytes bytes' calls calls' beat faults faults' enters =
    let call : Call = record { beat = number; failed = true; work = work } in
    elim enters.failed [
      | inl entered ↦ entered_to (λ xs all. Uncovered (InPart work) (recorded_state first bytes calls beat faults) (recorded_state first xs all number faults')) call bytes bytes' calls calls' entered
          (recorded_uncovered first bytes calls call beat faults faults' refl)
      | inr stays ↦ stayed_to (λ xs all. Uncovered (InPart work) (recorded_state first bytes calls beat faults) (recorded_state first xs all number faults')) bytes bytes' calls calls' stays
          (unrecorded_uncovered (InPart work) first bytes calls beat number faults faults')
    ]

-- and no write or cut does
never_covers : {T E : Type 0} (result : Result T E) (number : ℕ) (work : Work) (first bytes bytes' : List ℕ) (calls calls' : List Call) (beat faults faults' : ℕ) → is_sync work ≡ false → Enters number work bytes bytes' calls calls' result → Uncovered (InPart work) (recorded_state first bytes calls beat faults) (recorded_state first bytes' calls' number faults')
never_covers (Ok x) number work first bytes bytes' calls calls' beat faults faults' other enters =
    let call : Call = record { beat = number; failed = false; work = work } in
    entered_to (λ xs all. Uncovered (InPart work) (recorded_state first bytes calls beat faults) (recorded_state first xs all number faults')) call bytes bytes' calls calls' enters.done
    (recorded_uncovered first bytes calls call beat faults faults' other)
never_covers (Err e) number work first bytes bytes' calls calls' beat faults faults' other enters = enters_uncovered (Err e) number work first bytes bytes' calls calls' beat faults faults' enters

enters_moves : {T E : Type 0} (result : Result T E) (number : ℕ) (work : Work) (bytes bytes' : List ℕ) (calls calls' : List Call) → Enters number work bytes bytes' calls calls' result → OnOk result (length calls < length calls')
enters_moves (Ok x) number work bytes bytes' calls calls' enters =
    let call : Call = record { beat = number; failed = false; work = work } in
    omega (arith, ap length enters.done.calls_are, length-append calls (call ∷ []))
enters_moves (Err e) number work bytes bytes' calls calls' enters = tt

enters_done : {T E : Type 0} (result : Result T E) (number : ℕ) (work : Work) (bytes bytes' : List ℕ) (calls calls' : List Call) → Enters number work bytes bytes' calls calls' result → OnOk result (bytes' ≡ after_work work bytes)
enters_done (Ok x) number work bytes bytes' calls calls' enters = enters.done.bytes_are
enters_done (Err e) number work bytes bytes' calls calls' enters = tt

enters_settled : {T E : Type 0} (result : Result T E) (number : ℕ) (work : Work) (first bytes bytes' : List ℕ) (calls calls' : List Call) (faults' : ℕ) → is_sync work ≡ true → bytes ≡ after_calls calls first → Enters number work bytes bytes' calls calls' result → OnOk result (IsSettled (recorded_state first bytes' calls' number faults'))
enters_settled (Ok x) number work first bytes bytes' calls calls' faults' covering replayed enters =
    let call : Call = record { beat = number; failed = false; work = work } in
    entered_to (λ xs all. IsSettled (recorded_state first xs all number faults')) call bytes bytes' calls calls' enters.done
    (recorded_settled first bytes calls call faults' replayed covering)
enters_settled (Err e) number work first bytes bytes' calls calls' faults' covering replayed enters = tt

-- The three calls.
pub enters_writes : {T E : Type 0} (result : Result T E) (number : ℕ) (patch : Patch) (first bytes bytes' : List ℕ) (calls calls' : List Call) (beat faults faults' : ℕ) → patch.at ≤ length bytes → Enters number (Write patch) bytes bytes' calls calls' result → HasCause faults faults' result → Writes number patch.at patch.piece.items (recorded_state first bytes calls beat faults) (recorded_state first bytes' calls' number faults') result
enters_writes result number patch first bytes bytes' calls calls' beat faults faults' within enters cause =
    let piece : List ℕ = patch.piece.items in
    let changes : Changes number (InPart (Write patch)) (recorded_state first bytes calls beat faults) (recorded_state first bytes' calls' number faults') =
    enters_changes result number (Write patch) first bytes bytes' calls calls' beat faults faults' enters in
    let whole : OnOk result (bytes' ≡ after_write patch.at piece bytes) =
    on_ok_weaker result (λ done. done ∙ overlay-within patch.at piece bytes within) (enters_done result number (Write patch) bytes bytes' calls calls' enters) in
    record {
      changes = changes;
      uncovered = never_covers result number (Write patch) first bytes bytes' calls calls' beat faults faults' refl enters;
      moves = enters_moves result number (Write patch) bytes bytes' calls calls' enters;
      written = whole;
      grown = on_ok_weaker result (λ same. ap length same ∙ length-after_write patch.at piece bytes ∙ omega arith) whole;
      no_shorter = changes.bytes.no_shorter;
      no_longer = changes.bytes.no_longer;
      cause = cause;
    }

pub enters_cuts : {T E : Type 0} (result : Result T E) (number size : ℕ) (first bytes bytes' : List ℕ) (calls calls' : List Call) (beat faults faults' : ℕ) → size ≤ length bytes → Enters number (Cut size) bytes bytes' calls calls' result → HasCause faults faults' result → Cuts number size (recorded_state first bytes calls beat faults) (recorded_state first bytes' calls' number faults') result
enters_cuts result number size first bytes bytes' calls calls' beat faults faults' within enters cause =
    let changes : Changes number (InPart (Cut size)) (recorded_state first bytes calls beat faults) (recorded_state first bytes' calls' number faults') =
    enters_changes result number (Cut size) first bytes bytes' calls calls' beat faults faults' enters in
    let whole : OnOk result (bytes' ≡ take size bytes) = enters_done result number (Cut size) bytes bytes' calls calls' enters in
    record {
      changes = changes;
      uncovered = never_covers result number (Cut size) first bytes bytes' calls calls' beat faults faults' refl enters;
      moves = enters_moves result number (Cut size) bytes bytes' calls calls' enters;
      done = whole;
      cut = on_ok_weaker result (λ same. ap length same ∙ length-take-le size bytes within) whole;
      no_shorter = omega (arith, changes.bytes.no_shorter);
      no_longer = omega (arith, ap length changes.bytes.front, length-take (length bytes') bytes);
      cause = cause;
    }

pub enters_syncs : {T E : Type 0} (result : Result T E) (number : ℕ) (first bytes bytes' : List ℕ) (calls calls' : List Call) (beat faults faults' : ℕ) → bytes ≡ after_calls calls first → Enters number Sync bytes bytes' calls calls' result → HasCause faults faults' result → Syncs number (recorded_state first bytes calls beat faults) (recorded_state first bytes' calls' number faults') result
enters_syncs result number first bytes bytes' calls calls' beat faults faults' replayed enters cause =
    let changes : Changes number (InPart Sync) (recorded_state first bytes calls beat faults) (recorded_state first bytes' calls' number faults') =
    enters_changes result number Sync first bytes bytes' calls calls' beat faults faults' enters in
    record {
      changes = changes;
      uncovered = enters_uncovered result number Sync first bytes bytes' calls calls' beat faults faults' enters;
      moves = enters_moves result number Sync bytes bytes' calls calls' enters;
      settled = enters_settled result number Sync first bytes bytes' calls calls' faults' refl replayed enters;
      size = ap length changes.bytes;
      cause = cause;
    }
