-- The images that a disk in memory makes of its record.
use Rattle.std.specs.Prelude.{ℕ, List, [], ◌∷◌, ◌++◌, length, take, drop, replicate, ◌==◌, if◌then◌else◌}
use Rattle.mem_devices.specs.declared.call.Call.{Call}
use Rattle.mem_devices.specs.declared.call.Work.{Work}
use Rattle.mem_devices.specs.declared.call.Work.TheVariants.{Write, Cut, Sync}
use Rattle.mem_devices.specs.declared.image.Pick.{Pick}
use Rattle.mem_devices.specs.declared.image.Pick.TheVariants.{Nothing, Written, Filled}
use Rattle.mem_devices.specs.Bytes.{overlay}
use Rattle.mem_devices.specs.Call.{after_work}
use Rattle.mem_devices.specs.History.{after_calls, covered_calls, uncovered_calls}

-- 0 takes nothing, 1 all, 2 zero bytes and 3 bytes 0xA5
abbrev pub pick_of : ℕ → Pick
pick_of number = if number == 0 then Nothing else if number == 1 then Written else if number == 2 then Filled 0 else Filled 165

-- the work with this byte all over the written range
abbrev pub filled : ℕ → Work → List ℕ → List ℕ
filled byte (Write patch) bytes = overlay patch.at (replicate (length patch.piece.items) byte) bytes
filled byte (Cut size) bytes = take size bytes
filled byte Sync bytes = bytes

abbrev pub taken : Pick → Work → List ℕ → List ℕ
taken Nothing work bytes = bytes
taken Written work bytes = after_work work bytes
taken (Filled byte) work bytes = filled byte work bytes

abbrev pub taken_each : Pick → List Call → List ℕ → List ℕ
taken_each pick [] bytes = bytes
taken_each pick (call ∷ calls) bytes = taken_each pick calls (taken pick call.work bytes)

-- The image of a stop during the call behind the first so many, or where there is none, after all of them: those that no
-- sync has covered are taken by the pick, and with them the call in flight.
abbrev pub picked_image : Pick → List ℕ → List Call → ℕ → List ℕ
picked_image pick first calls before =
    let earlier = take before calls in
    taken_each pick (uncovered_calls earlier ++ take 1 (drop before calls)) (after_calls (covered_calls earlier) first)
