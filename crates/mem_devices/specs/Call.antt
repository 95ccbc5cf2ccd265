-- What a call of a disk in memory does.
use Rattle.std.specs.Prelude.{ℕ, List, length, take, Bool, true, false, if◌then◌else◌}
use Rattle.ports.specs.Bytes.{Torn, CutShort, Same}
use Rattle.mem_devices.specs.Bytes.{overlay}
use Rattle.mem_devices.specs.declared.call.Call.{Call}
use Rattle.mem_devices.specs.declared.call.Work.{Work}
use Rattle.mem_devices.specs.declared.call.Work.TheVariants.{Write, Cut, Sync}

-- what it makes of the bytes, done as a whole
abbrev pub after_work : Work → List ℕ → List ℕ
after_work (Write patch) bytes = overlay patch.at patch.piece.items bytes
after_work (Cut size) bytes = take size bytes
after_work Sync bytes = bytes

-- and in part
abbrev pub InPart : Work → List ℕ → List ℕ → Type 0
InPart (Write patch) old new = Torn patch.at (length patch.piece.items) old new
InPart (Cut size) old new = CutShort size old new
InPart Sync old new = Same old new

abbrev pub is_sync : Work → Bool
is_sync (Write patch) = false
is_sync (Cut size) = false
is_sync Sync = true

-- a sync that succeeded covers the calls before it
abbrev pub covers : Call → Bool
covers call = if call.failed then false else is_sync call.work

-- what a read gives after a call: one that failed changes nothing of it
abbrev pub after_call : Call → List ℕ → List ℕ
after_call call bytes = if call.failed then bytes else after_work call.work bytes
