-- What contracts see of a meter of files.
use Rattle.std.specs.Prelude.{ℕ, Option, Some, None}
use Rattle.real_devices.specs.declared.meter.ReadHandle.{ReadHandle}

pub record Reads : Type 0 where
  -- how often a read has failed
  pub faults : ℕ
  -- the number of the file that is held open
  pub held : Option ℕ

abbrev pub held_number : Option ReadHandle → Option ℕ
held_number (Some handle) = Some handle.number
held_number None = None
