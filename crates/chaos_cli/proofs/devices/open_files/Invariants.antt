use Rattle.std.proofs.Common.{◌≡◌, ◌≤◌, length}
use Rattle.std.specs.List.{All}
use Rattle.real_devices.specs.FileState.{untold}
use Rattle.chaos_cli.specs.Files.{AreNumbered}
use Rattle.chaos_cli.proofs.devices.open_files.Given as goal

abbrev pub invariant-engines : goal.invariant-engines
invariant-engines g l = (length l.disks.items ≡ l.engine) × All (λ disk. (untold disk).beat ≤ 0) l.disks.items × AreNumbered l.first l.disks.items
