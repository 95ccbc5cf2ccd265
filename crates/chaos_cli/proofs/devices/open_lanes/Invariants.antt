use Rattle.std.proofs.Common.{◌≡◌, length}
use Rattle.std.specs.List.{All}
use Rattle.real_devices.specs.FileState.{untold}
use Rattle.ports.specs.Devices.{AreDevices}
use Rattle.chaos_cli.specs.Files.{AreNumberedRows}
use Rattle.chaos_cli.proofs.devices.open_lanes.Given as goal

abbrev pub invariant-workers : goal.invariant-workers
invariant-workers g l = (length l.lanes.items ≡ l.worker) × All (λ row. AreDevices untold l.engines 0 row.items) l.lanes.items × AreNumberedRows 16 l.lanes.items
