use Rattle.std.proofs.Common.{ap, sym, ◌∙◌}
use Rattle.std.specs.Prelude.{slice_get, option_and_then}
use Rattle.store_reader.specs.Serving.{told_at}
use Rattle.store_reader.proofs.serving.Shelf.device.Goals as goal

pub returns-in-Graphs : goal.returns-in-Graphs
returns-in-Graphs g c =
    let state = g.D.Disk.state in
    sym (ap (λ shelf. told_at state shelf c.args.engine c.args.lane) c.in-Graphs.is
    ∙ ap (option_and_then (λ disk. (state disk).bytes)) c.disk_at.ensures)

pub returns-in-Lanes : goal.returns-in-Lanes
returns-in-Lanes g c =
    let state = g.D.Disk.state in
    let lane = c.lane_at.ensures in
    sym (ap (λ shelf. told_at state shelf c.args.engine c.args.lane) c.in-Lanes.is
    ∙ ap (option_and_then (λ own. option_and_then (λ disk. (state disk).bytes) (slice_get own.items c.args.engine))) lane.1
    ∙ ap (option_and_then (λ disk. (state disk).bytes)) (ap (λ disks. slice_get disks c.args.engine) (sym lane.2) ∙ c.disk_at-in-Lanes.ensures))
