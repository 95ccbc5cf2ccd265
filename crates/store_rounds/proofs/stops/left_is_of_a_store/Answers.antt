-- Slot by slot, and engine by engine.
use Rattle.std.proofs.Common.{◌∙◌}
use Rattle.store_rounds.proofs.Places.{stop_of_each}
use Rattle.store_rounds.proofs.Left.{blank_is, left_is, before_is, all_left}
use Rattle.store_rounds.proofs.stops.left_is_of_a_store.Goals as goal

pub returns-clause-blank : goal.returns-clause-blank
returns-clause-blank g c job edges e bytes blank = blank_is job edges e bytes blank

pub returns-clause-one : goal.returns-clause-one
returns-clause-one g c job edges number first e b start bytes at_start left = left_is job edges e number first b (g.D.Disk.state start) bytes at_start left

pub returns-clause-before : goal.returns-clause-before
returns-clause-before g c job edges number first e b round start bytes well at_start left from later few beat stood =
    before_is job edges e number first b (g.D.Disk.state start) bytes at_start left round well from later few beat stood

pub returns-clause-all : goal.returns-clause-all
returns-clause-all g c job edges number first last b old new stopped many at_start leave within stop =
    let each = stop_of_each g.D.Disk.state b old new stopped stop in
    (each.many ∙ many, all_left g.D.Disk.state job edges number first last b old new stopped many at_start leave within each)
