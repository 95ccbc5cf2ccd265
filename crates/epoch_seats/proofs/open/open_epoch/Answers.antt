use Rattle.std.proofs.Common.{◌∙◌, refl, subst, sym, arith}
use Rattle.partitioner.proofs.Made.{some_part}
use Rattle.phase_model.specs.JobTerms.{terms_of}
use Rattle.store_reader.specs.Indexed.{lens_of}
use Rattle.epoch_seats.specs.Seats.{AreNewSeats}
use Rattle.epoch_seats.proofs.Opening.{front_of}
use Rattle.epoch_seats.proofs.Splitting.{has_begun, new_seats}
use Rattle.epoch_seats.proofs.open.open_epoch.Goals as goal

pub returns-clause-begun : goal.returns-clause-begun
returns-clause-begun c =
    let terms = terms_of c.args.job.now in
    let of_job = c.requires.split.1 in
    let front = front_of terms (lens_of c.args.index.now) c.args.split.now.engines c.args.split.now.parts of_job.engines of_job.parts _ _ _ c.open_cursors.ensures.calls c.greet_partitions.ensures.calls in
    has_begun terms (lens_of c.args.index.now) c.args.seat.now.view _ c.requires.between.alone front c.split_seats.new.seat.view c.split_seats.ensures.split

pub returns-clause-seats : goal.returns-clause-seats
returns-clause-seats c =
    let terms = terms_of c.args.job.now in
    let of_job = c.requires.split.1 in
    let front = front_of terms (lens_of c.args.index.now) c.args.split.now.engines c.args.split.now.parts of_job.engines of_job.parts _ _ _ c.open_cursors.ensures.calls c.greet_partitions.ensures.calls in
    let some = some_part c.args.split.now c.requires.split.0 in
    subst (AreNewSeats terms (lens_of c.args.index.now) c.args.seat.now.view.splits c.args.table.now) (sym c.split_seats.ensures.seats)
    (new_seats terms (lens_of c.args.index.now) c.args.seat.now.view _ c.requires.between.alone front (omega arith) (omega arith) (omega (arith, some, of_job.parts)) (omega (arith, c.requires.job.few_parts)) c.requires.between.ended c.args.table.now
    c.greet_partitions.new.seat (c.greet_partitions.ensures.table ∙ (c.open_cursors.ensures.table ∙ c.requires.table)) refl)
