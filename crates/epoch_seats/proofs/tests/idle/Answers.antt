use Rattle.std.proofs.Common.{arith}
use Rattle.phase_model.specs.JobTerms.{terms_of}
use Rattle.store_reader.specs.Indexed.{lens_of}
use Rattle.epoch_seats.proofs.tests.idle.Goals as goal

pub returns-clause-between : goal.returns-clause-between
returns-clause-between g c =
    let news = c.open_epoch.ensures.seats in
    (c.close_epoch.ensures.ended (terms_of c.job-job.result) (lens_of c.args.index.now) c.args.seat.now.view (omega (arith, c.job-job.ensures.engines)) c.open_epoch.ensures.begun (record { many = news.many; each = λ w seat below. (news.each w seat below).is })).between
