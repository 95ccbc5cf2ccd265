use Rattle.std.proofs.Common.{ap, ◌∙◌, sym, subst}
use Rattle.chunk_object.specs.History.{StandsWhole}
use Rattle.chunk_cursor.specs.View.{IsAlone}
use Rattle.chunk_cursor.specs.Hold.{Hold}
use Rattle.epoch_seats.proofs.Ending.{ends}
use Rattle.epoch_seats.proofs.close.close_epoch.Goals as goal

pub returns-clause-ended : goal.returns-clause-ended
returns-clause-ended c terms lens before some begun are =
    ends terms lens before c.args.seat.now.view c.args.seats.now.items some begun are c.settle.new.seat.view (ap (λ (seat : Hold). seat.view) c.settle.ensures.same ∙ c.join_seats.ensures.joined)
    (subst (λ (seat : Hold). IsAlone seat.view → StandsWhole seat.view.story) (sym c.settle.ensures.same) c.settle.ensures.whole)
