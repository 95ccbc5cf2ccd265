-- One round more, by what `make_round` says of it.
use Rattle.std.proofs.Common.{◌≡◌, ◌+◌, ◌&&◌, [], refl, sym, ap, ◌∙◌, arith}
use Rattle.round_loop.specs.Starts.{first_sent}
use Rattle.round_loop.specs.Opening.{sends_changed}
use Rattle.round_loop.specs.Keeping.{Moment, moment}
use Rattle.partitioner.proofs.Made.{split_is}
use Rattle.round_loop.proofs.Ending.{no_limit}
use Rattle.round_loop.proofs.Steps.{few_claims, goes_to, goes_not}
use Rattle.round_loop.proofs.course.go_on.Goals.{then-has_sent, else-has_sent}
use Rattle.round_loop.proofs.course.go_on.Goals as goal

pub overflow_add-result-in-Ok : goal.overflow_add-result-in-Ok
overflow_add-result-in-Ok g c =
    let disks = g.met.D.Disk g.world.𝓛 g.world.𝓜 g.world.𝓡 ((λ s x. x), (λ x. x), (λ x. x), λ x. x) in
    let run = c.args.run.now in
    let rules = g.P.VertexProgram.rules run.program.now in
    let end = c.make_round-end in
    let mid : Moment g.row.D.Denot g.row.D-M.Denot = moment c.args.store.now c.args.meters.now.items c.args.seat.now.view c.args.beat.now in
    let new : Moment g.row.D.Denot g.row.D-M.Denot = moment end.new.store end.new.meters.items end.new.seat.view end.new.beat in
    let only : c.if-has_sent.changed_only ≡ sends_changed rules run.job.now [] (first_sent c.args.start) (c.args.so_far.round + 1)
    = elim c.if-has_sent.branch [
      | then-has_sent w ↦ w.changed_only-is ∙ w.absorbs-changed_only.ensures ∙ ap (λ b. b && rules.absorbs) (sym w.if-has_sent.true ∙ c.has_sent.ensures)
      | else-has_sent w ↦ w.changed_only-is ∙ w.if-has_sent.false ∙ ap (λ b. b && rules.absorbs) (sym w.if-has_sent.false ∙ c.has_sent.ensures)
    ] in
    let few = few_claims g.D.Disk.state g.D.M.Meter.faults rules run.job.now run.index.now disks.lawful c.args.start run.split.now (split_is run.job.now run.split.now c.requires.run.of_job) c.args.so_far mid new c.requires.goes_on c.requires.few.0
    c.if-has_sent.changed_only only end.result.outcome end.result.changed end.result.claims end.result.admitted
    (record { store = end.ensures.store; keeps = end.ensures.keeps; meters = end.ensures.meters; beat = end.ensures.beat; through = end.ensures.through; few = end.ensures.few; cause = end.ensures.cause; calm = end.ensures.calm; sound = end.ensures.sound; damaged = end.ensures.damaged; epochs = end.ensures.epochs; made = end.ensures.round })
    c.requires.run.job c.in-Ok.ensures.done in
    omega (arith, few, c.requires.few.2)

pub returns-in-Ok-clause-course : goal.returns-in-Ok-clause-course
returns-in-Ok-clause-course g c = λ from at.
    let disks = g.met.D.Disk g.world.𝓛 g.world.𝓜 g.world.𝓡 ((λ s x. x), (λ x. x), (λ x. x), λ x. x) in
    let run = c.args.run.now in
    let rules = g.P.VertexProgram.rules run.program.now in
    let end = c.make_round-end in
    let mid : Moment g.row.D.Denot g.row.D-M.Denot = moment c.args.store.now c.args.meters.now.items c.args.seat.now.view c.args.beat.now in
    let new : Moment g.row.D.Denot g.row.D-M.Denot = moment end.new.store end.new.meters.items end.new.seat.view end.new.beat in
    let only : c.if-has_sent.changed_only ≡ sends_changed rules run.job.now [] (first_sent c.args.start) (c.args.so_far.round + 1)
    = elim c.if-has_sent.branch [
      | then-has_sent w ↦ w.changed_only-is ∙ w.absorbs-changed_only.ensures ∙ ap (λ b. b && rules.absorbs) (sym w.if-has_sent.true ∙ c.has_sent.ensures)
      | else-has_sent w ↦ w.changed_only-is ∙ w.if-has_sent.false ∙ ap (λ b. b && rules.absorbs) (sym w.if-has_sent.false ∙ c.has_sent.ensures)
    ] in (
      refl,
      goes_to g.D.Disk.state g.D.M.Meter.faults rules run.job.now run.index.now disks.lawful c.args.start run.split.now (split_is run.job.now run.split.now c.requires.run.of_job) c.args.so_far mid new c.requires.goes_on c.requires.few.0
          c.if-has_sent.changed_only only end.result.outcome end.result.changed end.result.claims end.result.admitted
          (record { store = end.ensures.store; keeps = end.ensures.keeps; meters = end.ensures.meters; beat = end.ensures.beat; through = end.ensures.through; few = end.ensures.few; cause = end.ensures.cause; calm = end.ensures.calm; sound = end.ensures.sound; damaged = end.ensures.damaged; epochs = end.ensures.epochs; made = end.ensures.round })
          from at c.in-Ok.ensures.done,
    )

pub returns-in-Err-clause-course : goal.returns-in-Err-clause-course
returns-in-Err-clause-course g c = λ from at.
    let disks = g.met.D.Disk g.world.𝓛 g.world.𝓜 g.world.𝓡 ((λ s x. x), (λ x. x), (λ x. x), λ x. x) in
    let run = c.args.run.now in
    let rules = g.P.VertexProgram.rules run.program.now in
    let end = c.make_round-end in
    let mid : Moment g.row.D.Denot g.row.D-M.Denot = moment c.args.store.now c.args.meters.now.items c.args.seat.now.view c.args.beat.now in
    let new : Moment g.row.D.Denot g.row.D-M.Denot = moment end.new.store end.new.meters.items end.new.seat.view end.new.beat in
    let only : c.if-has_sent.changed_only ≡ sends_changed rules run.job.now [] (first_sent c.args.start) (c.args.so_far.round + 1)
    = elim c.if-has_sent.branch [
      | then-has_sent w ↦ w.changed_only-is ∙ w.absorbs-changed_only.ensures ∙ ap (λ b. b && rules.absorbs) (sym w.if-has_sent.true ∙ c.has_sent.ensures)
      | else-has_sent w ↦ w.changed_only-is ∙ w.if-has_sent.false ∙ ap (λ b. b && rules.absorbs) (sym w.if-has_sent.false ∙ c.has_sent.ensures)
    ] in
    goes_not g.D.Disk.state g.D.M.Meter.faults rules run.job.now run.index.now disks.lawful c.args.start run.split.now (split_is run.job.now run.split.now c.requires.run.of_job) c.args.so_far mid new c.requires.goes_on c.requires.few.0
    c.if-has_sent.changed_only only end.result.outcome end.result.changed end.result.claims end.result.admitted
    (record { store = end.ensures.store; keeps = end.ensures.keeps; meters = end.ensures.meters; beat = end.ensures.beat; through = end.ensures.through; few = end.ensures.few; cause = end.ensures.cause; calm = end.ensures.calm; sound = end.ensures.sound; damaged = end.ensures.damaged; epochs = end.ensures.epochs; made = end.ensures.round })
    from at c.in-Err.fault c.in-Err.ensures.fault

pub returns-in-Err-clause-limit : goal.returns-in-Err-clause-limit
returns-in-Err-clause-limit g c = λ is. no_limit c.make_round-end.result.outcome c.in-Err.fault c.in-Err.ensures.fault cc
