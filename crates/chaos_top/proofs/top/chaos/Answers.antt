-- The words are refused, or there was no memory for them.
use Rattle.std.proofs.Common.{◌≡◌, ◌+◌, ◌≤◌, Option, None, map, sym, subst, arith}
use Rattle.std.specs.Prelude.{string_bytes}
use Rattle.job_words.specs.Commands.{command_of, engines_of}
use Rattle.job_words.specs.declared.command.Command.{Command}
use Rattle.endings.specs.Telling.{Announces}
use Rattle.endings.specs.declared.ending.Ending.TheVariants.{Usage, Memory}
use Rattle.chaos_top.specs.Outcome.{reports}
use Rattle.chaos_top.proofs.NoMemory.{outcome_without_memory, outcome_of_refused, ready_later, told_memory}
use Rattle.chaos_top.proofs.top.chaos.Goals as goal

pub returns-in-Err-Usage-clause-outcome : goal.returns-in-Err-Usage-clause-outcome
returns-in-Err-Usage-clause-outcome g c =
    let disks = g.met.D.Disk g.world.𝓛 g.world.𝓜 g.world.𝓡 ((λ s x. x), (λ x. x), (λ x. x), λ x. x) in
    let command = command_of (map string_bytes c.args.words.now) in
    let told = c.told-in-Err-Usage in
    let none : command ≡ None = c.in-Err-Usage.ensures.refused (cc) in (
      Usage,
      outcome_of_refused g.D.Disk.state disks.lawful g.D.M.Meter.faults (g.S.Source.left c.args.source.now) (g.K.Sink.written c.args.out.now) (g.S.Source.faults c.args.source.now) (g.K.Sink.faults c.args.out.now)
          c.args.store.now c.args.meters.now.items c.args.seat.now.view (c.args.beat.now + 1) command c.next.new.self c.next.ensures none,
      subst (λ (it : Option Command). Announces (reports it) Usage told.result (g.E.Sink.written c.args.err.now) (g.E.Sink.written told.new.err) (g.E.Sink.faults c.args.err.now) (g.E.Sink.faults told.new.err)) (sym none) told.ensures,
    )

pub returns-in-Err-Memory-clause-outcome : goal.returns-in-Err-Memory-clause-outcome
returns-in-Err-Memory-clause-outcome g c =
    let disks = g.met.D.Disk g.world.𝓛 g.world.𝓜 g.world.𝓡 ((λ s x. x), (λ x. x), (λ x. x), λ x. x) in
    let command = command_of (map string_bytes c.args.words.now) in
    let told = c.told-in-Err-Memory in
    let later : c.args.beat.now ≤ c.args.beat.now + 1 = omega arith in (
      Memory,
      outcome_without_memory g.D.Disk.state disks.lawful g.D.M.Meter.faults (g.S.Source.left c.args.source.now) (g.K.Sink.written c.args.out.now) (g.S.Source.faults c.args.source.now) (g.K.Sink.faults c.args.out.now)
          c.args.store.now c.args.meters.now.items c.args.seat.now.view (c.args.beat.now + 1) command c.next.new.self c.next.ensures
          (ready_later g.D.Disk.state (engines_of command) c.args.store.now c.args.meters.now.items c.args.seat.now.view c.args.beat.now (c.args.beat.now + 1) later c.requires.ready),
      told_memory (reports command) told.result (g.E.Sink.written c.args.err.now) (g.E.Sink.written told.new.err) (g.E.Sink.faults c.args.err.now) (g.E.Sink.faults told.new.err) told.ensures,
    )
