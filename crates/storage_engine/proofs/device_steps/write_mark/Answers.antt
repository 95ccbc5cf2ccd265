use Rattle.std.proofs.Common.{◌∷◌, [], arith}
use Rattle.storage_engine.specs.Steps.{IsClosedFront}
use Rattle.storage_engine.proofs.Keeping.{step_call, torn_closed, appends}
use Rattle.ports.proofs.Told.{on_ok_two}
use Rattle.storage_engine.proofs.device_steps.write_mark.Goals as goal

pub returns-clause-step : goal.returns-clause-step
returns-clause-step g c =
    let disks = g.met.D.Disk g.world.𝓛 g.world.𝓜 g.world.𝓡 ((λ s x. x), (λ x. x), (λ x. x), λ x. x) in
    step_call IsClosedFront c.args.beat.now _ _ _ (disks.lawful c.args.disk.now) c.write_at.ensures.changes c.write_at.ensures.cause.later (torn_closed 64 1 (omega arith))

pub returns-clause-appended : goal.returns-clause-appended
returns-clause-appended g c =
    let disks = g.met.D.Disk g.world.𝓛 g.world.𝓜 g.world.𝓡 ((λ s x. x), (λ x. x), (λ x. x), λ x. x) in
    let old = g.D.Disk.state c.args.disk.now in
    let new = g.D.Disk.state c.write_at.new.self in
    on_ok_two c.write_at.result (λ written grown. appends 64 (71 ∷ []) old new (disks.lawful c.args.disk.now) c.requires.size written grown) c.write_at.ensures.written c.write_at.ensures.grown
