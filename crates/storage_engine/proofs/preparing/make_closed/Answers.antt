use Rattle.std.proofs.Common.{◌≡◌, ◌∙◌, ◌⊎◌, inl, ℕ, [], length, replicate, sym, ap, subst}
use Rattle.std.proofs.lemmas.List.{length-replicate}
use Rattle.graph_model.specs.declared.job.Job.{Job}
use Rattle.ports.specs.Faults.{Rose}
use Rattle.ports.specs.Devices.{OneRose}
use Rattle.store_model.specs.Heads.{IsShutGraph}
use Rattle.std.proofs.lemmas.List.{append-nil}
use Rattle.storage_engine.specs.Making.{AreFew, HasRoomFor, IsMaking, IsFlushed}
use Rattle.storage_engine.specs.Preparing.{HasReadAll, HasPrepareCause}
use Rattle.storage_engine.specs.Steps.{IsClosedFront}
use Rattle.storage_engine.proofs.Every.{each_then, one_rose_later}
use Rattle.storage_engine.proofs.Texts.{stopped_by, stopped_calm, not_of_text}
use Rattle.storage_engine.proofs.TwoBeats.{cause_weaker}
use Rattle.storage_engine.proofs.Ends.{shut_then, closed_then}
use Rattle.storage_engine.proofs.preparing.make_closed.Goals as goal

pub begin_devices-requires-clause-zeros : goal.begin_devices-requires-clause-zeros
begin_devices-requires-clause-zeros g c = λ _ _.
    let zeros : c.deref.result.now ≡ replicate 65536 0 = c.deref.ensures.value ∙ c.in-Ok.ensures in
    zeros ∙ ap (λ n. replicate n 0) (sym (ap length zeros ∙ length-replicate {A = ℕ} 65536 0))

pub returns-in-Err-make_chunks-clause-graphs : goal.returns-in-Err-make_chunks-clause-graphs
returns-in-Err-make_chunks-clause-graphs g c =
    let disks = g.met.D.Disk g.world.𝓛 g.world.𝓜 g.world.𝓡 ((λ s x. x), (λ x. x), (λ x. x), λ x. x) in
    shut_then g.D.Disk.state c.args.beat.now c.args.job.now c.args.graphs.now c.begin_devices.new.graphs c.make_chunks.new.graphs disks.lawful c.begin_devices.ensures.graphs c.in_default-begin_devices.ensures.heads c.make_chunks.ensures.steps

pub returns-in-Err-make_chunks-clause-shut : goal.returns-in-Err-make_chunks-clause-shut
returns-in-Err-make_chunks-clause-shut g c = λ of_text.
    let disks = g.met.D.Disk g.world.𝓛 g.world.𝓜 g.world.𝓡 ((λ s x. x), (λ x. x), (λ x. x), λ x. x) in
    closed_then g.D.Disk.state c.args.beat.now c.args.job.now c.args.graphs.now c.begin_devices.new.graphs c.make_chunks.new.graphs disks.lawful c.in_default-begin_devices.ensures.heads c.make_chunks.ensures.steps

pub returns-in-Err-make_chunks-clause-cause : goal.returns-in-Err-make_chunks-clause-cause
returns-in-Err-make_chunks-clause-cause g c =
    let text = g.S.Source.left c.args.source.now in
    let read = Rose (g.S.Source.faults c.args.source.now) (g.S.Source.faults c.make_chunks.new.source) in
    let rose = OneRose g.D.Disk.state c.begin_devices.new.graphs c.make_chunks.new.graphs in
    cause_weaker c.args.job.now text rose (OneRose g.D.Disk.state c.args.graphs.now c.make_chunks.new.graphs ⊎ OneRose g.D.Disk.state c.args.values.now c.begin_devices.new.values) read read c.in-Err-make_chunks.fault
    (λ r. inl (one_rose_later g.D.Disk.state IsShutGraph c.args.beat.now c.args.graphs.now c.begin_devices.new.graphs c.make_chunks.new.graphs c.begin_devices.ensures.graphs r)) (λ r. r)
    (subst (λ (j : Job). HasPrepareCause j text rose read c.in-Err-make_chunks.fault) c.in-Ok-new.ensures.job c.in-Err-make_chunks.ensures.cause)

pub returns-in-Ok-flush-clause-graphs : goal.returns-in-Ok-flush-clause-graphs
returns-in-Ok-flush-clause-graphs g c =
    let disks = g.met.D.Disk g.world.𝓛 g.world.𝓜 g.world.𝓡 ((λ s x. x), (λ x. x), (λ x. x), λ x. x) in
    shut_then g.D.Disk.state c.args.beat.now c.args.job.now c.args.graphs.now c.begin_devices.new.graphs c.flush.new.graphs disks.lawful c.begin_devices.ensures.graphs c.in_default-begin_devices.ensures.heads
    (each_then g.D.Disk.state IsClosedFront c.args.beat.now c.begin_devices.new.graphs c.make_chunks.new.graphs c.flush.new.graphs disks.lawful c.make_chunks.ensures.steps c.flush.ensures.steps)

pub returns-in-Ok-flush-clause-made : goal.returns-in-Ok-flush-clause-made
returns-in-Ok-flush-clause-made g c =
    let made = c.in_default-make_chunks.ensures.made in
    let text = g.S.Source.left c.args.source.now in
    let left = g.S.Source.left c.make_chunks.new.source in
    let maker = c.make_chunks.new.maker in (
      made.0,
      subst (λ (j : Job). HasReadAll j text left made.0) c.in-Ok-new.ensures.job made.1,
      subst (λ (j : Job). IsFlushed g.D.Disk.state j made.0 c.in-Ok-flush.index c.flush.new.graphs) (c.make_chunks.ensures.job ∙ c.in-Ok-new.ensures.job)
          (c.in-Ok-flush.ensures.made made.0 (subst (λ (j : Job). IsMaking g.D.Disk.state j made.0 maker.buffers maker.placer maker.index c.make_chunks.new.graphs) (sym c.make_chunks.ensures.job) made.2)),
    )

pub returns-clause-graphs : goal.returns-clause-graphs
returns-clause-graphs g c =
    let disks = g.met.D.Disk g.world.𝓛 g.world.𝓜 g.world.𝓡 ((λ s x. x), (λ x. x), (λ x. x), λ x. x) in
    shut_then g.D.Disk.state c.args.beat.now c.args.job.now c.args.graphs.now c.begin_devices.new.graphs c.flush.new.graphs disks.lawful c.begin_devices.ensures.graphs c.in_default-begin_devices.ensures.heads
    (each_then g.D.Disk.state IsClosedFront c.args.beat.now c.begin_devices.new.graphs c.make_chunks.new.graphs c.flush.new.graphs disks.lawful c.make_chunks.ensures.steps c.flush.ensures.steps)

pub returns-clause-shut : goal.returns-clause-shut
returns-clause-shut g c = rw c.stopped.ensures (λ of_text. absurd (not_of_text c.in-Err-flush.fault of_text))

pub returns-clause-cause : goal.returns-clause-cause
returns-clause-cause g c =
    let disks = g.met.D.Disk g.world.𝓛 g.world.𝓜 g.world.𝓡 ((λ s x. x), (λ x. x), (λ x. x), λ x. x) in
    let shut = shut_then g.D.Disk.state c.args.beat.now c.args.job.now c.args.graphs.now c.begin_devices.new.graphs c.make_chunks.new.graphs disks.lawful c.begin_devices.ensures.graphs c.in_default-begin_devices.ensures.heads c.make_chunks.ensures.steps in
    rw c.stopped.ensures
    (stopped_by c.args.job.now (g.S.Source.left c.args.source.now) (OneRose g.D.Disk.state c.args.graphs.now c.flush.new.graphs ⊎ OneRose g.D.Disk.state c.args.values.now c.begin_devices.new.values)
    (Rose (g.S.Source.faults c.args.source.now) (g.S.Source.faults c.make_chunks.new.source)) c.in-Err-flush.fault
    (λ is. inl (one_rose_later g.D.Disk.state IsShutGraph c.args.beat.now c.args.graphs.now c.make_chunks.new.graphs c.flush.new.graphs shut (c.in-Err-flush.ensures.rose is))))

pub flush-requires-clause-making : goal.flush-requires-clause-making
flush-requires-clause-making g c = λ _ _.
    let made = c.in_default-make_chunks.ensures.made in
    let maker = c.make_chunks.new.maker in
    subst (λ (j : Job). HasRoomFor g.D.Disk.state j maker.buffers maker.placer maker.index c.make_chunks.new.graphs []) (sym c.make_chunks.ensures.job)
    (made.0, made.2, subst (AreFew c.in-Ok-new.maker.job) (sym (append-nil made.0)) made.3)

pub returns-in-Ok-flush-clause-calm : goal.returns-in-Ok-flush-clause-calm
returns-in-Ok-flush-clause-calm g c = λ _. c.in_default-make_chunks.ensures.calm (λ is. absurd cc)

pub returns-clause-calm : goal.returns-clause-calm
returns-clause-calm g c = λ _. c.in_default-make_chunks.ensures.calm (λ is. absurd cc)

pub returns-in-Err-make_chunks-clause-calm_devices : goal.returns-in-Err-make_chunks-clause-calm_devices
returns-in-Err-make_chunks-clause-calm_devices g c = λ no_fault.
    let begun = c.in_default-begin_devices.ensures.calm in
    (c.in-Err-make_chunks.ensures.calm_devices (λ is. no_fault cc) ∙ begun.0, begun.1)

pub returns-in-Ok-flush-clause-calm_devices : goal.returns-in-Ok-flush-clause-calm_devices
returns-in-Ok-flush-clause-calm_devices g c = λ _.
    let begun = c.in_default-begin_devices.ensures.calm in
    (c.in-Ok-flush.ensures.calm (λ is. absurd cc) ∙ c.in_default-make_chunks.ensures.calm_devices (λ is. absurd cc) ∙ begun.0, begun.1)

pub returns-clause-calm_devices : goal.returns-clause-calm_devices
returns-clause-calm_devices g c =
    let begun = c.in_default-begin_devices.ensures.calm in
    rw c.stopped.ensures
    (stopped_calm c.in-Err-flush.fault (λ no_fault. (c.in-Err-flush.ensures.calm no_fault ∙ c.in_default-make_chunks.ensures.calm_devices (λ is. absurd cc) ∙ begun.0, begun.1)))
