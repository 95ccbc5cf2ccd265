use Rattle.std.proofs.Common.{◌≡◌, ◌∙◌, ◌<◌, length, get_or, Result, Ok, Err, OnOk, arith, ap}
use Rattle.store_model.specs.Heads.{IsShutGraph}
use Rattle.store_model.specs.Slots.{device_size}
use Rattle.store_model.specs.Kept.{own_of}
use Rattle.store_reader.specs.Reading.{own_in}
use Rattle.storage_engine.specs.Making.{IsBlankDevice}
use Rattle.storage_engine.specs.Steps.{Anything, EachOne}
use Rattle.storage_engine.proofs.Keeping.{on_ok_map}
use Rattle.storage_engine.proofs.Beginning.{length-front, all_closed, head_made, blank_made, own_same}
use Rattle.storage_engine.proofs.Every.{each_then, each_closed, each_anything}
use Rattle.storage_engine.proofs.begin.begin_devices.Goals as goal

pub write_marks-requires-clause-size : goal.write_marks-requires-clause-size
write_marks-requires-clause-size g c κs within = λ e d below.
    let front_is = c.in_ok-write_fronts.ensures.done e d below in
    front_is.size ∙ length-front c.args.job.now e

pub returns-clause-graphs : goal.returns-clause-graphs
returns-clause-graphs g c =
    let disks = g.met.D.Disk g.world.𝓛 g.world.𝓜 g.world.𝓡 ((λ s x. x), (λ x. x), (λ x. x), λ x. x) in
    let state = g.D.Disk.state in
    let number = c.args.beat.now in
    each_then state IsShutGraph number c.args.graphs.now c.write_fronts.new.disks c.write_marks.new.disks disks.lawful
    (each_then state IsShutGraph number c.args.graphs.now c.clear_all.new.disks c.write_fronts.new.disks disks.lawful c.in_ok-clear_all.ensures.steps c.in_ok-write_fronts.ensures.steps)
    (each_closed state number c.write_fronts.new.disks c.write_marks.new.disks
    (λ e d below. all_closed c.args.job.now e (state (get_or c.write_fronts.new.disks e d)) (c.in_ok-write_fronts.ensures.done e d below)) c.write_marks.ensures.steps)

pub returns-clause-values : goal.returns-clause-values
returns-clause-values g c =
    let disks = g.met.D.Disk g.world.𝓛 g.world.𝓜 g.world.𝓡 ((λ s x. x), (λ x. x), (λ x. x), λ x. x) in
    let state = g.D.Disk.state in
    let number = c.args.beat.now in
    each_then state Anything number c.args.values.now c.clear_all-2.new.disks c.write_all_zeros.new.disks disks.lawful
    (each_anything state IsShutGraph number c.args.values.now c.clear_all-2.new.disks c.in_ok-clear_all-2.ensures.steps) c.in_ok-write_all_zeros.ensures.steps

pub returns-clause-heads : goal.returns-clause-heads
returns-clause-heads g c =
    let disks = g.met.D.Disk g.world.𝓛 g.world.𝓜 g.world.𝓡 ((λ s x. x), (λ x. x), (λ x. x), λ x. x) in
    let state = g.D.Disk.state in
    on_ok_map c.write_marks.result
    (λ done. λ e d below.
    let within : e < length c.write_fronts.new.disks = omega (arith, below, c.write_marks.ensures.steps.many) in
    head_made c.args.job.now e c.args.beat.now (state (get_or c.write_fronts.new.disks e d)) (state (get_or c.write_marks.new.disks e d)) (disks.lawful (get_or c.write_marks.new.disks e d))
    (c.in_ok-write_fronts.ensures.done e d within) (c.write_marks.ensures.steps.each e d within) (done e d below))
    c.write_marks.ensures.done

pub returns-clause-blank : goal.returns-clause-blank
returns-clause-blank g c =
    let disks = g.met.D.Disk g.world.𝓛 g.world.𝓜 g.world.𝓡 ((λ s x. x), (λ x. x), (λ x. x), λ x. x) in
    let state = g.D.Disk.state in
    let split = c.args.split.now in
    let job = c.args.job.now in
    let Blank = EachOne state (λ e old new. IsBlankDevice job e new) c.args.values.now c.write_all_zeros.new.disks in
    let all : Blank = λ e d below.
    let same : own_in split e ≡ own_of job e = own_same job split e c.requires.of_job in
    blank_made job e (device_size (own_in split e)) (state (get_or c.write_all_zeros.new.disks e d)) (disks.lawful (get_or c.write_all_zeros.new.disks e d)) (ap device_size same) (c.in_ok-write_all_zeros.ensures.done e d below) in
    always c.write_marks.result all
  where
    always : {T E P : Type 0} (r : Result T E) → P → OnOk r P
    always (Ok x) p = p
    always (Err e) p = tt

pub returns-clause-calm : goal.returns-clause-calm
returns-clause-calm g c =
    on_ok_map c.write_marks.result
    (λ last. (
      last ∙ c.in_ok-write_fronts.ensures.calm ∙ c.in_ok-clear_all.ensures.calm,
      c.in_ok-write_all_zeros.ensures.calm ∙ c.in_ok-clear_all-2.ensures.calm,
    ))
    c.write_marks.ensures.calm
