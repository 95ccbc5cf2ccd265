use Rattle.std.proofs.Common.{◌<◌, ◌≤◌, length, get_or, refl, arith, rules}
use Rattle.std.proofs.lemmas.Grind.{common_steps}
use Rattle.ports.proofs.Rising.{same_here}
use Rattle.storage_engine.specs.Making.{chunk_with}
use Rattle.storage_engine.specs.Steps.{IsClosedFront}
use Rattle.storage_engine.proofs.Every.{each_same, each_set}
use Rattle.storage_engine.proofs.OneChunk.{append_step, made_more}
use Rattle.storage_engine.proofs.writing.write_chunk.Goals as goal

pub returns-in_err-at-clause-steps : goal.returns-in_err-at-clause-steps
returns-in_err-at-clause-steps g c =
    let disks = g.met.D.Disk g.world.𝓛 g.world.𝓜 g.world.𝓡 ((λ s x. x), (λ x. x), (λ x. x), λ x. x) in
    let state = g.D.Disk.state in
    let made = c.requires.made.0 in
    let has = c.requires.made.1 in
    let within : c.next-engine.result < length c.args.graphs.now = first_of (search rules, omega arith, grind (arith, common_steps)) in
    let mid = c.index-graphs-engine.result in
    let step = append_step c.args.job.now made c.next-engine.result c.args.beat.now _ (state (get_or c.args.graphs.now c.next-engine.result mid)) (state c.append_chunk.new.disk) _ (disks.lawful (get_or c.args.graphs.now c.next-engine.result mid))
    (has.devices c.next-engine.result mid within) c.append_chunk.ensures.writes in
    each_set state IsClosedFront c.args.beat.now c.args.graphs.now c.args.graphs.now c.next-engine.result mid c.append_chunk.new.disk disks.lawful within
    (each_same state IsClosedFront c.args.beat.now c.args.graphs.now disks.lawful) step

pub returns-in_err-add-clause-steps : goal.returns-in_err-add-clause-steps
returns-in_err-add-clause-steps g c =
    let disks = g.met.D.Disk g.world.𝓛 g.world.𝓜 g.world.𝓡 ((λ s x. x), (λ x. x), (λ x. x), λ x. x) in
    let state = g.D.Disk.state in
    let made = c.requires.made.0 in
    let has = c.requires.made.1 in
    let within : c.next-engine.result < length c.args.graphs.now = first_of (search rules, omega arith, grind (arith, common_steps)) in
    let mid = c.index-graphs-engine.result in
    let step = append_step c.args.job.now made c.next-engine.result c.args.beat.now _ (state (get_or c.args.graphs.now c.next-engine.result mid)) (state c.append_chunk.new.disk) _ (disks.lawful (get_or c.args.graphs.now c.next-engine.result mid))
    (has.devices c.next-engine.result mid within) c.append_chunk.ensures.writes in
    each_set state IsClosedFront c.args.beat.now c.args.graphs.now c.args.graphs.now c.next-engine.result mid c.append_chunk.new.disk disks.lawful within
    (each_same state IsClosedFront c.args.beat.now c.args.graphs.now disks.lawful) step

pub returns-clause-steps : goal.returns-clause-steps
returns-clause-steps g c =
    let disks = g.met.D.Disk g.world.𝓛 g.world.𝓜 g.world.𝓡 ((λ s x. x), (λ x. x), (λ x. x), λ x. x) in
    let state = g.D.Disk.state in
    let made = c.requires.made.0 in
    let has = c.requires.made.1 in
    let within : c.next-engine.result < length c.args.graphs.now = first_of (search rules, omega arith, grind (arith, common_steps)) in
    let mid = c.index-graphs-engine.result in
    let step = append_step c.args.job.now made c.next-engine.result c.args.beat.now _ (state (get_or c.args.graphs.now c.next-engine.result mid)) (state c.append_chunk.new.disk) _ (disks.lawful (get_or c.args.graphs.now c.next-engine.result mid))
    (has.devices c.next-engine.result mid within) c.append_chunk.ensures.writes in
    each_set state IsClosedFront c.args.beat.now c.args.graphs.now c.args.graphs.now c.next-engine.result mid c.append_chunk.new.disk disks.lawful within
    (each_same state IsClosedFront c.args.beat.now c.args.graphs.now disks.lawful) step

pub returns-clause-made : goal.returns-clause-made
returns-clause-made g c = λ made has.
    let disks = g.met.D.Disk g.world.𝓛 g.world.𝓜 g.world.𝓡 ((λ s x. x), (λ x. x), (λ x. x), λ x. x) in
    let state = g.D.Disk.state in
    let job = c.args.job.now in
    let mid = c.index-graphs-engine.result in
    let within : c.next-engine.result < length c.args.graphs.now = first_of (search rules, omega arith, grind (arith, common_steps)) in
    let few_e : length c.args.graphs.now ≤ 8 = omega (arith, has.many, c.requires.job.engines) in
    let room : length made < 2147483640 = omega (arith, has.places.total, c.requires.room_for_one) in
    let few : length c.args.edges.now ≤ 65536 = omega (arith, c.requires.few, c.requires.job.chunk) in
    let next = c.next-engine.ensures.placed job.seed 0 job.engines (length made) has.placed (omega (arith, room)) in
    let step = append_step job made c.next-engine.result c.args.beat.now _ (state (get_or c.args.graphs.now c.next-engine.result mid)) (state c.append_chunk.new.disk) _ (disks.lawful (get_or c.args.graphs.now c.next-engine.result mid))
    (has.devices c.next-engine.result mid within) c.append_chunk.ensures.writes in
    made_more state job made (chunk_with c.args.partition c.args.edges.now) c.args.placer.now c.next-engine.new.self c.args.index.now c.add.new.self c.args.graphs.now c.next-engine.result c.in_ok-at.at c.args.beat.now mid c.append_chunk.new.disk
    disks.lawful has room within few_e c.requires.partition few next.0 next.1 c.in_ok-at.ensures.place c.in_ok-add.ensures.ok step c.in_ok-at.ensures.appended c.in_ok-at.ensures.grown

pub returns-in_err-add-clause-calm : goal.returns-in_err-add-clause-calm
returns-in_err-add-clause-calm g c = λ _.
    same_here (λ d. (g.D.Disk.state d).faults) c.args.graphs.now c.args.graphs.now c.next-engine.result c.index-graphs-engine.result c.append_chunk.new.disk refl c.in_ok-at.ensures.writes.cause.calm

pub returns-clause-calm : goal.returns-clause-calm
returns-clause-calm g c = λ _.
    same_here (λ d. (g.D.Disk.state d).faults) c.args.graphs.now c.args.graphs.now c.next-engine.result c.index-graphs-engine.result c.append_chunk.new.disk refl c.in_ok-at.ensures.writes.cause.calm
