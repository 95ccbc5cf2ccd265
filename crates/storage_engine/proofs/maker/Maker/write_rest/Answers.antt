use Rattle.std.proofs.Common.{◌≡◌, ◌∙◌, ◌<◌, ◌∷◌, [], ◌++◌, length, sym, subst, arith, rules}
use Rattle.std.proofs.lemmas.Grind.{common_steps}
use Rattle.graph_model.specs.declared.job.Job.{Job}
use Rattle.graph_model.specs.Jobs.{parts_of}
use Rattle.chunk_model.specs.Chunks.{full_chunks}
use Rattle.store_model.specs.Graphs.{home_of}
use Rattle.std.proofs.lemmas.List.{append-nil}
use Rattle.ports.specs.Devices.{OneRose}
use Rattle.storage_engine.specs.Making.{AreFew, HasMade, chunk_with}
use Rattle.storage_engine.specs.Steps.{IsClosedFront}
use Rattle.storage_engine.specs.Waiting.{waiting}
use Rattle.storage_engine.proofs.Every.{each_then, one_rose_later}
use Rattle.storage_engine.proofs.Flushing.{rests_below, rose_cause, rest_skipped, rest_written, rest_ends}
use Rattle.storage_engine.proofs.Few.{room_while_written}
use Rattle.storage_engine.proofs.maker.Maker.write_rest.Goals as goal

pub parts-preserved-then-is_empty : goal.parts-preserved-then-is_empty
parts-preserved-then-is_empty g c = record {
  steps = c.parts.invariant.steps;
  calm = c.parts.invariant.calm;
  job = c.parts.invariant.job;
  written = λ edges making.
      let written = c.parts.invariant.written edges making in
      let below : c.parts.partition < parts_of c.args.self.now.job = omega (arith, c.parts-test.true, c.len-parts.ensures, making.holds.many) in
      let none : length (waiting c.parts.self.buffers c.parts.partition) ≡ 0 = first_of (search rules, grind (arith, common_steps, c.edges.ensures, c.is_empty.ensures, c.if-is_empty.true)) in
      rest_skipped g.D.Disk.state c.args.self.now.job edges c.parts.partition c.args.self.now.buffers c.parts.self.buffers c.parts.self.placer c.args.self.now.placer c.parts.self.index c.args.self.now.index c.parts.graphs c.args.graphs.now
      making below written none;
}

pub returns-in-Err-clause-rose : goal.returns-in-Err-clause-rose
returns-in-Err-clause-rose g c = λ is.
    one_rose_later g.D.Disk.state IsClosedFront c.args.beat.now c.args.graphs.now c.parts.graphs c.write.new.graphs c.parts.invariant.steps
    (rose_cause (OneRose g.D.Disk.state c.parts.graphs c.write.new.graphs) c.in-Err.fault c.in-Err.ensures.cause is)

pub returns-in-Err-clause-calm : goal.returns-in-Err-clause-calm
returns-in-Err-clause-calm g c = λ no_fault. c.in-Err.ensures.calm no_fault ∙ c.parts.invariant.calm

pub parts-preserved : goal.parts-preserved
parts-preserved g c =
    let disks = g.met.D.Disk g.world.𝓛 g.world.𝓜 g.world.𝓡 ((λ s x. x), (λ x. x), (λ x. x), λ x. x) in
    record {
      steps = each_then g.D.Disk.state IsClosedFront c.args.beat.now c.args.graphs.now c.parts.graphs c.write.new.graphs disks.lawful c.parts.invariant.steps c.write.ensures.steps;
      calm = c.in_default.ensures.calm (λ is. absurd cc) ∙ c.parts.invariant.calm;
      job = c.write.ensures.job ∙ c.parts.invariant.job;
      written = λ edges making.
          let job = c.args.self.now.job in
          let written = c.parts.invariant.written edges making in
          let below : c.parts.partition < parts_of job = omega (arith, c.parts-test.true, c.len-parts.ensures, making.holds.many) in
          let some : 0 < length (waiting c.parts.self.buffers c.parts.partition) = first_of (search rules, grind (arith, common_steps, c.edges.ensures, c.is_empty.ensures, c.if-is_empty.false)) in
          let so_far = full_chunks job.chunk (home_of job) [] edges ++ rests_below job edges c.parts.partition in
          let made : HasMade g.D.Disk.state job (so_far ++ chunk_with c.parts.partition (waiting c.parts.self.buffers c.parts.partition) ∷ []) c.write.new.self.placer c.write.new.self.index c.write.new.graphs =
          subst (λ (j : Job). HasMade g.D.Disk.state j (so_far ++ chunk_with c.parts.partition (waiting c.parts.self.buffers c.parts.partition) ∷ []) c.write.new.self.placer c.write.new.self.index c.write.new.graphs) c.parts.invariant.job
          (c.in_default.ensures.made so_far (subst (λ (j : Job). HasMade g.D.Disk.state j so_far c.parts.self.placer c.parts.self.index c.parts.graphs) (sym c.parts.invariant.job) written.made)) in
          rest_written g.D.Disk.state job edges c.parts.partition c.args.self.now.buffers c.parts.self.buffers c.write.new.self.buffers c.parts.self.placer c.write.new.self.placer c.args.self.now.placer c.parts.self.index c.write.new.self.index c.args.self.now.index c.parts.graphs c.write.new.graphs c.args.graphs.now
          making below written some made c.in_default.ensures.emptied;
    }

pub returns-clause-made : goal.returns-clause-made
returns-clause-made g c = λ edges making.
    rest_ends g.D.Disk.state c.args.self.now.job edges c.parts.partition c.args.self.now.buffers c.parts.self.buffers c.parts.self.placer c.parts.self.index c.parts.graphs
    (omega (arith, c.parts-test.false, c.len-parts.ensures, making.holds.many, c.parts.auto.partition-end)) (c.parts.invariant.written edges making)

pub write-requires-clause-room_for_one : goal.write-requires-clause-room_for_one
write-requires-clause-room_for_one g c = λ _ _.
    let job = c.args.self.now.job in
    let edges = c.requires.making.0 in
    let making = c.requires.making.1 in
    let below : c.parts.partition < parts_of job = omega (arith, c.parts-test.true, c.len-parts.ensures, making.holds.many) in
    room_while_written g.D.Disk.state job edges c.parts.partition c.parts.self.placer c.parts.self.index c.parts.graphs c.requires.job (omega (arith, below)) (c.parts.invariant.written edges making).made
    (subst (AreFew job) (append-nil edges) c.requires.making.2)

pub returns-in-Err-clause-steps : goal.returns-in-Err-clause-steps
returns-in-Err-clause-steps g c =
    let disks = g.met.D.Disk g.world.𝓛 g.world.𝓜 g.world.𝓡 ((λ s x. x), (λ x. x), (λ x. x), λ x. x) in
    each_then g.D.Disk.state IsClosedFront c.args.beat.now c.args.graphs.now c.parts.graphs c.write.new.graphs disks.lawful c.parts.invariant.steps c.write.ensures.steps
