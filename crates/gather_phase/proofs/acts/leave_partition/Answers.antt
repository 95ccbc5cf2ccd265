use Rattle.std.proofs.Common.{◌≡◌, ◌+◌, ◌*◌, ◌<◌, length, inl, inr, refl, ap, ◌∙◌, subst, arith}
use Rattle.ports.specs.Told.{AsTold}
use Rattle.ports.proofs.Told.{told_on}
use Rattle.replica_merge.specs.Accumulators.{sums_of, len_of, accumulators_of, KeepsOthers}
use Rattle.replica_merge.proofs.NumberLemmas.{length-bytes_of_numbers}
use Rattle.gather_phase.specs.Phases.{Takes, adding_of}
use Rattle.store_reader.specs.Indexed.{lens_of}
use Rattle.gather_phase.proofs.Partition.{spill_fits}
use Rattle.gather_phase.proofs.Serving.{long_sums, stands_begun}
use Rattle.gather_phase.proofs.Steps.{left_spilled, left_idle}
use Rattle.gather_phase.proofs.acts.leave_partition.Goals as goal

pub returns-in_default : goal.returns-in_default
returns-in_default g c = record {
  goes_on = record { worker = refl; split = refl; room = λ job is. is; reads = omega arith; writes = omega arith; told = λ bytes is. (bytes, is); caused = λ is. inl is; calm = λ is. (is, refl, refl) };
  hold_is = refl;
  at_rest = λ e. record {
    at = left_idle _ _ _ _ _ _ _ _ _ _ _ c.args.partition c.in_default.is c.requires.may.at.at;
    room = c.requires.may.at.room;
    found = c.requires.may.at.found;
    done = c.requires.may.at.done;
  };
  stopped = λ e. cc;
}

pub spill_sums-requires-clause-end : goal.spill_sums-requires-clause-end
spill_sums-requires-clause-end g c κs within =
    let begun = stands_begun _ _ _ _ _ _ _ _ _ _ _ c.args.partition c.in-Some.is c.requires.may.at.at in
    spill_fits c.args.context.now.serving.split.now c.args.partition _ (g.D.Disk.state c.args.desk.now.spill).size (length (sums_of c.args.desk.now.replicas)) c.requires.serving.split c.requires.may.at.at.width (long_sums c.args.desk.now.replicas c.args.partition begun.1 ∙ ap (λ s. len_of s c.args.partition) c.requires.may.at.at.split)

pub returns-in-Ok : goal.returns-in-Ok
returns-in-Ok g c =
    let begun = stands_begun _ _ _ _ _ _ _ _ _ _ _ c.args.partition c.in-Some.is c.requires.may.at.at in
    let device = c.in-Ok.ensures.device in
    let many = length-bytes_of_numbers (sums_of c.args.desk.now.replicas) in
    let long = long_sums c.args.desk.now.replicas c.args.partition begun.1 in
    let below : c.args.partition < c.args.context.now.serving.split.now.parts = omega (arith, c.requires.may.partition_is, c.requires.serving.of_job.parts) in
    record {
      goes_on = record {
        worker = refl;
        split = c.in-Ok.ensures.split;
        room = λ job is. record { updates = is.updates; edges = is.edges; bytes = c.in-Ok.ensures.room ∙ is.bytes };
        reads = omega arith;
        writes = device.cause.later;
        told = told_on _ _ _ device.bytes;
        caused = λ is. inl is;
        calm = λ is. (is, refl, device.cause.calm);
      };
      hold_is = refl;
      at_rest = λ e. record {
        at = left_spilled (adding_of g.P.VertexProgram.rules g.D.Disk.state c.args.context.now) c.args.context.now.serving.job.now.engines (lens_of c.args.context.now.serving.index.now) (Takes g.D.Disk.state c.args.context.now.counting c.args.context.now.serving) _ _ _ _ _ _ _ _ _ _ c.in-Some.begun _ c.args.partition below c.in-Some.is c.requires.may.at.at c.in-Ok.ensures.split c.in-Ok.ensures.unit c.in-Ok.ensures.within
            (device.grown ∙ (ap (λ n. (g.D.Disk.state c.args.desk.now.spill).size + n) many ∙ ap (λ n. (g.D.Disk.state c.args.desk.now.spill).size + 8 * n) long)) device.beat
            (subst (λ k. AsTold (λ before now. accumulators_of c.spill_sums.new.replicas now k ≡ sums_of c.args.desk.now.replicas) (g.D.Disk.state c.args.desk.now.spill).bytes (g.D.Disk.state c.spill_sums.new.spill).bytes) begun.0 c.in-Ok.ensures.spilled)
            (subst (λ k. AsTold (KeepsOthers c.args.desk.now.replicas c.spill_sums.new.replicas k) (g.D.Disk.state c.args.desk.now.spill).bytes (g.D.Disk.state c.spill_sums.new.spill).bytes) begun.0 c.in-Ok.ensures.others);
        room = record { updates = c.requires.may.at.room.updates; edges = c.requires.may.at.room.edges; bytes = c.in-Ok.ensures.room ∙ c.requires.may.at.room.bytes };
        found = c.requires.may.at.found;
        done = c.requires.may.at.done;
      };
      stopped = λ e. cc;
    }

pub returns-in-Err : goal.returns-in-Err
returns-in-Err g c =
    let device = c.in-Err.ensures.device in
    record {
      goes_on = record {
        worker = refl;
        split = c.in-Err.ensures.split;
        room = λ job is. record { updates = is.updates; edges = is.edges; bytes = c.in-Err.ensures.room ∙ is.bytes };
        reads = omega arith;
        writes = device.cause.later;
        told = told_on _ _ _ device.bytes;
        caused = λ is. inr (inr device.cause.failed);
        calm = λ is. absurd cc;
      };
      hold_is = refl;
      at_rest = λ e. cc;
      stopped = λ e. record { why = tt; in_time = device.beat };
    }
