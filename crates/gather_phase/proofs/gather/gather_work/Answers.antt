use Rattle.std.proofs.Common.{ℕ, Bool, List, inl, rules, refl, sym, ap, ◌∙◌, subst, arith, cond}
use Rattle.std.proofs.iter.Serving.{serving}
use Rattle.graph_model.specs.Programs.{plus}
use Rattle.graph_model.specs.Partitions.{first_vertex}
use Rattle.phase_model.specs.JobTerms.{terms_of}
use Rattle.phase_model.specs.Taken.{records_of}
use Rattle.phase_model.specs.Sums.{sum_at, counts_of}
use Rattle.worker_duty.specs.Views.{taken_by_seat, MayWork}
use Rattle.replica_merge.specs.Accumulators.{len_of}
use Rattle.gather_phase.specs.Phases.{Takes, adding_of, MayStopBy}
use Rattle.store_reader.specs.Indexed.{lens_of}
use Rattle.gather_phase.specs.Gathered.{over_partition}
use Rattle.gather_phase.proofs.Homes.{sums_all, updates_homed, edges_homed, counts-records, sums_are_degrees}
use Rattle.gather_phase.proofs.Steps.{enters}
use Rattle.gather_phase.proofs.Beginning.{goes_on_then, where_not_false}
use Rattle.gather_phase.proofs.gather.gather_work.Goals as goal

pub work-worked-requires-clause-may : goal.work-worked-requires-clause-may
work-worked-requires-clause-may g c = subst (λ seat. MayWork (terms_of c.args.context.now.serving.job.now) (lens_of c.args.context.now.serving.index.now) seat.view) (sym c.begin.ensures.seat.0) c.requires.may

pub returns-clause-room : goal.returns-clause-room
returns-clause-room g c = c.work-worked.ensures.follows.room c.args.context.now.serving.job.now c.begin.ensures.rests.room

pub work-worked-requires-clause-acts : goal.work-worked-requires-clause-acts
work-worked-requires-clause-acts g c = record {
  may_serve = λ p e k may. (c.requires.serving, (may, grind serving));
  serves = λ p q e k r may post. search rules;
  may_propose = λ p k may. (c.requires.serving, (may, grind serving));
  proposes = λ p q k r may post. search rules;
  may_leave = λ p k may. (c.requires.serving, (may, grind serving));
  leaves = λ p q k r may post. search rules;
  stays = λ desk. record { worker = refl; split = refl; room = λ job is. is; reads = omega arith; writes = omega arith; told = λ bytes is. (bytes, is); caused = λ is. inl is; calm = λ is. (is, refl, refl) };
  joins = λ a b d x y. goes_on_then g.D.Disk.state g.D.M.Meter.faults a b d x y;
  enters = λ desk k chunks below rests none. record {
    at = enters _ _ _ _ _ _ _ _ _ _ _ k (omega (arith, below, c.requires.serving.of_job.parts)) rests.at none;
    room = rests.room;
    found = rests.found;
    done = rests.done;
  };
}

pub returns-clause-gathered : goal.returns-clause-gathered
returns-clause-gathered g c = λ done.
    let rules_now = g.P.VertexProgram.rules c.args.context.now.program.now in
    let chunks : List (ℕ × ℕ) = taken_by_seat c.work-worked.new.desk.seat.view in
    let through = where_not_false c.work-worked.result.is_through (λ stopped. subst (MayStopBy g.P.VertexProgram.rules g.D.Disk.state c.args.context.now) done (c.work-worked.ensures.stops stopped).why) in
    let rests = (c.work-worked.ensures.rests through).at in
    record {
      within = rests.within;
      width = rests.width;
      found = (c.work-worked.ensures.rests through).found;
      summed = λ kind records has device tells p below.
          rests.sums p below records (subst (λ b. Takes g.D.Disk.state b c.args.context.now.serving records) (sym kind) has) device tells
          ∙ (sums_all c.args.context.now.serving.split.now c.requires.serving.split c.args.context.now.serving.job.now.engines (lens_of c.args.context.now.serving.index.now) records (updates_homed g.D.Disk.state c.args.context.now.serving c.requires.serving.split records has) (adding_of g.P.VertexProgram.rules g.D.Disk.state c.args.context.now) refl p chunks rests.known
          ∙ ap (λ (b : Bool). over_partition c.args.context.now.serving.split.now (sum_at (cond b plus rules_now.fold) (cond b 0 rules_now.unit) (records_of records chunks)) p) kind);
      counted = λ kind records has device tells p below.
          rests.sums p below (λ w t. counts_of (records w t)) (subst (λ b. Takes g.D.Disk.state b c.args.context.now.serving (λ w t. counts_of (records w t))) (sym kind) (records, has, λ w t. refl)) device tells
          ∙ (sums_all c.args.context.now.serving.split.now c.requires.serving.split c.args.context.now.serving.job.now.engines (lens_of c.args.context.now.serving.index.now) (λ w t. counts_of (records w t)) (edges_homed g.D.Disk.state c.args.context.now.serving c.requires.serving.split c.args.context.now.serving.job.now.format records has) (adding_of g.P.VertexProgram.rules g.D.Disk.state c.args.context.now) refl p chunks rests.known
          ∙ (ap (λ (b : Bool). over_partition c.args.context.now.serving.split.now (sum_at (cond b plus rules_now.fold) (cond b 0 rules_now.unit) (records_of (λ w t. counts_of (records w t)) chunks)) p) kind
          ∙ (ap (λ us. over_partition c.args.context.now.serving.split.now (sum_at plus 0 us) p) (counts-records records chunks)
          ∙ sums_are_degrees (records_of records chunks) (first_vertex c.args.context.now.serving.split.now.vertices c.args.context.now.serving.split.now.parts p) (len_of c.args.context.now.serving.split.now p))));
    }
