use Rattle.std.proofs.Common.{length, refl, sym, ap, ◌∙◌, subst, arith, []}
use Rattle.phase_model.specs.JobTerms.{terms_of}
use Rattle.chunk_cursor.proofs.Knowing.{with_calls-none}
use Rattle.store_reader.specs.Indexed.{lens_of}
use Rattle.update_lanes.proofs.GoingOn.{goes_on}
use Rattle.worker_duty.specs.Views.{MayWork}
use Rattle.scatter_phase.proofs.Counts.{few_noted}
use Rattle.scatter_phase.proofs.Steps.{same_sent, chunks_of, cause_of, noted, goes_on_then}
use Rattle.scatter_phase.proofs.scatter.scatter_work.Goals as goal

pub returns-in-Err-clause-duty : goal.returns-in-Err-clause-duty
returns-in-Err-clause-duty g c = record {
  calls = [];
  grown = ap (λ s. s.view) c.begin.ensures.seat.0 ∙ sym (with_calls-none c.args.desk.now.seat.view);
  dutiful = λ e. absurd cc;
  begins = c.no_call_begins_a_duty.ensures (terms_of c.args.context.now.serving.job.now) c.args.desk.now.worker c.requires.serving.job.few_parts;
  claims_are = refl;
  admissions_are = refl;
}

pub work_through-worked-requires-clause-may : goal.work_through-worked-requires-clause-may
work_through-worked-requires-clause-may g c κs within = subst (λ seat. MayWork (terms_of c.args.context.now.serving.job.now) (lens_of c.args.context.now.serving.index.now) seat.view) (sym c.begin.ensures.seat.0) c.requires.may

pub finish-requires-clause-holds : goal.finish-requires-clause-holds
finish-requires-clause-holds g c κs within =
    let holds = c.work_through-worked.ensures.holds c.if-worked.true in
    record { fit = record { room = holds.fit.room; loaded = holds.fit.loaded; none_full = holds.fit.none_full; ready = holds.fit.ready; within = holds.fit.within; done = holds.fit.done }; has = same_sent g.P.VertexProgram.rules g.D.Disk.state c.args.context.now c.work_through-worked.new.desk _ _ refl refl refl refl holds.has; found = holds.found }

pub finish-requires-clause-claims : goal.finish-requires-clause-claims
finish-requires-clause-claims g c κs within = c.work_through-worked.ensures.worked.claims_are ∙ sym (ap length (chunks_of c.begin.new.desk.seat.view c.work_through-worked.new.desk.seat.view c.work_through-worked.ensures.worked.calls (ap (λ s. s.view.story) c.begin.ensures.seat.0 ∙ c.requires.story) c.work_through-worked.ensures.worked.grown))

pub returns-then-worked-clause-room : goal.returns-then-worked-clause-room
returns-then-worked-clause-room g c = c.finish.ensures.goes_on.room c.args.context.now.serving.job.now (c.work_through-worked.ensures.goes_on.room c.args.context.now.serving.job.now c.begin.ensures.room)

pub returns-then-worked-clause-lanes : goal.returns-then-worked-clause-lanes
returns-then-worked-clause-lanes g c = goes_on g.D.Disk.state c.args.context.now.beat.now c.args.desk.now.lanes.items c.work_through-worked.new.desk.lanes.items c.finish.new.desk.lanes.items (goes_on g.D.Disk.state c.args.context.now.beat.now c.args.desk.now.lanes.items c.begin.new.desk.lanes.items c.work_through-worked.new.desk.lanes.items c.begin.ensures.lanes c.work_through-worked.ensures.goes_on.lanes) c.finish.ensures.goes_on.lanes

pub returns-then-worked-clause-cause : goal.returns-then-worked-clause-cause
returns-then-worked-clause-cause g c = cause_of g.D.Disk.state g.D.M.Meter.faults c.args.context.now.beat.now c.args.desk.now c.begin.new.desk c.finish.new.desk c.begin.ensures.same.1 c.begin.ensures.lanes c.in-Ok.ensures.calm c.in-Ok.ensures.holds.fit.done
    (goes_on_then g.D.Disk.state g.D.M.Meter.faults c.args.context.now.beat.now c.begin.new.desk _ c.finish.new.desk (noted g.D.Disk.state g.D.M.Meter.faults c.args.context.now.beat.now c.begin.new.desk c.work_through-worked.new.desk _ refl refl refl refl refl c.work_through-worked.ensures.goes_on) c.finish.ensures.goes_on)

pub returns-else-worked-clause-lanes : goal.returns-else-worked-clause-lanes
returns-else-worked-clause-lanes g c = goes_on g.D.Disk.state c.args.context.now.beat.now c.args.desk.now.lanes.items c.begin.new.desk.lanes.items c.work_through-worked.new.desk.lanes.items c.begin.ensures.lanes c.work_through-worked.ensures.goes_on.lanes

pub returns-else-worked-clause-within : goal.returns-else-worked-clause-within
returns-else-worked-clause-within g c = (c.work_through-worked.ensures.stops c.if-worked.false).within

pub returns-else-worked-clause-few : goal.returns-else-worked-clause-few
returns-else-worked-clause-few g c =
    let few = (c.work_through-worked.ensures.stops c.if-worked.false).few in
    few_noted c.work_through-worked.new.desk.places.items c.work_through-worked.result.claims (omega (arith, few, c.work_through-worked.ensures.worked.claims_are, ap length (chunks_of c.begin.new.desk.seat.view c.work_through-worked.new.desk.seat.view c.work_through-worked.ensures.worked.calls (ap (λ s. s.view.story) c.begin.ensures.seat.0 ∙ c.requires.story) c.work_through-worked.ensures.worked.grown)))

pub returns-else-worked-clause-cause : goal.returns-else-worked-clause-cause
returns-else-worked-clause-cause g c = cause_of g.D.Disk.state g.D.M.Meter.faults c.args.context.now.beat.now c.args.desk.now c.begin.new.desk _ c.begin.ensures.same.1 c.begin.ensures.lanes c.in-Ok.ensures.calm c.in-Ok.ensures.holds.fit.done
    (noted g.D.Disk.state g.D.M.Meter.faults c.args.context.now.beat.now c.begin.new.desk c.work_through-worked.new.desk _ refl refl refl refl refl c.work_through-worked.ensures.goes_on)
