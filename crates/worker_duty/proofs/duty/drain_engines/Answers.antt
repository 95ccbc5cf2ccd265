use Rattle.std.proofs.Common.{◌≡◌, ◌≢◌, ◌+◌, true, false, refl, subst, arith, ◌∙◌}
use Rattle.std.proofs.lemmas.Bool.{not-true, not-false}
use Rattle.chunk_object.specs.Epochs.{cursor_of}
use Rattle.chunk_object.specs.Duty.{claims_at, EndsExhausted}
use Rattle.worker_duty.specs.Shares.{DrainsCursor}
use Rattle.worker_duty.proofs.Parts.{PartTo, part_none, part_more, part_stopped}
use Rattle.worker_duty.proofs.Shares.{apart_engines, engine_share, some_cursor, engine_ready}
use Rattle.worker_duty.proofs.duty.drain_engines.Goals as goal

pub engines-preserved : goal.engines-preserved
engines-preserved g c = record {
  follows = c.requires.acts.joins _ _ _ c.engines.invariant.follows c.drain_cursor-worked.ensures.follows;
  table = c.drain_cursor-worked.ensures.table ∙ c.engines.invariant.table;
  part = part_more (λ engine. claims_at (cursor_of engine c.args.partition)) (λ engine. true) (λ engine. EndsExhausted) (apart_engines c.args.partition) (DrainsCursor (cursor_of c.engines.engine c.args.partition)) c.engines.engine _ _ _ _ _ _ _ true c.drain_cursor-worked.result refl (engine_share c.engines.engine c.args.partition) c.engines.invariant.part c.drain_cursor-worked.ensures.piece (not-false c.drain_cursor-worked.result.is_through c.if-not-worked.false) refl
      (omega (arith, c.drain_cursor-worked.ensures.few.1));
  ready = λ e from below. engine_ready c.args.partition c.engines.engine e _ _ _ _ (let ne : c.engines.engine ≢ e = λ (same : c.engines.engine ≡ e). omega arith in ne) c.drain_cursor-worked.ensures.piece (c.engines.invariant.ready e (omega arith) below);
  meets = c.drain_cursor-worked.ensures.meets (not-false c.drain_cursor-worked.result.is_through c.if-not-worked.false);
  few = omega (arith, c.engines.invariant.few, c.drain_cursor-worked.ensures.few.0);
}

pub returns-then-not-worked-clause-piece : goal.returns-then-not-worked-clause-piece
returns-then-not-worked-clause-piece g c =
    let more = part_more (λ engine. claims_at (cursor_of engine c.args.partition)) (λ engine. true) (λ engine. EndsExhausted) (apart_engines c.args.partition) (DrainsCursor (cursor_of c.engines.engine c.args.partition)) c.engines.engine (g.P.Phase.hold c.args.desk.now).view (g.P.Phase.hold c.engines.desk).view (g.P.Phase.hold c.drain_cursor-worked.new.desk).view c.engines.claims 0 (c.engines.claims + c.drain_cursor-worked.result.claims) 0 false c.drain_cursor-worked.result refl (engine_share c.engines.engine c.args.partition) c.engines.invariant.part c.drain_cursor-worked.ensures.piece (not-true c.drain_cursor-worked.result.is_through c.if-not-worked.true) refl
    (omega (arith, c.drain_cursor-worked.ensures.few.1)) in
    part_stopped (λ engine. claims_at (cursor_of engine c.args.partition)) (λ engine. true) (λ engine. EndsExhausted) (apart_engines c.args.partition) (c.engines.engine + 1) c.args.engines _ _ _ _ (omega arith) (λ i below is. some_cursor c.args.partition i) more

pub returns-clause-piece : goal.returns-clause-piece
returns-clause-piece g c =
    let e : c.engines.engine ≡ c.args.engines = omega arith in
    subst (λ n. PartTo (λ engine. claims_at (cursor_of engine c.args.partition)) (λ engine. true) (λ engine. EndsExhausted) n (g.P.Phase.hold c.args.desk.now).view (g.P.Phase.hold c.engines.desk).view true c.engines.claims 0) e c.engines.invariant.part

pub engines-init : goal.engines-init
engines-init g c = record {
  follows = c.requires.acts.stays c.args.desk.now;
  table = refl;
  part = part_none (λ engine. claims_at (cursor_of engine c.args.partition)) (λ engine. true) (λ engine. EndsExhausted) (g.P.Phase.hold c.args.desk.now).view;
  ready = λ e from below. c.requires.ready e below;
  meets = c.requires.meets;
  few = omega arith;
}

pub returns-then-not-worked-clause-follows : goal.returns-then-not-worked-clause-follows
returns-then-not-worked-clause-follows g c = c.requires.acts.joins _ _ _ c.engines.invariant.follows c.drain_cursor-worked.ensures.follows
