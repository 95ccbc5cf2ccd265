use Rattle.std.proofs.Common.{◌≡◌, ◌≢◌, ◌+◌, true, false, not, refl, subst, arith, ◌∙◌}
use Rattle.std.proofs.lemmas.Bool.{not-true, not-false}
use Rattle.chunk_object.specs.Duty.{is_on, Helps}
use Rattle.worker_duty.specs.Shares.{is_master, HelpsAt}
use Rattle.worker_duty.proofs.Parts.{PartTo, part_none, part_skip, part_more, part_stopped}
use Rattle.worker_duty.proofs.Shares.{apart_partitions}
use Rattle.worker_duty.proofs.Duties.{other_is, other_not, other_share, some_other, work_elsewhere, worker_stays}
use Rattle.worker_duty.proofs.duty.other_partitions.Goals as goal

pub others-init : goal.others-init
others-init g c = record {
  follows = c.requires.acts.stays c.args.desk.now;
  table = refl;
  worker = refl;
  part = part_none is_on (λ p. not (is_master (g.P.Phase.terms c.args.context.now) c.args.share.worker p)) (Helps (g.P.Phase.terms c.args.context.now)) (g.P.Phase.hold c.args.desk.now).view;
  may = λ p below from other. c.requires.may p below other;
  rests = c.requires.rests;
  few = omega arith;
  helped = omega arith;
}

pub others-preserved-then-partition-share : goal.others-preserved-then-partition-share
others-preserved-then-partition-share g c = record {
  follows = c.others.invariant.follows;
  table = c.others.invariant.table;
  worker = c.others.invariant.worker;
  part = part_skip is_on (λ p. not (is_master (g.P.Phase.terms c.args.context.now) c.args.share.worker p)) (Helps (g.P.Phase.terms c.args.context.now)) c.others.partition _ _ _ _ (other_not (g.P.Phase.terms c.args.context.now) c.args.share.worker c.others.partition c.args.share.engines c.requires.numbers.1 c.if-partition-share.true) c.others.invariant.part;
  may = λ p below from other. c.others.invariant.may p below (omega arith) other;
  rests = c.others.invariant.rests;
  few = omega (arith, c.others.invariant.few);
  helped = omega (arith, c.others.invariant.helped);
}

pub others-preserved : goal.others-preserved
others-preserved g c = record {
  follows = c.requires.acts.joins _ _ _ c.others.invariant.follows c.help-worked.ensures.follows;
  table = c.help-worked.ensures.table ∙ c.others.invariant.table;
  worker = worker_stays _ _ _ c.help-worked.result c.help-worked.ensures.piece ∙ c.others.invariant.worker;
  part = part_more is_on (λ p. not (is_master (g.P.Phase.terms c.args.context.now) c.args.share.worker p)) (Helps (g.P.Phase.terms c.args.context.now)) apart_partitions (HelpsAt (g.P.Phase.terms c.args.context.now) c.others.partition) c.others.partition _ _ _ _ _ _ _ true c.help-worked.result (other_is (g.P.Phase.terms c.args.context.now) c.args.share.worker c.others.partition c.args.share.engines c.requires.numbers.1 c.if-partition-share.false)
      (other_share (g.P.Phase.terms c.args.context.now) c.requires.few.partitions c.args.share.worker c.others.partition) c.others.invariant.part c.help-worked.ensures.piece (not-false c.help-worked.result.is_through c.if-not-worked.false) refl refl;
  may = λ p below from other. work_elsewhere (g.P.Phase.terms c.args.context.now) c.requires.few.partitions c.args.share.worker (HelpsAt (g.P.Phase.terms c.args.context.now) c.others.partition) (g.P.Phase.lens c.args.context.now) p c.others.partition _ _ c.help-worked.result (omega (arith, c.requires.few.partitions, c.requires.numbers.2)) (omega (arith, c.requires.few.partitions, c.requires.numbers.2))
      (let ne : c.others.partition ≢ p = λ (same : c.others.partition ≡ p). omega arith in ne) (λ l helps. helps.only) c.help-worked.ensures.piece (c.others.invariant.may p below (omega arith) other);
  rests = c.help-worked.ensures.rests (not-false c.help-worked.result.is_through c.if-not-worked.false);
  few = omega (arith, c.others.invariant.few, c.help-worked.ensures.few.0);
  helped = omega (arith, c.others.invariant.helped, c.help-worked.ensures.few.1);
}

pub returns-then-not-worked-clause-piece : goal.returns-then-not-worked-clause-piece
returns-then-not-worked-clause-piece g c =
    let more = part_more is_on (λ p. not (is_master (g.P.Phase.terms c.args.context.now) c.args.share.worker p)) (Helps (g.P.Phase.terms c.args.context.now)) apart_partitions (HelpsAt (g.P.Phase.terms c.args.context.now) c.others.partition) c.others.partition (g.P.Phase.hold c.args.desk.now).view (g.P.Phase.hold c.others.desk).view (g.P.Phase.hold c.help-worked.new.desk).view c.others.claims c.others.admitted
    (c.others.claims + c.help-worked.result.claims) (c.others.admitted + c.help-worked.result.admitted) false c.help-worked.result (other_is (g.P.Phase.terms c.args.context.now) c.args.share.worker c.others.partition c.args.share.engines c.requires.numbers.1 c.if-partition-share.false) (other_share (g.P.Phase.terms c.args.context.now) c.requires.few.partitions c.args.share.worker c.others.partition) c.others.invariant.part
    c.help-worked.ensures.piece (not-true c.help-worked.result.is_through c.if-not-worked.true) refl refl in
    part_stopped is_on (λ p. not (is_master (g.P.Phase.terms c.args.context.now) c.args.share.worker p)) (Helps (g.P.Phase.terms c.args.context.now)) apart_partitions (c.others.partition + 1) c.args.share.partitions _ _ _ _ (omega arith) (λ i below is. some_other (g.P.Phase.terms c.args.context.now) c.requires.few.partitions c.args.share.worker i (omega (arith, c.requires.numbers.2)) is) more

pub returns-clause-piece : goal.returns-clause-piece
returns-clause-piece g c =
    let e : c.others.partition ≡ c.args.share.partitions = omega arith in
    subst (λ n. PartTo is_on (λ p. not (is_master (g.P.Phase.terms c.args.context.now) c.args.share.worker p)) (Helps (g.P.Phase.terms c.args.context.now)) n (g.P.Phase.hold c.args.desk.now).view (g.P.Phase.hold c.others.desk).view true c.others.claims c.others.admitted) e c.others.invariant.part

pub returns-then-not-worked-clause-follows : goal.returns-then-not-worked-clause-follows
returns-then-not-worked-clause-follows g c = c.requires.acts.joins _ _ _ c.others.invariant.follows c.help-worked.ensures.follows
