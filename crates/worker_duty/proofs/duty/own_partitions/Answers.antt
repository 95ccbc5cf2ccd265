use Rattle.std.proofs.Common.{◌≡◌, ◌≢◌, ◌≤◌, ◌%◌, ◌+◌, true, false, refl, ap, sym, subst, arith, ◌∙◌}
use Rattle.std.proofs.lemmas.Bool.{not-true, not-false}
use Rattle.chunk_object.specs.Duty.{is_on, ClaimsToTheEnd}
use Rattle.worker_duty.specs.Shares.{is_master, DrainsTo}
use Rattle.worker_duty.proofs.Parts.{PartTo, part_none, part_skip, part_more, part_stopped}
use Rattle.worker_duty.proofs.Shares.{apart_partitions, drained_on}
use Rattle.worker_duty.proofs.Duties.{master_is, master_not, own_share, some_own, work_elsewhere, worker_stays}
use Rattle.worker_duty.proofs.duty.own_partitions.Goals as goal

pub own-init : goal.own-init
own-init g c = record {
  follows = c.requires.acts.stays c.args.desk.now;
  table = refl;
  worker = refl;
  part = part_none is_on (is_master (g.P.Phase.terms c.args.context.now) c.args.share.worker) (ClaimsToTheEnd (g.P.Phase.terms c.args.context.now).engines) (g.P.Phase.hold c.args.desk.now).view;
  may = λ p below from. c.requires.may p (omega (arith, c.requires.numbers.2));
  rests = c.requires.rests;
  few = omega arith;
}

pub own-preserved-then-partition-share : goal.own-preserved-then-partition-share
own-preserved-then-partition-share g c = record {
  follows = c.own.invariant.follows;
  table = c.own.invariant.table;
  worker = c.own.invariant.worker;
  part = part_skip is_on (is_master (g.P.Phase.terms c.args.context.now) c.args.share.worker) (ClaimsToTheEnd (g.P.Phase.terms c.args.context.now).engines) c.own.partition _ _ _ _ (master_not (g.P.Phase.terms c.args.context.now) c.args.share.worker c.own.partition c.args.share.engines c.requires.numbers.1 c.if-partition-share.true) c.own.invariant.part;
  may = λ p below from. c.own.invariant.may p below (λ is. let h : c.own.partition + 1 ≤ p = from is in omega (arith, h));
  rests = c.own.invariant.rests;
  few = omega (arith, c.own.invariant.few);
}

pub own-preserved : goal.own-preserved
own-preserved g c = record {
  follows = c.requires.acts.joins _ _ _ c.own.invariant.follows c.drain_partition-worked.ensures.follows;
  table = c.drain_partition-worked.ensures.table ∙ c.own.invariant.table;
  worker = worker_stays _ _ _ c.drain_partition-worked.result c.drain_partition-worked.ensures.piece ∙ c.own.invariant.worker;
  part = part_more is_on (is_master (g.P.Phase.terms c.args.context.now) c.args.share.worker) (ClaimsToTheEnd (g.P.Phase.terms c.args.context.now).engines) apart_partitions (DrainsTo c.own.partition c.args.share.engines) c.own.partition _ _ _ _ _ _ _ true c.drain_partition-worked.result (master_is (g.P.Phase.terms c.args.context.now) c.args.share.worker c.own.partition c.args.share.engines c.requires.numbers.1 c.if-partition-share.false)
      (own_share (g.P.Phase.terms c.args.context.now) c.requires.few.partitions c.args.share.worker c.args.share.engines c.requires.numbers.1 c.own.partition (omega (arith, c.requires.numbers.2))) c.own.invariant.part c.drain_partition-worked.ensures.piece (not-false c.drain_partition-worked.result.is_through c.if-not-worked.false) refl (omega (arith, c.drain_partition-worked.ensures.few.1));
  may = λ p below from.
      let ne : c.own.partition ≢ p = λ (same : c.own.partition ≡ p). let h : c.own.partition + 1 ≤ p = from (ap (λ n. n % c.args.share.engines) (sym same) ∙ c.if-partition-share.false) in omega (arith, h) in
      work_elsewhere (g.P.Phase.terms c.args.context.now) c.requires.few.partitions c.args.share.worker (DrainsTo c.own.partition c.args.share.engines) (g.P.Phase.lens c.args.context.now) p c.own.partition _ _ c.drain_partition-worked.result (omega (arith, c.requires.few.partitions, c.requires.numbers.2)) (omega (arith, c.requires.few.partitions, c.requires.numbers.2)) ne
      (λ l drains. drained_on c.args.share.engines c.own.partition (omega (arith, c.requires.few.partitions, c.requires.numbers.2)) l drains) c.drain_partition-worked.ensures.piece (c.own.invariant.may p below (λ is. let h : c.own.partition + 1 ≤ p = from is in omega (arith, h)));
  rests = c.drain_partition-worked.ensures.rests (not-false c.drain_partition-worked.result.is_through c.if-not-worked.false);
  few = omega (arith, c.own.invariant.few, c.drain_partition-worked.ensures.few.0);
}

pub returns-then-not-worked-clause-piece : goal.returns-then-not-worked-clause-piece
returns-then-not-worked-clause-piece g c =
    let more = part_more is_on (is_master (g.P.Phase.terms c.args.context.now) c.args.share.worker) (ClaimsToTheEnd (g.P.Phase.terms c.args.context.now).engines) apart_partitions (DrainsTo c.own.partition c.args.share.engines) c.own.partition (g.P.Phase.hold c.args.desk.now).view (g.P.Phase.hold c.own.desk).view (g.P.Phase.hold c.drain_partition-worked.new.desk).view c.own.claims 0
    (c.own.claims + c.drain_partition-worked.result.claims) 0 false c.drain_partition-worked.result (master_is (g.P.Phase.terms c.args.context.now) c.args.share.worker c.own.partition c.args.share.engines c.requires.numbers.1 c.if-partition-share.false) (own_share (g.P.Phase.terms c.args.context.now) c.requires.few.partitions c.args.share.worker c.args.share.engines c.requires.numbers.1 c.own.partition (omega (arith, c.requires.numbers.2))) c.own.invariant.part
    c.drain_partition-worked.ensures.piece (not-true c.drain_partition-worked.result.is_through c.if-not-worked.true) refl (omega (arith, c.drain_partition-worked.ensures.few.1)) in
    part_stopped is_on (is_master (g.P.Phase.terms c.args.context.now) c.args.share.worker) (ClaimsToTheEnd (g.P.Phase.terms c.args.context.now).engines) apart_partitions (c.own.partition + 1) c.args.share.partitions _ _ _ _ (omega arith) (λ i below is. some_own (g.P.Phase.terms c.args.context.now) c.requires.few.partitions c.args.share.worker i (omega (arith, c.requires.numbers.2)) is) more

pub returns-clause-piece : goal.returns-clause-piece
returns-clause-piece g c =
    let e : c.own.partition ≡ c.args.share.partitions = omega arith in
    subst (λ n. PartTo is_on (is_master (g.P.Phase.terms c.args.context.now) c.args.share.worker) (ClaimsToTheEnd (g.P.Phase.terms c.args.context.now).engines) n (g.P.Phase.hold c.args.desk.now).view (g.P.Phase.hold c.own.desk).view true c.own.claims 0) e c.own.invariant.part

pub returns-then-not-worked-clause-follows : goal.returns-then-not-worked-clause-follows
returns-then-not-worked-clause-follows g c = c.requires.acts.joins _ _ _ c.own.invariant.follows c.drain_partition-worked.ensures.follows
