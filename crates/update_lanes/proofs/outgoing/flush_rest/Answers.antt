-- Each partition's step, and what the steps so far come to where one of them fails and at the end.
use Rattle.std.proofs.Common.{◌≡◌, ◌<◌, length, get_or, rules, sym, ◌∙◌, ap, subst, arith}
use Rattle.update_lanes.specs.Lanes.{HasFlushed}
use Rattle.update_lanes.proofs.GoingOn.{goes_on, rose_since, err_cause}
use Rattle.update_lanes.proofs.Flushing.{flushing_skip, flushing_one, flushed_few}
use Rattle.update_lanes.proofs.outgoing.flush_rest.Goals as goal

pub partitions-preserved-then-is_empty : goal.partitions-preserved-then-is_empty
partitions-preserved-then-is_empty g c =
    let is = c.partitions.invariant in
    let below : c.partitions.partition < length c.args.out.now.buffers.items = omega (arith, c.requires.room.many, ap (λ s. s.parts) is.same.split, c.partitions-test.true) in
    let none : length (get_or c.partitions.out.buffers.items c.partitions.partition c.index.result.now).items ≡ 0 = search rules in
    flushing_skip g.D.Disk.state c.args.beat.now c.partitions.partition c.args.out.now c.partitions.out c.args.lanes.now c.partitions.lanes c.args.places.now.items c.partitions.places.items c.index.result.now below none is

pub partitions-preserved : goal.partitions-preserved
partitions-preserved g c =
    let is = c.partitions.invariant in
    let in_parts : c.partitions.partition < c.args.out.now.split.parts = omega (arith, ap (λ s. s.parts) is.same.split, c.partitions-test.true) in
    let below : c.partitions.partition < length c.args.out.now.buffers.items = omega (arith, c.requires.room.many, in_parts) in
    let some : 0 < length (get_or c.partitions.out.buffers.items c.partitions.partition c.index.result.now).items = search rules in
    flushing_one g.D.Disk.state c.args.beat.now c.partitions.partition c.args.out.now c.partitions.out c.flush_one.new.out c.args.lanes.now c.partitions.lanes c.flush_one.new.lanes c.args.places.now.items c.partitions.places.items c.flush_one.new.places.items c.index.result.now below in_parts some is
    c.flush_one.ensures.same c.flush_one.ensures.room c.flush_one.ensures.buffers c.flush_one.ensures.lanes c.in_ok-flush_one.ensures.calm c.in_ok-flush_one.ensures.ready c.in_ok-flush_one.ensures.noted c.in_ok-flush_one.ensures.made

pub returns-in_err-flush_one-clause-few : goal.returns-in_err-flush_one-clause-few
returns-in_err-flush_one-clause-few g c =
    subst (λ places. HasFlushed c.args.out.now.split.engines c.args.out.now.split.parts c.args.places.now.items places) (sym c.in_err-flush_one.ensures.kept)
    (flushed_few g.D.Disk.state c.args.beat.now c.partitions.partition c.args.out.now c.partitions.out c.args.lanes.now c.partitions.lanes c.args.places.now.items c.partitions.places.items c.partitions.invariant)

pub returns-in_err-flush_one-clause-cause : goal.returns-in_err-flush_one-clause-cause
returns-in_err-flush_one-clause-cause g c =
    err_cause c.from_residual.result _ _
    (λ fault same is. rose_since g.D.Disk.state c.args.beat.now c.args.lanes.now c.partitions.lanes c.flush_one.new.lanes c.partitions.invariant.go_on (c.in_err-flush_one.ensures.cause (sym same ∙ is)))
    c.from_residual.ensures.1

pub returns-clause-few : goal.returns-clause-few
returns-clause-few g c = flushed_few g.D.Disk.state c.args.beat.now c.partitions.partition c.args.out.now c.partitions.out c.args.lanes.now c.partitions.lanes c.args.places.now.items c.partitions.places.items c.partitions.invariant

pub returns-in_err-flush_one-clause-lanes : goal.returns-in_err-flush_one-clause-lanes
returns-in_err-flush_one-clause-lanes g c = goes_on g.D.Disk.state c.args.beat.now c.args.lanes.now c.partitions.lanes c.flush_one.new.lanes c.partitions.invariant.go_on c.flush_one.ensures.lanes
