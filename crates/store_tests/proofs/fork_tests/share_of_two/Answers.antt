use Rattle.std.proofs.Common.{◌∙◌, refl, ap, sym, subst, rules, arith}
use Rattle.graph_model.proofs.ListLemmas.{pair_related}
use Rattle.chunk_cursor.specs.Hold.{Hold}
use Rattle.phase_model.specs.JobTerms.{terms_of}
use Rattle.store_reader.specs.Indexed.{lens_of}
use Rattle.worker_duty.specs.Views.{MayWork}
use Rattle.mem_devices.specs.declared.disk.MemDisk.{MemDisk}
use Rattle.mem_devices.specs.MemDisk.{disk_state}
use Rattle.replica_merge.specs.declared.replicas.Replicas.{Replicas}
use Rattle.replica_merge.specs.Accumulators.{LiesWithin}
use Rattle.store_tests.proofs.fork_tests.share_of_two.Goals as goal

pub returns : goal.returns
returns g c = record {
  splits = search (rules, c.take_back-one.ensures.split, c.take_back-two.ensures.split);
  each = refl;
  within = pair_related (λ (r : Replicas) (d : MemDisk). LiesWithin r (disk_state d).size) _ _ _ _ c.take_back-one.ensures.within c.take_back-two.ensures.within;
}

pub gather_both-one-requires-clause-ready : goal.gather_both-one-requires-clause-ready
gather_both-one-requires-clause-ready g c κs within =
    let May = λ (seat : Hold). MayWork (terms_of c.args.job.now) (lens_of c.args.index.now) seat.view in (
      record {
        table = ap (λ (seat : Hold). seat.table) c.desk_of-one.ensures.seat.0 ∙ c.seats_of_two-one.ensures.table.1;
        worker = c.desk_of-one.ensures.seat.1 ∙ sym (ap (λ (seat : Hold). seat.view.worker) c.desk_of-one.ensures.seat.0 ∙ c.seats_of_two-one.ensures.worker.0);
        story = ap (λ (seat : Hold). seat.view.story) c.desk_of-one.ensures.seat.0 ∙ c.seats_of_two-one.ensures.story.0;
        may = subst May (sym c.desk_of-one.ensures.seat.0) c.seats_of_two-one.ensures.may.0;
        replicas = c.desk_of-one.ensures.replicas;
        room = c.desk_of-one.ensures.room;
        spill = (c.desk_of-one.ensures.spill.0, omega (arith, c.desk_of-one.ensures.spill.1));
      },
      record {
        table = ap (λ (seat : Hold). seat.table) c.desk_of-two.ensures.seat.0 ∙ c.seats_of_two-one.ensures.table.2;
        worker = c.desk_of-two.ensures.seat.1 ∙ sym (ap (λ (seat : Hold). seat.view.worker) c.desk_of-two.ensures.seat.0 ∙ c.seats_of_two-one.ensures.worker.1);
        story = ap (λ (seat : Hold). seat.view.story) c.desk_of-two.ensures.seat.0 ∙ c.seats_of_two-one.ensures.story.1;
        may = subst May (sym c.desk_of-two.ensures.seat.0) c.seats_of_two-one.ensures.may.1;
        replicas = c.desk_of-two.ensures.replicas;
        room = c.desk_of-two.ensures.room;
        spill = (c.desk_of-two.ensures.spill.0, omega (arith, c.desk_of-two.ensures.spill.1));
      },
    )
