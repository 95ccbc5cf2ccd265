use Rattle.std.proofs.Common.{◌≡◌, ℕ, ◌<◌, subst, sym, arith}
use Rattle.chunk_cursor.specs.Hold.{Hold}
use Rattle.chunk_file.specs.Places.{places_of}
use Rattle.phase_model.specs.JobTerms.{terms_of}
use Rattle.store_reader.specs.Indexed.{lens_of}
use Rattle.store_reader.specs.Serving.{HasDevices}
use Rattle.worker_duty.specs.Views.{MayWork}
use Rattle.store_tests.proofs.gather_tests.share_of_one.Goals as goal

only_zero : (n k : ℕ) → n ≡ 1 → k < n → 0 ≡ k
only_zero n k one below = omega arith

pub gather_work-requires-clause-serving : goal.gather_work-requires-clause-serving
gather_work-requires-clause-serving g c κs within = record {
  job = c.requires.job;
  split = c.of_job-split.ensures.split;
  of_job = c.of_job-split.ensures.of_job;
  few = c.requires.few;
  devices = λ e p below inside.
      let first : 0 ≡ e = only_zero c.args.job.now.engines e c.requires.one.0 below in
      let only : 0 ≡ p = only_zero c.of_job-split.result.parts p (subst (λ n. c.of_job-split.result.parts ≡ n) c.requires.one.1 c.of_job-split.ensures.of_job.parts) inside in
      subst (λ k. HasDevices c.args.shelf k (places_of c.args.index.now k p)) first
      (subst (λ k. HasDevices c.args.shelf 0 (places_of c.args.index.now 0 k)) only c.requires.devices);
}

pub gather_work-requires-clause-may : goal.gather_work-requires-clause-may
gather_work-requires-clause-may g c κs within =
    subst (λ (seat : Hold). MayWork (terms_of c.args.job.now) (lens_of c.args.index.now) seat.view) (sym c.desk_of-desk.ensures.seat.0) c.seat_of_one-seat.ensures.may
