use Rattle.std.proofs.Common.{rules, arith, ◌≡◌, length}
use Rattle.mem_devices.specs.MemDisk.{disk_state}
use Rattle.round_tests.proofs.Devices.{devices_fit}
use Rattle.round_tests.proofs.scatters.scatter.Goals as goal

pub scatter_all-scattered-requires-clause-context : goal.scatter_all-scattered-requires-clause-context
scatter_all-scattered-requires-clause-context g c κs within = record {
  serving = record {
    job = c.requires.job;
    split = c.of_job-split.ensures.split;
    of_job = c.of_job-split.ensures.of_job;
    few = c.requires.few;
    devices = λ e p below inside k place among.
        let many : length c.as_slice.result.now ≡ c.args.job.now.engines = first_of (omega (arith, c.as_slice.ensures.len, c.requires.store.graphs), search rules) in
        omega (arith, below, many);
  };
  values = devices_fit disk_state c.args.job.now c.of_job-split.result _ c.as_slice-2.result.now c.of_job-split.ensures.of_job c.as_slice-2.ensures.value c.requires.store.values.all c.requires.store.sizes;
  slots = c.requires.slots;
  epoch = omega arith;
}
