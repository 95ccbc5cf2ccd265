-- Stores that were made, with lanes and spills to which nothing was written.
use Rattle.std.proofs.Common.{◌≡◌, ℕ, ◌<◌, ◌≤◌, sym, subst, arith, length, vec_len, slice_index_or}
use Rattle.std.specs.List.{All}
use Rattle.std.specs.Prelude.{Vec}
use Rattle.std.specs.Global.{Global}
use Rattle.graph_model.specs.declared.job.Job.{Job}
use Rattle.mem_devices.specs.declared.disk.MemDisk.{MemDisk}
use Rattle.mem_devices.specs.MemDisk.{disk_state}
use Rattle.store_model.specs.Slots.{device_size}
use Rattle.store_model.specs.Kept.{own_of}
use Rattle.store_reader.specs.declared.store.Store.{Store}
use Rattle.ports.specs.Devices.{AreDevices, AreRows}
use Rattle.round_steps.specs.Going.{IsStore}
use Rattle.partitioner.specs.Splits.{split_for}

pub store_is : {M : Type 0} (job : Job) (number : ℕ) (store : Store MemDisk M) (lanes : Vec (Vec MemDisk Global) Global) (spills : Vec MemDisk Global) → store.lanes ≡ lanes → store.spills ≡ spills
    → vec_len store.graphs ≡ job.engines → length store.values.items ≡ job.engines → All (λ (d : MemDisk). (disk_state d).beat ≤ number) store.values.items
    → ((e : ℕ) (d : MemDisk) → e < job.engines → (disk_state (slice_index_or store.values.items e d)).size ≡ device_size (own_of job e))
    → length lanes.items ≡ job.engines → All (λ (row : Vec MemDisk Global). (length row.items ≡ job.engines) × All (λ (d : MemDisk). (disk_state d).beat ≤ 0) row.items) lanes.items
    → length spills.items ≡ job.engines → All (λ (d : MemDisk). (disk_state d).beat ≤ 0) spills.items → IsStore disk_state (split_for job) number store
store_is job number store lanes spills same_lanes same_spills graphs many beats sizes lanes_many lanes_are spills_many spills_are = record {
  graphs = graphs;
  values = record { all = many; beats = λ e d below. beats e d (omega (arith, below, many)) };
  sizes = sizes;
  lanes = subst (λ (those : Vec (Vec MemDisk Global) Global). AreRows disk_state job.engines number those.items) (sym same_lanes)
      (record {
        all = lanes_many;
        each = λ w row below.
            let at = lanes_are w row (omega (arith, below, lanes_many)) in
            record { all = at.0; beats = λ e d within. let least = at.1 e d (omega (arith, within, at.0)) in omega (arith, least) };
      });
  spills = subst (λ (those : Vec MemDisk Global). AreDevices disk_state job.engines number those.items) (sym same_spills)
      (record { all = spills_many; beats = λ e d below. let least = spills_are e d (omega (arith, below, spills_many)) in omega (arith, least) });
}
