-- What a stop leaves of devices that no call has touched.
use Rattle.std.proofs.Common.{◌≡◌, inl, length, get_or, subst, arith}
use Rattle.ports.specs.Disk.{DiskState, IsDisk}
use Rattle.graph_model.specs.declared.job.Job.{Job}
use Rattle.store_model.specs.Kept.{device}
use Rattle.store_reader.specs.declared.store.Store.{Store}
use Rattle.store_rounds.proofs.Places.{stop_of_each}
use Rattle.run_model.specs.Calls.{Call}
use Rattle.run_model.specs.Stops.{LeavesStores}
use Rattle.list_moves.proofs.Desks.{some_of}

-- what a stop leaves where no device of the store was touched
pub leaves_untouched : {D M : Type 0} (state : D → DiskState) (lawful : (d : D) → IsDisk (state d)) (job : Job) (call : Call D M) → length call.before.store.graphs.items ≡ job.engines
    → call.after.store ≡ call.before.store → call.after.beat ≡ call.before.beat → LeavesStores state job call
leaves_untouched {D} state lawful job call many same beat = record {
  any_stop = λ shut text text_is told tells b graphs values within stop_graphs stop_values.
      let d : D = some_of call.before.store.graphs.items shut.0 (omega (arith, shut.1, many)) in
      let stop = stop_of_each state b call.before.store.graphs.items call.after.store.graphs.items graphs stop_graphs in
      let there = stop.each shut.0 d (omega (arith, shut.1, many)) in
      let image = (lawful (get_or call.before.store.graphs.items shut.0 d)).only_now b (device graphs shut.0)
      (subst (λ (store : Store D _). (state (get_or store.graphs.items shut.0 d)).stops b (state (get_or call.before.store.graphs.items shut.0 d)).moment (device graphs shut.0)) same there) in
      inl (shut.0, omega (arith, shut.1, many, stop.many), shut.2 d (device graphs shut.0) image);
  in_rounds = λ text text_is told tells round from b graphs values within stop_graphs stop_values is. absurd (omega (arith, within, beat, is));
}
