-- What is summed up, and then stored.
use Rattle.std.proofs.Common.{◌≡◌, inl, inr, ◌+◌, ℕ, true, false, map, ◌∙◌, ap, subst, arith}
use Rattle.graph_model.specs.Rounds.{IsWithinGraph}
use Rattle.store_reader.specs.declared.store.Outcome.TheVariants.{Done}
use Rattle.round_steps.specs.Damage.{IsDamage}
use Rattle.round_steps.proofs.Damage.{sound_names}
use Rattle.round_steps.proofs.Kept.{meters_then, meter_rose_later, go_on_later, rows_later, others_from, stored_from, values_for_apply, within_from, merged_from, splits_from, is_store, values_untouched, sizes_untouched, devices_untouched, others_untouched, stored_untouched, others_from_same, rose_untouched, round_through}
use Rattle.round_steps.proofs.round.make_round.Goals as goal

pub returns-then-not-is_done-clause-store : goal.returns-then-not-is_done-clause-store
returns-then-not-is_done-clause-store g c =
    is_store g.D.Disk.state c.args.run.now.split.now c.args.beat.now c.args.beat.now c.args.store.now _ c.requires.store (omega arith) c.sum_round-summed.ensures.graphs (values_untouched g.D.Disk.state c.args.beat.now c.args.store.now.values c.sum_round-summed.new.store.values c.sum_round-summed.ensures.values)
    (sizes_untouched g.D.Disk.state c.args.store.now.values c.sum_round-summed.new.store.values c.sum_round-summed.ensures.values) c.sum_round-summed.ensures.lanes c.sum_round-summed.ensures.spills

pub returns-then-not-is_done-clause-keeps : goal.returns-then-not-is_done-clause-keeps
returns-then-not-is_done-clause-keeps g c =
    let disks = g.met.D.Disk g.world.𝓛 g.world.𝓜 g.world.𝓡 ((λ s x. x), (λ x. x), (λ x. x), λ x. x) in
    let engines = c.args.run.now.split.now.engines in
    let b = c.args.beat.now in
    record {
      graphs = c.sum_round-summed.ensures.graphs;
      values = others_untouched g.D.Disk.state c.args.run.now.split.now c.args.round (b + 1) (c.sum_round-summed.result.outcome ≡ Done) c.args.store.now.values c.sum_round-summed.new.store.values c.sum_round-summed.ensures.values disks.lawful
          (c.is_done.ensures.stopped (let is : c.is_done.result ≡ false = grind arith in is));
      lanes = rows_later g.D.Disk.state engines b (b + 1) c.args.store.now.lanes.items c.sum_round-summed.new.store.lanes.items c.requires.store.lanes c.sum_round-summed.ensures.lanes (omega arith);
      spills = go_on_later g.D.Disk.state engines b (b + 1) c.args.store.now.spills.items c.sum_round-summed.new.store.spills.items c.requires.store.spills c.sum_round-summed.ensures.spills (omega arith);
    }

pub returns-then-not-is_done-clause-through : goal.returns-then-not-is_done-clause-through
returns-then-not-is_done-clause-through g c = λ done. absurd (c.is_done.ensures.stopped (let is : c.is_done.result ≡ false = grind arith in is) done)

pub returns-then-not-is_done-clause-cause : goal.returns-then-not-is_done-clause-cause
returns-then-not-is_done-clause-cause g c = λ fault.
    elim (c.sum_round-summed.ensures.cause fault) [ inl meter ↦ inl meter | inr rose ↦ inr (inr rose) ]

pub returns-then-not-is_done-clause-damaged : goal.returns-then-not-is_done-clause-damaged
returns-then-not-is_done-clause-damaged g c = c.sum_round-summed.ensures.damaged

pub returns-then-not-is_done-clause-round : goal.returns-then-not-is_done-clause-round
returns-then-not-is_done-clause-round g c = λ edges stands.
    let disks = g.met.D.Disk g.world.𝓛 g.world.𝓜 g.world.𝓡 ((λ s x. x), (λ x. x), (λ x. x), λ x. x) in
    stored_untouched g.D.Disk.state c.args.run.now.split.now c.args.round (g.P.VertexProgram.rules c.args.run.now.program.now) edges (c.args.beat.now + 1) (c.sum_round-summed.result.outcome ≡ Done) 0 c.args.store.now.values c.sum_round-summed.new.store.values
    c.sum_round-summed.ensures.values disks.lawful (c.is_done.ensures.stopped (let is : c.is_done.result ≡ false = grind arith in is))

pub store_round-applied-requires-clause-values : goal.store_round-applied-requires-clause-values
store_round-applied-requires-clause-values g c = λ κs outlives.
    let are = c.requires.store.values in
    devices_untouched g.D.Disk.state c.args.run.now.split.now.engines c.args.beat.now c.next.new.self c.args.store.now.values c.sum_round-summed.new.store.values c.sum_round-summed.ensures.values (omega arith) are

pub store_round-applied-requires-clause-sizes : goal.store_round-applied-requires-clause-sizes
store_round-applied-requires-clause-sizes g c = λ κs outlives. λ e d below. sizes_untouched g.D.Disk.state c.args.store.now.values c.sum_round-summed.new.store.values c.sum_round-summed.ensures.values e d (omega (arith, below, c.requires.store.values.all)) ∙ c.requires.store.sizes e d below

pub store_round-applied-requires-clause-within : goal.store_round-applied-requires-clause-within
store_round-applied-requires-clause-within g c = λ κs outlives.
    within_from g.D.Disk.state c.sum_round-summed.new.crews.replicas.items c.as_slice.result.now c.sum_round-summed.new.store.spills.items c.as_slice-2.result.now c.as_slice.ensures.value c.as_slice-2.ensures.value
    (c.sum_round-summed.ensures.within (c.is_done.ensures.done (let is : c.is_done.result ≡ true = grind arith in is)))

pub store_round-applied-requires-clause-replicas : goal.store_round-applied-requires-clause-replicas
store_round-applied-requires-clause-replicas g c = λ κs outlives.
    splits_from c.args.run.now.split.now c.sum_round-summed.new.crews.replicas.items c.as_slice.result.now c.as_slice.ensures.value (omega arith, c.sum_round-summed.ensures.crews.replicas.1)

pub returns-clause-store : goal.returns-clause-store
returns-clause-store g c =
    let split = c.args.run.now.split.now in
    let b = c.args.beat.now in
    let n = c.next.new.self in
    let keeps = others_from_same g.D.Disk.state split c.args.round n (c.store_round-applied.result.outcome ≡ Done) c.sum_round-summed.new.store.values.items c.args.store.now.values.items c.store_round-applied.new.values.items (ap (λ v. v.items) c.sum_round-summed.ensures.values) c.store_round-applied.ensures.keeps in
    is_store g.D.Disk.state split b n c.args.store.now _ c.requires.store (omega arith) c.sum_round-summed.ensures.graphs keeps.going keeps.sizes
    (rows_later g.D.Disk.state split.engines b n c.args.store.now.lanes.items c.sum_round-summed.new.store.lanes.items c.requires.store.lanes c.sum_round-summed.ensures.lanes (omega arith))
    (go_on_later g.D.Disk.state split.engines b n c.args.store.now.spills.items c.sum_round-summed.new.store.spills.items c.requires.store.spills c.sum_round-summed.ensures.spills (omega arith))

pub returns-clause-keeps : goal.returns-clause-keeps
returns-clause-keeps g c =
    let split = c.args.run.now.split.now in
    let b = c.args.beat.now in
    record {
      graphs = c.sum_round-summed.ensures.graphs;
      values = others_from g.D.Disk.state split c.args.round c.next.new.self b (c.store_round-applied.result.outcome ≡ Done) c.sum_round-summed.new.store.values.items c.args.store.now.values.items c.store_round-applied.new.values.items (omega arith) (ap (λ v. v.items) c.sum_round-summed.ensures.values) c.store_round-applied.ensures.keeps;
      lanes = rows_later g.D.Disk.state split.engines b (b + 1) c.args.store.now.lanes.items c.sum_round-summed.new.store.lanes.items c.requires.store.lanes c.sum_round-summed.ensures.lanes (omega arith);
      spills = go_on_later g.D.Disk.state split.engines b (b + 1) c.args.store.now.spills.items c.sum_round-summed.new.store.spills.items c.requires.store.spills c.sum_round-summed.ensures.spills (omega arith);
    }

pub returns-clause-meters : goal.returns-clause-meters
returns-clause-meters g c =
    meters_then g.D.M.Meter.faults c.args.meters.now.items c.sum_round-summed.new.meters.items c.store_round-applied.new.meters.items c.sum_round-summed.ensures.meters c.store_round-applied.ensures.meters

pub returns-clause-cause : goal.returns-clause-cause
returns-clause-cause g c = λ fault.
    elim (c.store_round-applied.ensures.cause fault) [
      | inl meter ↦ inl (meter_rose_later g.D.M.Meter.faults c.args.meters.now.items c.sum_round-summed.new.meters.items c.store_round-applied.new.meters.items c.sum_round-summed.ensures.meters meter)
      | inr value ↦ inr (inl (rose_untouched g.D.Disk.state c.args.store.now.values.items c.sum_round-summed.new.store.values.items c.store_round-applied.new.values.items (ap (λ v. v.items) c.sum_round-summed.ensures.values) value))
    ]

pub returns-clause-damaged : goal.returns-clause-damaged
returns-clause-damaged g c =
    sound_names (IsDamage g.D.Disk.state c.args.run.now.job.now c.args.run.now.split.now c.args.run.now.index.now c.args.store.now.graphs.items c.sum_round-summed.new.store.lanes.items) c.store_round-applied.result.outcome c.store_round-applied.ensures.sound

pub returns-clause-epochs : goal.returns-clause-epochs
returns-clause-epochs g c =
    let done : c.sum_round-summed.result.outcome ≡ Done = c.is_done.ensures.done (let is : c.is_done.result ≡ true = grind arith in is) in
    round_through g.D.Disk.state (g.P.VertexProgram.rules c.args.run.now.program.now) c.args.run.now.job.now c.args.run.now.split.now c.args.run.now.index.now c.args.round c.args.changed_only c.args.epoch c.args.store.now (c.sum_round-summed.result.outcome ≡ Done) (c.store_round-applied.result.outcome ≡ Done) c.args.seat.now.view c.sum_round-summed.new.seat.view c.sum_round-summed.result.claims c.sum_round-summed.result.admitted done c.sum_round-summed.ensures.epochs

pub returns-clause-round : goal.returns-clause-round
returns-clause-round g c = λ edges stands.
    let done : c.sum_round-summed.result.outcome ≡ Done = c.is_done.ensures.done (let is : c.is_done.result ≡ true = grind arith in is) in
    let rules = g.P.VertexProgram.rules c.args.run.now.program.now in
    let split = c.args.run.now.split.now in
    let sums = c.sum_round-summed.ensures.sums done edges stands in
    stored_from g.D.Disk.state split c.args.round rules edges c.next.new.self c.args.beat.now (c.store_round-applied.result.outcome ≡ Done) c.store_round-applied.result.changed c.sum_round-summed.new.store.values.items c.args.store.now.values.items c.store_round-applied.new.values.items
    (omega arith) (ap (λ v. v.items) c.sum_round-summed.ensures.values)
    (c.store_round-applied.ensures.stored edges sums.numbers (subst (λ (n : ℕ). IsWithinGraph n edges) (omega arith) stands.has_edges.within) (merged_from g.D.Disk.state rules split sums.numbers c.sum_round-summed.new.crews.replicas.items c.as_slice.result.now c.sum_round-summed.new.store.spills.items c.as_slice-2.result.now c.as_slice.ensures.value c.as_slice-2.ensures.value sums.merged_are) sums.makes
    (values_for_apply g.D.Disk.state split c.args.round rules edges c.args.changed_only c.sum_round-summed.new.store.values.items c.args.store.now.values.items (ap (λ v. v.items) c.sum_round-summed.ensures.values) stands.values_stand))

pub returns-then-not-is_done-clause-calm : goal.returns-then-not-is_done-clause-calm
returns-then-not-is_done-clause-calm g c = λ done. absurd (c.is_done.ensures.stopped (let is : c.is_done.result ≡ false = grind arith in is) done)

pub returns-clause-calm : goal.returns-clause-calm
returns-clause-calm g c = λ done.
    let summed = c.sum_round-summed.ensures.calm (c.is_done.ensures.done (let is : c.is_done.result ≡ true = grind arith in is)) in
    let stored = c.store_round-applied.ensures.calm done in (
      stored.0 ∙ summed.0,
      record {
        values = stored.1 ∙ ap (λ v. map (λ d. (g.D.Disk.state d).faults) v.items) c.sum_round-summed.ensures.values;
        lanes = summed.1;
        spills = summed.2;
      },
    )
