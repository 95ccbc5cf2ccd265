-- What is summed up, and then stored.
use Rattle.std.proofs.Common.{◌≡◌, inl, inr, ◌+◌, ℕ, true, false, refl, sym, ◌∙◌, subst, arith}
use Rattle.graph_model.specs.Rounds.{IsWithinGraph}
use Rattle.store_reader.specs.declared.store.Outcome.TheVariants.{Done}
use Rattle.round_steps.specs.Standing.{HaveEdges}
use Rattle.round_steps.specs.Damage.{IsEdgeDamage, NamesDamage}
use Rattle.round_steps.proofs.Damage.{sound_names}
use Rattle.round_steps.proofs.Kept.{meters_then, meter_rose_later, go_on_same, rows_same, go_on_later, others_same, others_from, nothing_stored, stored_from, values_for_apply, within_from, merged_from, edges_from, splits_from, is_store, first_through}
use Rattle.round_steps.proofs.first.make_first.Goals as goal

pub returns-then-not-is_done-clause-store : goal.returns-then-not-is_done-clause-store
returns-then-not-is_done-clause-store g c =
    is_store g.D.Disk.state c.args.run.now.split.now c.args.beat.now c.args.beat.now c.args.store.now _ c.requires.store (omega arith) refl (go_on_same g.D.Disk.state c.args.beat.now c.args.store.now.values.items)
    (λ e d below. refl) (rows_same g.D.Disk.state c.args.beat.now c.args.store.now.lanes.items) c.sum_first-summed.ensures.spills

pub returns-then-not-is_done-clause-keeps : goal.returns-then-not-is_done-clause-keeps
returns-then-not-is_done-clause-keeps g c =
    let disks = g.met.D.Disk g.world.𝓛 g.world.𝓜 g.world.𝓡 ((λ s x. x), (λ x. x), (λ x. x), λ x. x) in
    let engines = c.args.run.now.split.now.engines in
    let b = c.args.beat.now in
    record {
      graphs = refl;
      values = others_same g.D.Disk.state c.args.run.now.split.now 0 (b + 1) (c.sum_first-summed.result.outcome ≡ Done) c.args.store.now.values.items disks.lawful (c.is_done.ensures.stopped (let is : c.is_done.result ≡ false = grind arith in is));
      lanes = rows_same g.D.Disk.state (b + 1) c.args.store.now.lanes.items;
      spills = go_on_later g.D.Disk.state engines b (b + 1) c.args.store.now.spills.items c.sum_first-summed.new.spills.items c.requires.store.spills c.sum_first-summed.ensures.spills (omega arith);
    }

pub returns-then-not-is_done-clause-through : goal.returns-then-not-is_done-clause-through
returns-then-not-is_done-clause-through g c = λ done. absurd (c.is_done.ensures.stopped (let is : c.is_done.result ≡ false = grind arith in is) done)

pub returns-then-not-is_done-clause-cause : goal.returns-then-not-is_done-clause-cause
returns-then-not-is_done-clause-cause g c = λ fault.
    elim (c.sum_first-summed.ensures.cause fault) [ inl meter ↦ inl meter | inr spill ↦ inr (inr (inr spill)) ]

pub returns-then-not-is_done-clause-sound : goal.returns-then-not-is_done-clause-sound
returns-then-not-is_done-clause-sound g c = λ records stand.
    c.sum_first-summed.ensures.sound records (subst (λ gs. HaveEdges g.D.Disk.state c.args.run.now.job.now c.args.run.now.split.now c.args.run.now.index.now gs records) (sym c.as_slice.ensures.value) stand)

pub returns-then-not-is_done-clause-damaged : goal.returns-then-not-is_done-clause-damaged
returns-then-not-is_done-clause-damaged g c =
    subst (λ gs. NamesDamage (IsEdgeDamage g.D.Disk.state c.args.run.now.job.now c.args.run.now.split.now c.args.run.now.index.now gs) c.sum_first-summed.result.outcome) c.as_slice.ensures.value c.sum_first-summed.ensures.damaged

pub returns-then-not-is_done-clause-round : goal.returns-then-not-is_done-clause-round
returns-then-not-is_done-clause-round g c = λ edges stands.
    let disks = g.met.D.Disk g.world.𝓛 g.world.𝓜 g.world.𝓡 ((λ s x. x), (λ x. x), (λ x. x), λ x. x) in
    nothing_stored g.D.Disk.state c.args.run.now.split.now 0 (g.P.VertexProgram.rules c.args.run.now.program.now) edges (c.args.beat.now + 1) (c.sum_first-summed.result.outcome ≡ Done) 0 c.args.store.now.values.items disks.lawful
    (c.is_done.ensures.stopped (let is : c.is_done.result ≡ false = grind arith in is))

pub store_round-applied-requires-clause-values : goal.store_round-applied-requires-clause-values
store_round-applied-requires-clause-values g c = λ κs outlives.
    let are = c.requires.store.values in
    record { all = are.all; beats = λ e d below. let early = are.beats e d below in omega (arith, early) }

pub store_round-applied-requires-clause-sizes : goal.store_round-applied-requires-clause-sizes
store_round-applied-requires-clause-sizes g c = λ κs outlives. c.requires.store.sizes

pub store_round-applied-requires-clause-within : goal.store_round-applied-requires-clause-within
store_round-applied-requires-clause-within g c = λ κs outlives.
    within_from g.D.Disk.state c.sum_first-summed.new.crews.replicas.items c.as_slice-2.result.now c.sum_first-summed.new.spills.items c.as_slice-3.result.now c.as_slice-2.ensures.value c.as_slice-3.ensures.value
    (c.sum_first-summed.ensures.within (c.is_done.ensures.done (let is : c.is_done.result ≡ true = grind arith in is)))

pub store_round-applied-requires-clause-replicas : goal.store_round-applied-requires-clause-replicas
store_round-applied-requires-clause-replicas g c = λ κs outlives.
    splits_from c.args.run.now.split.now c.sum_first-summed.new.crews.replicas.items c.as_slice-2.result.now c.as_slice-2.ensures.value (omega arith, c.sum_first-summed.ensures.crews.replicas.1)

pub returns-clause-store : goal.returns-clause-store
returns-clause-store g c =
    let split = c.args.run.now.split.now in
    let b = c.args.beat.now in
    let n = c.next.new.self in
    let keeps = c.store_round-applied.ensures.keeps in
    is_store g.D.Disk.state split b n c.args.store.now _ c.requires.store (omega arith) refl keeps.going keeps.sizes
    (rows_same g.D.Disk.state n c.args.store.now.lanes.items)
    (go_on_later g.D.Disk.state split.engines b n c.args.store.now.spills.items c.sum_first-summed.new.spills.items c.requires.store.spills c.sum_first-summed.ensures.spills (omega arith))

pub returns-clause-keeps : goal.returns-clause-keeps
returns-clause-keeps g c =
    let split = c.args.run.now.split.now in
    let b = c.args.beat.now in
    record {
      graphs = refl;
      values = others_from g.D.Disk.state split 0 c.next.new.self b (c.store_round-applied.result.outcome ≡ Done) c.args.store.now.values.items c.args.store.now.values.items c.store_round-applied.new.values.items (omega arith) refl c.store_round-applied.ensures.keeps;
      lanes = rows_same g.D.Disk.state (b + 1) c.args.store.now.lanes.items;
      spills = go_on_later g.D.Disk.state split.engines b (b + 1) c.args.store.now.spills.items c.sum_first-summed.new.spills.items c.requires.store.spills c.sum_first-summed.ensures.spills (omega arith);
    }

pub returns-clause-meters : goal.returns-clause-meters
returns-clause-meters g c =
    meters_then g.D.M.Meter.faults c.args.meters.now.items c.sum_first-summed.new.meters.items c.store_round-applied.new.meters.items c.sum_first-summed.ensures.meters c.store_round-applied.ensures.meters

pub returns-clause-cause : goal.returns-clause-cause
returns-clause-cause g c = λ fault.
    elim (c.store_round-applied.ensures.cause fault) [
      | inl meter ↦ inl (meter_rose_later g.D.M.Meter.faults c.args.meters.now.items c.sum_first-summed.new.meters.items c.store_round-applied.new.meters.items c.sum_first-summed.ensures.meters meter)
      | inr value ↦ inr (inl value)
    ]

pub returns-clause-damaged : goal.returns-clause-damaged
returns-clause-damaged g c =
    sound_names (IsEdgeDamage g.D.Disk.state c.args.run.now.job.now c.args.run.now.split.now c.args.run.now.index.now c.args.store.now.graphs.items) c.store_round-applied.result.outcome c.store_round-applied.ensures.sound

pub returns-clause-epochs : goal.returns-clause-epochs
returns-clause-epochs g c =
    let done : c.sum_first-summed.result.outcome ≡ Done = c.is_done.ensures.done (let is : c.is_done.result ≡ true = grind arith in is) in
    first_through (g.P.VertexProgram.rules c.args.run.now.program.now).counts c.args.run.now.job.now c.args.run.now.index.now (c.sum_first-summed.result.outcome ≡ Done) (c.store_round-applied.result.outcome ≡ Done) c.args.seat.now.view c.sum_first-summed.new.seat.view c.sum_first-summed.result.claims c.sum_first-summed.result.admitted done c.sum_first-summed.ensures.epochs

pub returns-clause-round : goal.returns-clause-round
returns-clause-round g c = λ edges stands.
    let done : c.sum_first-summed.result.outcome ≡ Done = c.is_done.ensures.done (let is : c.is_done.result ≡ true = grind arith in is) in
    let rules = g.P.VertexProgram.rules c.args.run.now.program.now in
    let split = c.args.run.now.split.now in
    let sums = c.sum_first-summed.ensures.sums done edges
    (edges_from g.D.Disk.state c.args.run.now.job.now c.args.run.now.split.now c.args.run.now.index.now edges c.args.store.now.graphs.items c.as_slice.result.now c.as_slice.ensures.value stands.has_edges) stands.spills_tell in
    stored_from g.D.Disk.state split 0 rules edges c.next.new.self c.args.beat.now (c.store_round-applied.result.outcome ≡ Done) c.store_round-applied.result.changed c.args.store.now.values.items c.args.store.now.values.items c.store_round-applied.new.values.items
    (omega arith) refl
    (c.store_round-applied.ensures.stored edges sums.numbers (subst (λ (n : ℕ). IsWithinGraph n edges) (omega arith) stands.has_edges.within) (merged_from g.D.Disk.state rules split sums.numbers c.sum_first-summed.new.crews.replicas.items c.as_slice-2.result.now c.sum_first-summed.new.spills.items c.as_slice-3.result.now c.as_slice-2.ensures.value c.as_slice-3.ensures.value sums.merged_are) sums.makes
    (values_for_apply g.D.Disk.state split 0 rules edges false c.args.store.now.values.items c.args.store.now.values.items refl stands.values_stand))

pub returns-then-not-is_done-clause-calm : goal.returns-then-not-is_done-clause-calm
returns-then-not-is_done-clause-calm g c = λ done. absurd (c.is_done.ensures.stopped (let is : c.is_done.result ≡ false = grind arith in is) done)

pub returns-clause-calm : goal.returns-clause-calm
returns-clause-calm g c = λ done.
    let summed = c.sum_first-summed.ensures.calm (c.is_done.ensures.done (let is : c.is_done.result ≡ true = grind arith in is)) in
    let stored = c.store_round-applied.ensures.calm done in
    (stored.0 ∙ summed.0, record { values = stored.1; lanes = refl; spills = summed.1 })
