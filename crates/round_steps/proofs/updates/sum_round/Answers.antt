-- The two epochs of a round, one after the other.
use Rattle.std.proofs.Common.{◌≡◌, inl, inr, true, false, refl, sym, ◌∙◌, subst, arith}
use Rattle.phase_model.specs.Lanes.{all_updates}
use Rattle.store_reader.specs.declared.store.Outcome.TheVariants.{Done}
use Rattle.round_steps.specs.Standing.{HaveEdges}
use Rattle.round_steps.specs.Damage.{IsEdgeDamage, IsUpdateDamage, NamesDamage}
use Rattle.round_steps.proofs.Damage.{edges_in_round, updates_in_round}
use Rattle.round_steps.proofs.Kept.{meters_then, meter_rose_later}
use Rattle.round_steps.proofs.Pairs.{first_alone, then_idle, both, sums_of_round, rows_tell_still, sent_from, gathers_from, stand_from}
use Rattle.round_steps.proofs.updates.sum_round.Goals as goal

pub returns-then-not-is_done-clause-sound : goal.returns-then-not-is_done-clause-sound
returns-then-not-is_done-clause-sound g c = λ records stand tell.
    c.scatter_edges-scattered.ensures.sound records (subst (λ gs. HaveEdges g.D.Disk.state c.args.run.now.job.now c.args.run.now.split.now c.args.run.now.index.now gs records) (sym c.as_slice.ensures.value) stand)

pub returns-then-not-is_done-clause-damaged : goal.returns-then-not-is_done-clause-damaged
returns-then-not-is_done-clause-damaged g c =
    let run = c.args.run.now in
    let outcome = c.scatter_edges-scattered.result.outcome in
    edges_in_round g.D.Disk.state run.job.now run.split.now run.index.now c.args.store.now.graphs.items c.scatter_edges-scattered.new.lanes.items outcome
    (subst (λ gs. NamesDamage (IsEdgeDamage g.D.Disk.state run.job.now run.split.now run.index.now gs) outcome) c.as_slice.ensures.value c.scatter_edges-scattered.ensures.damaged)

pub returns-then-not-is_done-clause-epochs : goal.returns-then-not-is_done-clause-epochs
returns-then-not-is_done-clause-epochs g c =
    let scatters = c.scatter_edges-scattered.ensures.scattered in
    first_alone g.D.Disk.state (g.P.VertexProgram.rules c.args.run.now.program.now) c.args.run.now.job.now c.args.run.now.split.now c.args.run.now.index.now c.args.round c.args.changed_only c.args.epoch c.args.store.now c.requires.few
    (c.scatter_edges-scattered.result.outcome ≡ Done) (c.scatter_edges-scattered.result.outcome ≡ Done) c.args.seat.now.view c.scatter_edges-scattered.new.seat.view c.scatter_edges-scattered.result.claims c.scatter_edges-scattered.result.admitted
    scatters.epoch scatters.made (c.is_done.ensures.stopped (let is : c.is_done.result ≡ false = grind arith in is))

pub returns-clause-meters : goal.returns-clause-meters
returns-clause-meters g c =
    meters_then g.D.M.Meter.faults c.args.meters.now.items c.scatter_edges-scattered.new.meters.items c.gather_updates-gathered.new.meters.items c.scatter_edges-scattered.ensures.meters c.gather_updates-gathered.ensures.meters

pub returns-clause-cause : goal.returns-clause-cause
returns-clause-cause g c = λ fault.
    elim (c.gather_updates-gathered.ensures.cause fault) [
      | inl meter ↦ inl (meter_rose_later g.D.M.Meter.faults c.args.meters.now.items c.scatter_edges-scattered.new.meters.items c.gather_updates-gathered.new.meters.items c.scatter_edges-scattered.ensures.meters meter)
      | inr spill ↦ inr (inr spill)
    ]

pub returns-clause-sound : goal.returns-clause-sound
returns-clause-sound g c = λ records stand tell.
    let done : c.scatter_edges-scattered.result.outcome ≡ Done = c.is_done.ensures.done (let is : c.is_done.result ≡ true = grind arith in is) in
    let sent = c.scatter_edges-scattered.ensures.scattered.has_sent done in
    c.gather_updates-gathered.ensures.sound (all_updates c.args.run.now.job.now c.args.epoch 0 sent.sent)
    (stand_from g.D.Disk.state _ c.args.run.now.job.now c.args.run.now.split.now c.scatter_edges-scattered.new.lanes.items c.as_slice-3.result.now c.scatter_edges-scattered.new.crews.updates (all_updates c.args.run.now.job.now c.args.epoch 0 sent.sent)
    (sym c.as_slice-3.ensures.value) (sent.stand (rows_tell_still g.D.Disk.state c.args.beat.now c.args.store.now.lanes.items c.scatter_edges-scattered.new.lanes.items c.scatter_edges-scattered.ensures.lanes tell)))

pub returns-clause-damaged : goal.returns-clause-damaged
returns-clause-damaged g c =
    let run = c.args.run.now in
    let lanes = c.scatter_edges-scattered.new.lanes.items in
    let outcome = c.gather_updates-gathered.result.outcome in
    let done : c.scatter_edges-scattered.result.outcome ≡ Done = c.is_done.ensures.done (let is : c.is_done.result ≡ true = grind arith in is) in
    let sent = c.scatter_edges-scattered.ensures.scattered.has_sent done in
    let updates = all_updates run.job.now c.args.epoch 0 sent.sent in
    updates_in_round g.D.Disk.state run.job.now run.split.now run.index.now c.args.store.now.graphs.items lanes outcome
    (subst (λ rows. NamesDamage (IsUpdateDamage g.D.Disk.state run.job.now run.split.now rows) outcome) c.as_slice-3.ensures.value c.gather_updates-gathered.ensures.damaged)
    (λ tell. c.gather_updates-gathered.ensures.sound updates
    (stand_from g.D.Disk.state _ run.job.now run.split.now lanes c.as_slice-3.result.now c.scatter_edges-scattered.new.crews.updates updates (sym c.as_slice-3.ensures.value) (sent.stand tell)))

pub returns-clause-epochs : goal.returns-clause-epochs
returns-clause-epochs g c =
    let done : c.scatter_edges-scattered.result.outcome ≡ Done = c.is_done.ensures.done (let is : c.is_done.result ≡ true = grind arith in is) in
    let scatters = c.scatter_edges-scattered.ensures.scattered in
    let rules = g.P.VertexProgram.rules c.args.run.now.program.now in
    let sent = sent_from g.D.Disk.state _ rules c.args.run.now.job.now c.args.run.now.split.now c.args.run.now.index.now c.as_slice.result.now c.args.store.now.graphs.items c.as_slice-2.result.now c.args.store.now.values.items c.args.round c.args.changed_only c.args.epoch
    c.scatter_edges-scattered.new.lanes.items c.scatter_edges-scattered.new.crews.updates scatters.epoch c.as_slice.ensures.value c.as_slice-2.ensures.value (scatters.has_sent done) in
    elim c.gather_updates-gathered.ensures.gathered [
      | inl idle ↦ then_idle g.D.Disk.state rules c.args.run.now.job.now c.args.run.now.split.now c.args.run.now.index.now c.args.round c.args.changed_only c.args.epoch c.args.store.now c.requires.few
          (c.gather_updates-gathered.result.outcome ≡ Done) (c.scatter_edges-scattered.result.outcome ≡ Done) c.args.seat.now.view c.scatter_edges-scattered.new.seat.view c.gather_updates-gathered.new.seat.view
          c.scatter_edges-scattered.result.claims c.scatter_edges-scattered.result.admitted c.gather_updates-gathered.result.claims c.gather_updates-gathered.result.admitted _ _ scatters.epoch scatters.made idle refl refl
      | inr has ↦ both g.D.Disk.state rules c.args.run.now.job.now c.args.run.now.split.now c.args.run.now.index.now c.args.round c.args.changed_only c.args.epoch c.args.store.now c.requires.few
          c.scatter_edges-scattered.new.lanes.items c.scatter_edges-scattered.new.crews.updates c.args.store.now.spills.items c.gather_updates-gathered.new.spills.items c.gather_updates-gathered.new.replicas.items scatters.epoch sent
          (c.gather_updates-gathered.result.outcome ≡ Done) (c.scatter_edges-scattered.result.outcome ≡ Done) c.args.seat.now.view c.scatter_edges-scattered.new.seat.view c.gather_updates-gathered.new.seat.view
          c.scatter_edges-scattered.result.claims c.scatter_edges-scattered.result.admitted c.gather_updates-gathered.result.claims c.gather_updates-gathered.result.admitted _ _ scatters.made done
          (gathers_from g.D.Disk.state _ rules c.args.run.now.job.now c.args.run.now.split.now c.as_slice-3.result.now c.scatter_edges-scattered.new.lanes.items c.scatter_edges-scattered.new.crews.updates c.args.store.now.spills.items c.gather_updates-gathered.new.replicas.items
          c.gather_updates-gathered.new.spills.items (c.gather_updates-gathered.result.outcome ≡ Done) c.scatter_edges-scattered.new.seat.view c.gather_updates-gathered.new.seat.view c.gather_updates-gathered.result.claims c.gather_updates-gathered.result.admitted c.as_slice-3.ensures.value has) refl refl
    ]

pub returns-clause-sums : goal.returns-clause-sums
returns-clause-sums g c = λ all_done edges stands.
    let done : c.scatter_edges-scattered.result.outcome ≡ Done = c.is_done.ensures.done (let is : c.is_done.result ≡ true = grind arith in is) in
    let scatters = c.scatter_edges-scattered.ensures.scattered in
    let rules = g.P.VertexProgram.rules c.args.run.now.program.now in
    let sent = sent_from g.D.Disk.state _ rules c.args.run.now.job.now c.args.run.now.split.now c.args.run.now.index.now c.as_slice.result.now c.args.store.now.graphs.items c.as_slice-2.result.now c.args.store.now.values.items c.args.round c.args.changed_only c.args.epoch
    c.scatter_edges-scattered.new.lanes.items c.scatter_edges-scattered.new.crews.updates scatters.epoch c.as_slice.ensures.value c.as_slice-2.ensures.value (scatters.has_sent done) in
    elim c.gather_updates-gathered.ensures.gathered [
      | inl idle ↦ absurd (idle.not_done all_done)
      | inr has ↦ sums_of_round g.D.Disk.state rules c.args.run.now.job.now c.args.run.now.split.now c.args.run.now.index.now c.args.round c.args.changed_only c.args.epoch c.args.store.now c.requires.few
          c.scatter_edges-scattered.new.lanes.items c.scatter_edges-scattered.new.crews.updates c.args.store.now.spills.items c.gather_updates-gathered.new.spills.items c.gather_updates-gathered.new.replicas.items scatters.epoch sent
          c.round_is_gathered.ensures.next c.requires.job (omega arith) c.requires.round
          (c.gather_updates-gathered.result.outcome ≡ Done) (c.scatter_edges-scattered.result.outcome ≡ Done) c.args.seat.now.view c.scatter_edges-scattered.new.seat.view c.gather_updates-gathered.new.seat.view
          c.scatter_edges-scattered.result.claims c.scatter_edges-scattered.result.admitted c.gather_updates-gathered.result.claims c.gather_updates-gathered.result.admitted scatters.made done
          (gathers_from g.D.Disk.state _ rules c.args.run.now.job.now c.args.run.now.split.now c.as_slice-3.result.now c.scatter_edges-scattered.new.lanes.items c.scatter_edges-scattered.new.crews.updates c.args.store.now.spills.items c.gather_updates-gathered.new.replicas.items
          c.gather_updates-gathered.new.spills.items (c.gather_updates-gathered.result.outcome ≡ Done) c.scatter_edges-scattered.new.seat.view c.gather_updates-gathered.new.seat.view c.gather_updates-gathered.result.claims c.gather_updates-gathered.result.admitted c.as_slice-3.ensures.value has) all_done edges stands
          (rows_tell_still g.D.Disk.state c.args.beat.now c.args.store.now.lanes.items c.scatter_edges-scattered.new.lanes.items c.scatter_edges-scattered.ensures.lanes stands.lanes_tell)
          stands.spills_tell
    ]

pub returns-then-not-is_done-clause-calm : goal.returns-then-not-is_done-clause-calm
returns-then-not-is_done-clause-calm g c = λ done. absurd (c.is_done.ensures.stopped (let is : c.is_done.result ≡ false = grind arith in is) done)

pub returns-clause-calm : goal.returns-clause-calm
returns-clause-calm g c = λ done.
    let scattered = c.scatter_edges-scattered.ensures.calm (c.is_done.ensures.done (let is : c.is_done.result ≡ true = grind arith in is)) in
    let gathered = c.gather_updates-gathered.ensures.calm done in
    (gathered.0 ∙ scattered.0, scattered.1, gathered.1)
