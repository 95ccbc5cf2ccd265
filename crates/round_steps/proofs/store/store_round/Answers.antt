-- The clauses of `apply_all`, in words of the definition.
use Rattle.std.proofs.Common.{◌≡◌, ◌-◌, arith, map}
use Rattle.graph_model.specs.Rounds.{values}
use Rattle.store_reader.specs.declared.store.Outcome.TheVariants.{Done}
use Rattle.apply_round.specs.Applying.{RoundTerms}
use Rattle.round_steps.proofs.Applied.{apply_cause, sound_ends, keeps_others, round_stored, stands_before}
use Rattle.round_steps.proofs.store.store_round.Goals as goal

pub returns-clause-meters : goal.returns-clause-meters
returns-clause-meters g c = c.apply_all.ensures.cause.meters

pub returns-clause-cause : goal.returns-clause-cause
returns-clause-cause g c = apply_cause c.apply_all.result.outcome c.apply_all.ensures.cause

pub returns-clause-calm : goal.returns-clause-calm
returns-clause-calm g c = c.apply_all.ensures.cause.calm

pub returns-clause-sound : goal.returns-clause-sound
returns-clause-sound g c = sound_ends c.apply_all.result.outcome c.apply_all.ensures.cause

pub returns-clause-keeps : goal.returns-clause-keeps
returns-clause-keeps g c =
    let t : RoundTerms = record { rules = g.P.VertexProgram.rules c.args.run.now.program.now; split = c.args.run.now.split.now; replicas = c.args.replicas.now; spills = map (λ d. (g.D.Disk.state d).bytes) c.args.spills.now; round = c.args.round; number = c.args.beat.now } in
    keeps_others g.D.Disk.state t c.args.values.now.items c.apply_all.new.values.items (c.apply_all.result.outcome ≡ Done) c.apply_all.result.changed c.apply_all.ensures.applied c.apply_all.ensures.cause.disks c.apply_all.ensures.stored

pub returns-clause-stored : goal.returns-clause-stored
returns-clause-stored g c = λ edges numbers within merged makes stand.
    let t : RoundTerms = record { rules = g.P.VertexProgram.rules c.args.run.now.program.now; split = c.args.run.now.split.now; replicas = c.args.replicas.now; spills = map (λ d. (g.D.Disk.state d).bytes) c.args.spills.now; round = c.args.round; number = c.args.beat.now } in
    round_stored g.D.Disk.state t c.args.values.now.items c.apply_all.new.values.items (c.apply_all.result.outcome ≡ Done) c.apply_all.result.changed edges numbers makes
    (c.apply_all.ensures.round numbers (values t.rules t.split.vertices edges (t.round - 1))
    (stands_before g.D.Disk.state t c.args.values.now.items c.apply_all.new.values.items (c.apply_all.result.outcome ≡ Done) c.apply_all.result.changed edges numbers (omega arith) merged
    (c.values_have_room.ensures t.split.vertices (t.round - 1) edges (omega arith) within) stand))
