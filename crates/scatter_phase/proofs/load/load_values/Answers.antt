use Rattle.std.proofs.Common.{◌≡◌, ℕ, Some, rules, sym, ◌∙◌, ap, subst}
use Rattle.std.specs.Prelude.{Vec}
use Rattle.std.specs.Global.{Global}
use Rattle.graph_model.specs.declared.value.Value.{Value}
use Rattle.scatter_phase.specs.declared.desk.ScatterRoom.{ScatterRoom}
use Rattle.scatter_phase.specs.Phases.{IsSetAtFront, AreMarked}
use Rattle.scatter_phase.proofs.load.load_values.Goals as goal
use Rattle.scatter_phase.proofs.load.load_values.Goals.{in-Some+in_ok-read_front-2, in_default}

same_number : (a b : ℕ) → Some a ≡ Some b → a ≡ b
same_number a b is = cc

pub returns-clause-room : goal.returns-clause-room
returns-clause-room g c = λ job is. elim c.match-context.branch [
  | in-Some+in_ok-read_front-2 w ↦ search rules
  | in_default w ↦ search rules
]

pub returns-clause-loaded : goal.returns-clause-loaded
returns-clause-loaded g c = λ partition is.
    let context = c.args.context.now in
    let same : c.args.partition ≡ partition = same_number c.args.partition partition is in
    let Stands : ℕ → ℕ → Vec Value Global → Type 0 = λ k p v. IsSetAtFront g.D.Disk.state context.serving.split.now context.values.now k p v.items in
    let Marked : ScatterRoom → ℕ → Type 0 = λ r p. AreMarked context.serving.split.now p r.before.items r.now.items r.changed.items in
    elim c.match-context.branch [
      | in-Some+in_ok-read_front-2 w ↦ (
        subst (λ p. Stands context.slot p c.match-context.room.now) same (subst (Stands context.slot c.args.partition) (sym (ap (λ (r : ScatterRoom). r.now) w.room-is)) c.in_ok-read_front.ensures.read),
        λ s some. subst (λ k. IsSetAtFront g.D.Disk.state context.serving.split.now context.values.now k partition c.match-context.room.before.items) (same_number w.in-Some.slot s (sym w.in-Some.is ∙ some))
            (subst (λ p. Stands w.in-Some.slot p c.match-context.room.before) same (subst (Stands w.in-Some.slot c.args.partition) (sym (ap (λ (r : ScatterRoom). r.before) w.room-is)) w.in_ok-read_front-2.ensures.read)),
        λ s some. subst (Marked c.match-context.room) same (subst (λ (r : ScatterRoom). Marked r c.args.partition) (sym w.room-is) w.mark_values.ensures.marked),
      )
      | in_default w ↦ (
        subst (λ p. Stands context.slot p c.match-context.room.now) same (subst (Stands context.slot c.args.partition) (sym (ap (λ (r : ScatterRoom). r.now) w.room-is)) c.in_ok-read_front.ensures.read),
        λ s some. search rules,
        λ s some. search rules,
      )
    ]
