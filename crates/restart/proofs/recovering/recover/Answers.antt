use Rattle.std.proofs.Common.{◌≡◌, ℕ, List, Some, length, subst, sym, arith, ◌∙◌}
use Rattle.ports.specs.Faults.{Rose}
use Rattle.store_model.specs.Kept.{device}
use Rattle.store_model.specs.Damage.{HasFault, head_of, first_over, device_fault, GraphDamaged}
use Rattle.store_reader.specs.Reading.{own_in}
use Rattle.store_checks.specs.Causes.{Tell}
use Rattle.store_checks.specs.Indexing.{StopsIn}
use Rattle.store_checks.specs.Rounds.{IsKept, NoneKept, FindsKept}
use Rattle.store_checks.proofs.HeadChecks.{cause_by}
use Rattle.restart.specs.declared.recovering.Recovered.TheVariants.{Found, Fresh}
use Rattle.restart.proofs.StoreLaws.{store_resumes, cause_told}
use Rattle.restart.proofs.SplitOfHead.{says_split, own_same, opened, scan_fault, slot_damage}
use Rattle.restart.proofs.recovering.recover.Goals as goal

pub returns-in-Err-clause-cause : goal.returns-in-Err-clause-cause
returns-in-Err-clause-cause g c =
    let rose = Rose (g.D.M.Meter.faults c.args.meter.now) (g.D.M.Meter.faults c.open_job.new.meter) in
    let graph_items = c.args.store.now.graphs.items in
    let value_items = c.args.store.now.values.items in
    cause_by rose rose
    (λ fault. (graphs values : List (List ℕ)) → Tell g.D.Disk.state graph_items graphs → HasFault graphs values fault)
    (λ fault. (graphs values : List (List ℕ)) → Tell g.D.Disk.state graph_items graphs → Tell g.D.Disk.state value_items values → HasFault graphs values fault)
    c.in-Err.fault (λ r. r) (λ fault found graphs values tell _. found graphs values tell) c.in-Err.ensures.cause

pub returns-in-Err-index_graphs-clause-cause : goal.returns-in-Err-index_graphs-clause-cause
returns-in-Err-index_graphs-clause-cause g c =
    let state = g.D.Disk.state in
    let job = c.in-Ok.job in
    let split = c.of_job-split.result in
    cause_by (Rose (g.D.M.Meter.faults c.open_job.new.meter) (g.D.M.Meter.faults c.index_graphs.new.meter)) (Rose (g.D.M.Meter.faults c.args.meter.now) (g.D.M.Meter.faults c.index_graphs.new.meter))
    (λ fault. (told : List (List ℕ)) → Tell state c.deref.result.now told → (e : ℕ) × (at : ℕ) × (fault ≡ GraphDamaged e at) × StopsIn job split told e at)
    (λ fault. (graphs values : List (List ℕ)) → Tell state c.args.store.now.graphs.items graphs → Tell state c.args.store.now.values.items values → HasFault graphs values fault)
    c.in-Err-index_graphs.fault
    (λ rose. omega (arith, rose, c.in-Ok.ensures.later))
    (λ fault found graphs values tell tell'.
    let stops = found graphs (subst (λ xs. Tell state xs graphs) (sym c.deref.ensures.value) tell) in
    scan_fault graphs values fault job split (c.in-Ok.ensures.says graphs tell) c.of_job-split.ensures.of_job
    (c.in-Ok.ensures.prepared graphs tell) (c.in-Ok.ensures.sound graphs tell) stops.0 stops.1 stops.2 stops.3)
    c.in-Err-index_graphs.ensures.cause

pub returns-in-Err-check_values-clause-cause : goal.returns-in-Err-check_values-clause-cause
returns-in-Err-check_values-clause-cause g c =
    let state = g.D.Disk.state in
    let job = c.in-Ok.job in
    let split = c.of_job-split.result in
    cause_by (Rose (g.D.M.Meter.faults c.index_graphs.new.meter) (g.D.M.Meter.faults c.check_values.new.meter)) (Rose (g.D.M.Meter.faults c.args.meter.now) (g.D.M.Meter.faults c.check_values.new.meter))
    (λ fault. (told : List (List ℕ)) → Tell state c.deref-2.result.now told → first_over (λ e. device_fault (own_in split e) e (device told e)) (length told) ≡ Some fault)
    (λ fault. (graphs values : List (List ℕ)) → Tell state c.args.store.now.graphs.items graphs → Tell state c.args.store.now.values.items values → HasFault graphs values fault)
    c.in-Err-check_values.fault
    (λ rose. omega (arith, rose, c.in-Ok.ensures.later, c.in-Ok-index_graphs.ensures.later))
    (λ fault found graphs values tell tell'.
    slot_damage graphs values fault job split c.in-Ok-index_graphs.index (c.in-Ok.ensures.says graphs tell) c.of_job-split.ensures.of_job
    (c.in-Ok.ensures.prepared graphs tell) (c.in-Ok.ensures.sound graphs tell)
    (c.in-Ok-index_graphs.ensures.all graphs (subst (λ xs. Tell state xs graphs) (sym c.deref.ensures.value) tell))
    (found values (subst (λ xs. Tell state xs values) (sym c.deref-2.ensures.value) tell')))
    c.in-Err-check_values.ensures.cause

pub kept_round-requires-clause-sound : goal.kept_round-requires-clause-sound
kept_round-requires-clause-sound g c κs within = λ told tell.
    c.in_default.ensures.sound told (subst (λ xs. Tell g.D.Disk.state xs told) (c.deref-3.ensures.value ∙ sym c.deref-2.ensures.value) tell)

pub returns-in-Ok-Some-clause-recovered : goal.returns-in-Ok-Some-clause-recovered
returns-in-Ok-Some-clause-recovered g c = λ graphs values tell tell'.
    let state = g.D.Disk.state in
    let job = c.in-Ok.job in
    let split = c.of_job-split.result in
    let says = says_split (head_of graphs 0) job split (c.in-Ok.ensures.says graphs tell) c.of_job-split.ensures.of_job in
    let told : Tell state c.deref-3.result.now values = subst (λ xs. Tell state xs values) (sym c.deref-3.ensures.value) tell' in (
      opened graphs values job split c.in-Ok-index_graphs.index (c.in-Ok.ensures.says graphs tell) c.of_job-split.ensures.of_job
          (c.in-Ok.ensures.prepared graphs tell) (c.in-Ok.ensures.sound graphs tell)
          (c.in-Ok-index_graphs.ensures.all graphs (subst (λ xs. Tell state xs graphs) (sym c.deref.ensures.value) tell))
          (c.in_default.ensures.sound values (subst (λ xs. Tell state xs values) (sym c.deref-2.ensures.value) tell')) c.total.ensures.lists,
      subst (λ (own : ℕ → ℕ). IsKept own values c.in-Ok-Some.kept.round c.in-Ok-Some.kept.changed) (own_same (head_of graphs 0) job split says)
          (subst (FindsKept (own_in split) values) c.in-Ok-Some.field-0-is (c.in-Ok-Some.ensures.kept values told)),
    )

pub returns-in-Ok-None-clause-recovered : goal.returns-in-Ok-None-clause-recovered
returns-in-Ok-None-clause-recovered g c = λ graphs values tell tell'.
    let state = g.D.Disk.state in
    let job = c.in-Ok.job in
    let split = c.of_job-split.result in
    let says = says_split (head_of graphs 0) job split (c.in-Ok.ensures.says graphs tell) c.of_job-split.ensures.of_job in
    let told : Tell state c.deref-3.result.now values = subst (λ xs. Tell state xs values) (sym c.deref-3.ensures.value) tell' in (
      opened graphs values job split c.in-Ok-index_graphs.index (c.in-Ok.ensures.says graphs tell) c.of_job-split.ensures.of_job
          (c.in-Ok.ensures.prepared graphs tell) (c.in-Ok.ensures.sound graphs tell)
          (c.in-Ok-index_graphs.ensures.all graphs (subst (λ xs. Tell state xs graphs) (sym c.deref.ensures.value) tell))
          (c.in_default.ensures.sound values (subst (λ xs. Tell state xs values) (sym c.deref-2.ensures.value) tell')) c.total.ensures.lists,
      subst (λ (own : ℕ → ℕ). NoneKept own values) (own_same (head_of graphs 0) job split says)
          (subst (FindsKept (own_in split) values) c.in-Ok-None.field-0-is (c.in-Ok-None.ensures.kept values told)),
    )

pub returns-in-Err-kept_round-clause-cause : goal.returns-in-Err-kept_round-clause-cause
returns-in-Err-kept_round-clause-cause g c =
    let state = g.D.Disk.state in
    cause_by (Rose (g.D.M.Meter.faults c.check_values.new.meter) (g.D.M.Meter.faults c.kept_round.new.meter)) (Rose (g.D.M.Meter.faults c.args.meter.now) (g.D.M.Meter.faults c.kept_round.new.meter))
    (λ fault. (told : List (List ℕ)) → Tell state c.deref-3.result.now told → ⊥)
    (λ fault. (graphs values : List (List ℕ)) → Tell state c.args.store.now.graphs.items graphs → Tell state c.args.store.now.values.items values → HasFault graphs values fault)
    c.in-Err-kept_round.fault
    (λ rose. omega (arith, rose, c.in-Ok.ensures.later, c.in-Ok-index_graphs.ensures.later, c.in_default.ensures.later))
    (λ fault found graphs values tell tell'. absurd (found values (subst (λ xs. Tell state xs values) (sym c.deref-3.ensures.value) tell')))
    c.in-Err-kept_round.ensures.cause

-- Of the store of a job.
pub returns-in-Err-clause-cause_of_job : goal.returns-in-Err-clause-cause_of_job
returns-in-Err-clause-cause_of_job g c =
    cause_told g.D.Disk.state c.args.store.now.graphs.items c.args.store.now.values.items (Rose (g.D.M.Meter.faults c.args.meter.now) (g.D.M.Meter.faults c.open_job.new.meter))
    c.in-Err.fault (returns-in-Err-clause-cause g c)

pub returns-in-Err-index_graphs-clause-cause_of_job : goal.returns-in-Err-index_graphs-clause-cause_of_job
returns-in-Err-index_graphs-clause-cause_of_job g c =
    cause_told g.D.Disk.state c.args.store.now.graphs.items c.args.store.now.values.items (Rose (g.D.M.Meter.faults c.args.meter.now) (g.D.M.Meter.faults c.index_graphs.new.meter))
    c.in-Err-index_graphs.fault (returns-in-Err-index_graphs-clause-cause g c)

pub returns-in-Err-check_values-clause-cause_of_job : goal.returns-in-Err-check_values-clause-cause_of_job
returns-in-Err-check_values-clause-cause_of_job g c =
    cause_told g.D.Disk.state c.args.store.now.graphs.items c.args.store.now.values.items (Rose (g.D.M.Meter.faults c.args.meter.now) (g.D.M.Meter.faults c.check_values.new.meter))
    c.in-Err-check_values.fault (returns-in-Err-check_values-clause-cause g c)

pub returns-in-Ok-Some-clause-of_job : goal.returns-in-Ok-Some-clause-of_job
returns-in-Ok-Some-clause-of_job g c = λ job edges graphs values storable store tell tell'.
    store_resumes job edges graphs values storable store (Found c.in-Ok.job c.in-Ok-index_graphs.index c.in-Ok-Some.kept.round c.in-Ok-Some.kept.changed)
    (returns-in-Ok-Some-clause-recovered g c graphs values tell tell')

pub returns-in-Ok-None-clause-of_job : goal.returns-in-Ok-None-clause-of_job
returns-in-Ok-None-clause-of_job g c = λ job edges graphs values storable store tell tell'.
    store_resumes job edges graphs values storable store (Fresh c.in-Ok.job c.in-Ok-index_graphs.index)
    (returns-in-Ok-None-clause-recovered g c graphs values tell tell')

pub returns-in-Err-kept_round-clause-cause_of_job : goal.returns-in-Err-kept_round-clause-cause_of_job
returns-in-Err-kept_round-clause-cause_of_job g c =
    cause_told g.D.Disk.state c.args.store.now.graphs.items c.args.store.now.values.items (Rose (g.D.M.Meter.faults c.args.meter.now) (g.D.M.Meter.faults c.kept_round.new.meter))
    c.in-Err-kept_round.fault (returns-in-Err-kept_round-clause-cause g c)
