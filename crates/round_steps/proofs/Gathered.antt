-- What all workers have gathered, when all are done.
use Rattle.std.proofs.Common.{◌≡◌, ◌≢◌, ℕ, zero, suc, ◌+◌, ◌<◌, true, false, Option, Some, None, List, [], ◌∷◌, length, map, replicate, refl, sym, ◌∙◌, ap, arith, slice_index_or}
use Rattle.std.proofs.Math.Path.{fun_ext}
use Rattle.std.specs.List.{All, range_with_len}
use Rattle.std.proofs.lemmas.List.{length-map}
use Rattle.graph_model.specs.declared.edge.Edge.{Edge}
use Rattle.graph_model.specs.declared.value.Update.{Update}
use Rattle.graph_model.specs.Programs.{Rules}
use Rattle.graph_model.specs.Rounds.{merged, out_degree}
use Rattle.partitioner.specs.declared.split.Split.{Split}
use Rattle.ports.specs.Disk.{DiskState}
use Rattle.chunk_object.specs.declared.call.Call.{Call}
use Rattle.chunk_object.specs.Epochs.{list_of}
use Rattle.chunk_cursor.specs.declared.view.View.{View}
use Rattle.chunk_model.specs.Layout.{edge_layout, update_layout}
use Rattle.phase_model.specs.Shelves.{Shelf, records_at}
use Rattle.phase_model.specs.Taken.{records_taken}
use Rattle.phase_model.proofs.Counted as degrees
use Rattle.store_reader.specs.declared.store.Outcome.{Outcome}
use Rattle.store_reader.specs.declared.store.Outcome.TheVariants.{Done, DiskFault, Damaged, Memory}
use Rattle.store_reader.specs.Indexed.{HasRecords}
use Rattle.replica_merge.specs.declared.replicas.Replicas.{Replicas}
use Rattle.replica_merge.specs.Accumulators.{split_of, unit_of, place_of, len_of, accumulators_at, accumulators_of, IsUnspilled}
use Rattle.gather_phase.specs.declared.desk.GatherContext.{GatherContext}
use Rattle.gather_phase.specs.Gathered.{over_partition}
use Rattle.gather_phase.specs.Phases.{Takes, MayStopBy}
use Rattle.worker_outcomes.specs.Lowest.{lowest_outcome}
use Rattle.worker_outcomes.specs.declared.epoch_end.EpochEnd.{EpochEnd}
use Rattle.gather_epoch.specs.Gathering.{HasGatheredBy, HaveGathered}
use Rattle.epoch_laws.specs.Phases.{counted, gathered, merged_over}
use Rattle.apply_round.specs.Made.{AreMerged}
use Rattle.list_moves.proofs.Desks.{some_of}
use Rattle.round_steps.specs.Crews.{LieWithin}
use Rattle.round_steps.specs.Standing.{IsSound}
use Rattle.round_steps.proofs.Counts.{HasBytes}
use Rattle.round_steps.proofs.Merging.{merge_is}

-- where the lowest outcome is Done each worker is done
abbrev pub EachIsDone : Type 0
EachIsDone = (outcomes : List Outcome) → lowest_outcome outcomes ≡ Done → (worker : ℕ) (outcome : Outcome) → worker < length outcomes → slice_index_or outcomes worker outcome ≡ Done

module _ {P D G M : Type 0} (rules : P → Rules) (state : D → DiskState) (c : GatherContext P D G M) where
  -- no damage is found where all chunks stand
  pub gathers_soundly : (outcome : Outcome) → (outcome ≢ Done → MayStopBy rules state c outcome) → (items : ℕ → ℕ → List Update) → Takes state c.counting c.serving items → IsSound outcome
  gathers_soundly Done why items takes = tt
  gathers_soundly DiskFault why items takes = tt
  gathers_soundly (Damaged part engine place) why items takes = (why (λ is. cc)).1 items takes
  gathers_soundly Memory why items takes = tt

module _ {P D G M : Type 0} (rules : P → Rules) (state : D → DiskState) (faults : M → ℕ) (c : GatherContext P D G M) where
  module _ (before after : View) (meters meters' : List M) (spills spills' : List D) (replicas : List Replicas) (result : EpochEnd) (law : EachIsDone) (many : length meters ≡ c.serving.job.now.engines) (have : HaveGathered rules state faults c before after meters meters' spills spills' replicas result) (done : result.outcome ≡ Done) where
    pub each_gathered : (w : ℕ) (d : D) (r : Replicas) → w < c.serving.job.now.engines → HasGatheredBy rules state c (slice_index_or replicas w r) (slice_index_or spills' w d) (list_of have.epoch w)
    each_gathered w d r below =
        let m : M = some_of meters w (omega (arith, below)) in
        (have.each w m d r Done below).gathered (law have.outcomes (sym have.outcome_is ∙ done) w Done (omega (arith, below, have.many)))

    pub all_within : length replicas ≡ c.serving.job.now.engines → LieWithin state replicas spills'
    all_within replicas_many w r d below = (each_gathered w d r (omega (arith, below))).within

    -- **The merge of what all workers counted.**
    pub counts_merge : length replicas ≡ c.serving.job.now.engines → length spills' ≡ c.serving.job.now.engines → c.counting ≡ true → (edges : List Edge) (shelf : Shelf Edge) → HasRecords state (edge_layout c.serving.job.now.format) c.serving (records_at shelf)
        → HasBytes state spills' → ((v : ℕ) → merged_over (rules c.program.now) (counted shelf v) have.epoch ≡ out_degree edges v)
        → AreMerged (rules c.program.now) c.serving.split.now replicas (map (λ d. (state d).bytes) spills') (out_degree edges)
    counts_merge replicas_many spills_many counting edges shelf stand bytes all_counted =
        let workers : length have.epoch.lists ≡ c.serving.job.now.engines = have.made.begins.workers in
        let own : ℕ → List Call → ℕ = λ v calls. out_degree (records_taken (records_at shelf) calls) v in
        let same : (v : ℕ) → own v ≡ counted shelf v = λ v. fun_ext (λ calls. sym (degrees.counted v (records_taken (records_at shelf) calls))) in
        merge_is c.serving.split.now own (rules c.program.now) replicas bytes.all (map (λ d. (state d).bytes) spills') have.epoch.lists (out_degree edges) (replicas_many ∙ sym workers) (bytes.many ∙ spills_many ∙ sym workers) bytes.are
        (λ partition below w r within.
        let d : D = some_of spills' w (omega (arith, within)) in
        (each_gathered w d r (omega (arith, within))).counted counting (records_at shelf) stand (slice_index_or bytes.all w []) (bytes.each w d (omega (arith, within))) partition below)
        (λ v. ap (λ f. merged (rules c.program.now) (map f have.epoch.lists)) (same v) ∙ all_counted v)

    -- **The merge of what all workers gathered.**
    pub updates_merge : length replicas ≡ c.serving.job.now.engines → length spills' ≡ c.serving.job.now.engines → c.counting ≡ false → (shelf : Shelf Update) → HasRecords state update_layout c.serving (records_at shelf)
        → HasBytes state spills'
        → AreMerged (rules c.program.now) c.serving.split.now replicas (map (λ d. (state d).bytes) spills') (λ v. merged_over (rules c.program.now) (gathered (rules c.program.now) shelf v) have.epoch)
    updates_merge replicas_many spills_many gathers shelf stand bytes =
        let workers : length have.epoch.lists ≡ c.serving.job.now.engines = have.made.begins.workers in
        merge_is c.serving.split.now (gathered (rules c.program.now) shelf) (rules c.program.now) replicas bytes.all (map (λ d. (state d).bytes) spills') have.epoch.lists (λ v. merged_over (rules c.program.now) (gathered (rules c.program.now) shelf v) have.epoch) (replicas_many ∙ sym workers) (bytes.many ∙ spills_many ∙ sym workers) bytes.are
        (λ partition below w r within.
        let d : D = some_of spills' w (omega (arith, within)) in
        (each_gathered w d r (omega (arith, within))).summed gathers (records_at shelf) stand (slice_index_or bytes.all w []) (bytes.each w d (omega (arith, within))) partition below)
        (λ v. refl)

-- Accumulators that are new, with nothing on a device.
units : (u a n : ℕ) → replicate n u ≡ map (λ (v : ℕ). u) (range_with_len a n)
units u a zero = refl
units u a (suc n) = ap (λ (xs : List ℕ). u ∷ xs) (units u (a + 1) n)

pub new_lie : {D : Type 0} (state : D → DiskState) (replicas : List Replicas) (spills : List D) → All IsUnspilled replicas → LieWithin state replicas spills
new_lie state replicas spills new w r d below partition at inside spilled =
    let none : place_of (slice_index_or replicas w r) partition ≡ None = new w r below partition in
    absurd (let no : ⊥ = cc in no)

pub new_merge : (rules : Rules) (split : Split) (replicas : List Replicas) (devices : List (List ℕ)) (spills : List (Option (List ℕ))) (unit : ℕ) → length devices ≡ length replicas → spills ≡ map (λ device. Some device) devices
    → All (λ r. split_of r ≡ split) replicas → All (λ r. (unit_of r ≡ unit) × IsUnspilled r) replicas
    → AreMerged rules split replicas spills (λ v. merged rules (map (λ (r : Replicas). unit) replicas))
new_merge rules split replicas devices spills unit many told splits new =
    let none : List (List Call) = map (λ (r : Replicas). []) replicas in
    let none_many : length none ≡ length replicas = length-map replicas (λ (r : Replicas). []) in
    merge_is split (λ v calls. unit) rules replicas devices spills none (λ v. merged rules (map (λ (r : Replicas). unit) replicas)) (sym none_many) (many ∙ sym none_many) told
    (λ partition below w r within.
    let here : w < length replicas = omega (arith, within) in
    new_of (slice_index_or replicas w r) (slice_index_or devices w []) partition (splits w r here) (new w r here).0 ((new w r here).1 partition))
    (λ v. ap (merged rules) (constant replicas))
  where
    constant : (rs : List Replicas) → map (λ (calls : List Call). unit) (map (λ (r : Replicas). []) rs) ≡ map (λ (r : Replicas). unit) rs
    constant [] = refl
    constant (r ∷ rs) = ap (λ (xs : List ℕ). unit ∷ xs) (constant rs)

    new_of : (r : Replicas) (device : List ℕ) (partition : ℕ) → split_of r ≡ split → unit_of r ≡ unit → place_of r partition ≡ None → accumulators_of r device partition ≡ over_partition split (λ v. unit) partition
    new_of r device partition split_is unit_is none =
        ap (λ (place : Option ℕ). accumulators_at place (len_of r.split partition) r.unit device) none
        ∙ ap (λ (s : Split). replicate (len_of s partition) r.unit) split_is
        ∙ ap (λ (u : ℕ). replicate (len_of split partition) u) unit_is
        ∙ units unit _ (len_of split partition)

pub new_unspilled : (unit : ℕ) (replicas : List Replicas) → All (λ r. (unit_of r ≡ unit) × IsUnspilled r) replicas → All IsUnspilled replicas
new_unspilled unit replicas new k d below = (new k d below).1
