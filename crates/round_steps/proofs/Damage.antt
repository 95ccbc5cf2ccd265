-- What phases say of damage, in words of the store.
use Rattle.std.proofs.Common.{◌≡◌, ◌≢◌, ℕ, ◌<◌, Bool, true, false, List, length, sym, ◌∙◌, ap, subst}
use Rattle.std.specs.Prelude.{IfSome, Vec}
use Rattle.std.specs.Global.{Global}
use Rattle.std.proofs.lemmas.List.Elements.{All-get_or}
use Rattle.graph_model.specs.Programs.{Rules}
use Rattle.ports.specs.Disk.{DiskState}
use Rattle.graph_model.specs.declared.job.Job.{Job}
use Rattle.partitioner.specs.declared.split.Split.{Split}
use Rattle.chunk_model.specs.Layout.{edge_layout, update_layout}
use Rattle.chunk_file.specs.declared.index.Place.{Place}
use Rattle.chunk_file.specs.Places.{places_of, on_graph}
use Rattle.chunk_file.specs.Chunks.{NoChunkIn}
use Rattle.store_reader.specs.declared.serving.Serving.{Serving}
use Rattle.store_reader.specs.declared.serving.Shelf.{Shelf}
use Rattle.store_reader.specs.declared.serving.Shelf.TheVariants.{Lanes}
use Rattle.store_reader.specs.Indexed.{IsServing}
use Rattle.store_reader.specs.Serving.{told_at, has_device, place_at, RefusesAt, IsRefusedChunk}
use Rattle.store_reader.specs.declared.store.Outcome.{Outcome}
use Rattle.store_reader.specs.declared.store.Outcome.TheVariants.{Done, DiskFault, Damaged, Memory}
use Rattle.store_reader.specs.declared.store.Part.{Part}
use Rattle.store_reader.specs.declared.store.Part.TheVariants.{Graph, Values, Lane}
use Rattle.gather_phase.specs.declared.desk.GatherContext.{GatherContext}
use Rattle.gather_phase.specs.Phases as gathering
use Rattle.scatter_phase.specs.declared.desk.ScatterContext.{ScatterContext}
use Rattle.scatter_phase.specs.Phases as scattering
use Rattle.chunk_cursor.specs.declared.view.View.{View}
use Rattle.replica_merge.specs.declared.replicas.Replicas.{Replicas}
use Rattle.worker_outcomes.specs.declared.epoch_end.EpochEnd.{EpochEnd}
use Rattle.scatter_epoch.specs.Scattering.{HaveScattered}
use Rattle.scatter_epoch.specs.Sent.{IsOfRows, RowsTell}
use Rattle.round_steps.specs.Standing.{IsSound}
use Rattle.round_steps.specs.Damage.{told_of_graph, told_of_lane, IsEdgeDamage, IsUpdateDamage, IsDamage, NamesDamage}
use Rattle.round_steps.proofs.Begun.{Either}

pub names_weaker : (P Q : Part → (engine at : ℕ) → Type 0) → ((part : Part) (engine at : ℕ) → P part engine at → Q part engine at) → (outcome : Outcome) → NamesDamage P outcome → NamesDamage Q outcome
names_weaker P Q weaker Done names = tt
names_weaker P Q weaker DiskFault names = tt
names_weaker P Q weaker (Damaged part engine at) names = weaker part engine at names
names_weaker P Q weaker Memory names = tt

-- an outcome that tells of none
pub sound_names : (P : Part → (engine at : ℕ) → Type 0) (outcome : Outcome) → IsSound outcome → NamesDamage P outcome
sound_names P Done sound = tt
sound_names P DiskFault sound = tt
sound_names P (Damaged part engine at) sound = absurd sound
sound_names P Memory sound = tt

module _ {D : Type 0} (state : D → DiskState) (job : Job) (split : Split) where
  -- damage of edges is damage in a round
  pub edges_in_round : (index : List (List Place)) (graphs : List D) (lanes : List (Vec D Global)) (outcome : Outcome) → NamesDamage (IsEdgeDamage state job split index graphs) outcome → NamesDamage (IsDamage state job split index graphs lanes) outcome
  edges_in_round index graphs lanes outcome = names_weaker (IsEdgeDamage state job split index graphs) (IsDamage state job split index graphs lanes) by_part outcome
    where
      by_part : (part : Part) (engine at : ℕ) → IsEdgeDamage state job split index graphs part engine at → IsDamage state job split index graphs lanes part engine at
      by_part Graph engine at is = is
      by_part Values engine at is = is
      by_part Lane engine at is = absurd is

  -- so is damage of updates, which is not met where all lanes tell
  pub updates_in_round : (index : List (List Place)) (graphs : List D) (lanes : List (Vec D Global)) (outcome : Outcome) → NamesDamage (IsUpdateDamage state job split lanes) outcome → (RowsTell state lanes → IsSound outcome)
      → NamesDamage (IsDamage state job split index graphs lanes) outcome
  updates_in_round index graphs lanes Done names sound = tt
  updates_in_round index graphs lanes DiskFault names sound = tt
  updates_in_round index graphs lanes (Damaged Graph engine at) names sound = absurd names
  updates_in_round index graphs lanes (Damaged Values engine at) names sound = names
  updates_in_round index graphs lanes (Damaged Lane engine at) names sound = (names, sound)
  updates_in_round index graphs lanes Memory names sound = tt

module _ {D M : Type 0} (state : D → DiskState) where
  -- chunks are served from these graph devices
  abbrev pub IsOnGraphs : Serving D M → List D → Type 0
  IsOnGraphs serving graphs = (engine lane : ℕ) → told_at state serving.shelf engine lane ≡ told_of_graph state graphs engine

  refused_edges : (serving : Serving D M) (graphs : List D) → IsOnGraphs serving graphs → (part : Part) (engine at : ℕ) → part ≡ Graph → IsRefusedChunk state (edge_layout serving.job.now.format) serving serving.job.now.chunk engine at
      → IsEdgeDamage state serving.job.now serving.split.now serving.index.now graphs part engine at
  refused_edges serving graphs on part engine at is refused =
      let place : Place = place_at serving.index.now engine refused.partition refused.t in
      subst (λ (p : Part). IsEdgeDamage state serving.job.now serving.split.now serving.index.now graphs p engine at) (sym is) (record {
        partition = refused.partition;
        t = refused.t;
        engine_is = refused.engine_is;
        partition_is = refused.partition_is;
        there = refused.there;
        refuses = subst (λ told. RefusesAt (edge_layout serving.job.now.format) serving.split.now refused.partition place told serving.job.now.chunk at) (on engine place.lane) refused.refuses;
      })

  refused_updates : (serving : Serving D M) (rows : List (Vec D Global)) → IsOfRows serving.job.now serving.split.now rows serving.index.now serving → IsServing serving → (part : Part) (engine at : ℕ) → part ≡ Lane
      → IsRefusedChunk state update_layout serving serving.job.now.chunk engine at → IsUpdateDamage state serving.job.now serving.split.now rows part engine at
  refused_updates serving rows of serves part engine at is refused =
      let places : List Place = places_of serving.index.now engine refused.partition in
      let place : Place = place_at serving.index.now engine refused.partition refused.t in
      let there : has_device serving.shelf engine place.lane
      = All-get_or (λ (p : Place). has_device serving.shelf engine p.lane) places refused.t (on_graph 0) refused.there (serves.devices engine refused.partition refused.engine_is refused.partition_is) in
      let on_lanes : has_device {M = M} (Lanes of.lanes) engine place.lane = subst (λ (shelf : Shelf D M). has_device shelf engine place.lane) of.shelf there in
      let told : told_at state serving.shelf engine place.lane ≡ told_of_lane state rows place.lane engine
      = ap (λ (shelf : Shelf D M). told_at state shelf engine place.lane) of.shelf ∙ ap (λ l. told_of_lane state l place.lane engine) of.rows_are in
      subst (λ (p : Part). IsUpdateDamage state serving.job.now serving.split.now rows p engine at) (sym is) (record {
        worker = place.lane;
        partition = refused.partition;
        engine_is = refused.engine_is;
        worker_is = subst (λ l. place.lane < length l) of.rows_are on_lanes.0;
        partition_is = refused.partition_is;
        none = subst (λ (b : ℕ). IfSome (told_of_lane state rows place.lane engine) (NoChunkIn update_layout serving.split.now serving.job.now.chunk refused.partition b)) (sym refused.refuses.named)
            (subst (λ t. IfSome t (NoChunkIn update_layout serving.split.now serving.job.now.chunk refused.partition place.at)) told refused.refuses.none);
      })

module _ {P D G M : Type 0} (rules : P → Rules) (state : D → DiskState) (faults : M → ℕ) (c : GatherContext P D G M) (before after : View) (meters meters' : List M) (spills spills' : List D) (replicas : List Replicas) (result : EpochEnd)
    (either : Either rules state faults c before after meters meters' spills spills' replicas result) where
  -- where edges are counted
  pub counts_names : (result.outcome ≢ Done → gathering.MayStopBy rules state c result.outcome) → c.counting ≡ true → (graphs : List D) → IsOnGraphs state c.serving graphs
      → NamesDamage (IsEdgeDamage state c.serving.job.now c.serving.split.now c.serving.index.now graphs) result.outcome
  counts_names why counting graphs on = of result.outcome why
    where
      of : (outcome : Outcome) → (outcome ≢ Done → gathering.MayStopBy rules state c outcome) → NamesDamage (IsEdgeDamage state c.serving.job.now c.serving.split.now c.serving.index.now graphs) outcome
      of Done why = tt
      of DiskFault why = tt
      of (Damaged part engine at) why =
          let found = subst (λ (b : Bool). (part ≡ gathering.part_of b) × gathering.IsRefused state b c.serving engine at) counting (why (λ is. cc)).0 in
          refused_edges state c.serving graphs on part engine at found.0 found.1
      of Memory why = tt

  -- where updates are gathered
  pub gathers_names : (result.outcome ≢ Done → gathering.MayStopBy rules state c result.outcome) → c.counting ≡ false → (rows : List (Vec D Global)) → IsOfRows c.serving.job.now c.serving.split.now rows c.serving.index.now c.serving
      → IsServing c.serving → NamesDamage (IsUpdateDamage state c.serving.job.now c.serving.split.now rows) result.outcome
  gathers_names why gathers rows on serves = of result.outcome why
    where
      of : (outcome : Outcome) → (outcome ≢ Done → gathering.MayStopBy rules state c outcome) → NamesDamage (IsUpdateDamage state c.serving.job.now c.serving.split.now rows) outcome
      of Done why = tt
      of DiskFault why = tt
      of (Damaged part engine at) why =
          let found = subst (λ (b : Bool). (part ≡ gathering.part_of b) × gathering.IsRefused state b c.serving engine at) gathers (why (λ is. cc)).0 in
          refused_updates state c.serving rows on serves part engine at found.0 found.1
      of Memory why = tt

module _ {P D G M : Type 0} (rules : P → Rules) (state : D → DiskState) (faults : M → ℕ) (c : ScatterContext P D G M) (before after : View) (meters meters' : List M) (rows rows' : List (Vec D Global)) (index : List (List Place)) (result : EpochEnd)
    (have : HaveScattered rules state faults c before after meters meters' rows rows' index result) where
  -- where edges send
  pub scatters_names : (result.outcome ≢ Done → scattering.MayStopBy rules state c result.outcome) → (graphs : List D) → IsOnGraphs state c.serving graphs
      → NamesDamage (IsEdgeDamage state c.serving.job.now c.serving.split.now c.serving.index.now graphs) result.outcome
  scatters_names why graphs on = of result.outcome why
    where
      of : (outcome : Outcome) → (outcome ≢ Done → scattering.MayStopBy rules state c outcome) → NamesDamage (IsEdgeDamage state c.serving.job.now c.serving.split.now c.serving.index.now graphs) outcome
      of Done why = tt
      of DiskFault why = tt
      of (Damaged part engine at) why = let found = (why (λ is. cc)).0 in refused_edges state c.serving graphs on part engine at found.0 found.1
      of Memory why = tt
