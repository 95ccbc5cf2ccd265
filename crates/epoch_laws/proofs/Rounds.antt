-- The sums of a round.
use Rattle.std.proofs.Common.{◌≡◌, ℕ, ◌+◌, ◌-◌, ◌^◌, ◌<◌, ◌≤◌, ◌==◌, Bool, true, false, Option, Some, None, List, get_or, map, flat_map, refl, sym, ◌∙◌, ap, arith}
use Rattle.std.proofs.Math.Path.{fun_ext}
use Rattle.std.specs.List.{All, fold}
use Rattle.std.proofs.lemmas.List.Elements.{All-nil, All-map}
use Rattle.std.proofs.lemmas.List.Folds.{flat_map-map}
use Rattle.graph_model.specs.declared.edge.Edge.{Edge}
use Rattle.graph_model.specs.declared.value.Value.{Value}
use Rattle.graph_model.specs.declared.value.Update.{Update}
use Rattle.graph_model.specs.declared.job.Job.{Job}
use Rattle.graph_model.specs.Programs.{Rules}
use Rattle.graph_model.specs.Rounds.{IsWithinGraph, merged, value_at, values, sent_to, sent_by_changed, of_vertices, next_by_changed, out_degree}
use Rattle.graph_model.specs.Jobs.{IsWellFormedJob, parts_of, most_vertices}
use Rattle.graph_model.proofs.RoundLemmas.{values-suc, values-zero, of_vertices_same}
use Rattle.gather_laws.specs.Laws.{GatherLaws}
use Rattle.gather_laws.proofs.MergeLemmas.{merged_is_sum}
use Rattle.gather_laws.proofs.AbsorbLemmas.{values-sums, changed_are_enough}
use Rattle.chunk_object.specs.declared.call.Call.{Call}
use Rattle.chunk_object.specs.Epochs.{Epoch, TakesEachOnce}
use Rattle.chunk_model.specs.Chunks.{Chunk}
use Rattle.phase_model.specs.JobTerms.{terms_of}
use Rattle.phase_model.specs.Shelves.{Shelf, records_at}
use Rattle.phase_model.specs.Taken.{records_taken, taken}
use Rattle.phase_model.specs.Sends.{Sending, sent_along, sent_by, sending_of}
use Rattle.phase_model.specs.Sums.{values_to}
use Rattle.phase_model.proofs.Sent.{sent_by_senders, filter_all}
use Rattle.phase_core.proofs.Merging.{folded_merge}
use Rattle.phase_core.proofs.Shelved.{records_all}
use Rattle.partitioner.proofs.Made.{most_of_all}
use Rattle.epoch_laws.specs.Phases.{edge_shelf, Opens, sent_in, updates_of, gathered, merged_over, MaySend, sending_in}
use Rattle.epoch_laws.proofs.Grouped.{flat_map-flat_map, flat_all}
use Rattle.epoch_laws.proofs.Shelves.{over_lists, epoch_merged, workers_merged, list_sums, StandsBelow}
use Rattle.epoch_laws.proofs.Edges.{edges_stand, edges_all, over_edges}
use Rattle.epoch_laws.proofs.Updates.{value_to, values_each, IsUpdate, value_sums, along_ok, sent_by_ok, shelf_ok, over_updates}

module _ (rules : Rules) (IsSum : ℕ → Type 0) (laws : GatherLaws rules IsSum) (job : Job) (edges : List Edge) (well : IsWellFormedJob job) (within : IsWithinGraph job.vertices edges)
    (now : List Value) (sums : (v : ℕ) → v < job.vertices → IsSum (value_at now v).main) (before : Option (List Value)) (t : ℕ) (scatter gather : Epoch)
    (opens : Opens (edge_shelf job edges) scatter) (once : TakesEachOnce (terms_of job) scatter) where
  abbrev merge_all : List ℕ → ℕ
  merge_all = fold rules.merge rules.unit

  abbrev sending : Sending
  sending = sending_of rules before now

  abbrev made : Shelf Edge
  made = edge_shelf job edges

  abbrev shelf : Shelf Update
  shelf = updates_of job edges sending t scatter

  abbrev Ends : Edge → Type 0
  Ends e = (e.src < job.vertices) × (e.dst < job.vertices)

  -- what a worker takes lies within the graph, and what it sends is sums
  taken_within : (calls : List Call) → All Ends (records_taken (records_at made) calls)
  taken_within calls =
      flat_all Ends (λ (chunk : ℕ × ℕ). records_at made chunk.0 chunk.1) (taken calls)
      (λ k d below. records_all (λ cursor records. All Ends records) made (edges_all job edges well within Ends within) (get_or (taken calls) k d).0 (get_or (taken calls) k d).1 (All-nil Ends))

  sent_all : All (All (IsUpdate IsSum job.vertices)) (map (sent_in job edges sending) scatter.lists)
  sent_all = All-map (All (IsUpdate IsSum job.vertices)) (sent_in job edges sending) scatter.lists
      (λ k d below. sent_by_ok rules IsSum laws job.vertices now sums before (records_taken (records_at made) (get_or scatter.lists k d)) (taken_within (get_or scatter.lists k d)))

  shelf_all : All (λ (c : ℕ × Chunk Update). StandsBelow job.engines (parts_of job) c × All (IsUpdate IsSum job.vertices) c.1.items) shelf
  shelf_all = shelf_ok job well IsSum t 0 (map (sent_in job edges sending) scatter.lists) sent_all

  module _ (vertex : ℕ) where
    -- what an edge sends to the vertex
    abbrev sent_here : Edge → List ℕ
    sent_here e = flat_map (value_to vertex) (sent_along sending e)

    edge_sums : (e : Edge) → Ends e → All IsSum (sent_here e)
    edge_sums e ends =
        flat_all IsSum (value_to vertex) (sent_along sending e) (λ k d below. value_sums IsSum job.vertices vertex (get_or (sent_along sending e) k d) (along_ok rules IsSum laws job.vertices now sums before e ends k d below))

    -- what all workers sent is what the edges send
    scattered : merge_all (flat_map (λ updates. flat_map (value_to vertex) updates) (map (sent_in job edges sending) scatter.lists)) ≡ merge_all (values_to vertex (sent_by sending edges))
    scattered =
        ap merge_all
        (flat_map-map (λ updates. flat_map (value_to vertex) updates) (sent_in job edges sending) scatter.lists
        ∙ ap (λ (f : List Call → List ℕ). flat_map f scatter.lists) (fun_ext (λ calls. flat_map-flat_map (value_to vertex) (sent_along sending) (records_taken (records_at made) calls)))
        ∙ sym (over_lists sent_here (records_at made) scatter.lists))
        ∙ epoch_merged rules.unit rules.merge IsSum laws.merging sent_here made (terms_of job) scatter well.few_parts (edges_stand job edges well within)
        (edges_all job edges well within (λ (e : Edge). All IsSum (sent_here e)) (λ k d below. edge_sums (get_or edges k d) (within k d below))) opens once
        ∙ over_edges job edges well within rules.unit rules.merge IsSum laws.merging sent_here (λ k d below. edge_sums (get_or edges k d) (within k d below))
        ∙ ap merge_all (sym (flat_map-flat_map (value_to vertex) (sent_along sending) edges) ∙ sym (values_each vertex (sent_by sending edges)))

    shelf_sums : All (λ (c : ℕ × Chunk Update). All (λ (u : Update). All IsSum (value_to vertex u)) c.1.items) shelf
    shelf_sums = λ k d below j e inside. value_sums IsSum job.vertices vertex (get_or (get_or shelf k d).1.items j e) ((shelf_all k d below).1 j e inside)

    module _ (opens_updates : Opens shelf gather) (once_updates : TakesEachOnce (terms_of job) gather) where
      stands : All (StandsBelow job.engines (parts_of job)) shelf
      stands = λ k d below. (shelf_all k d below).0

      -- the sum of a worker is a merge
      gathered_merge : (calls : List Call) → gathered rules shelf vertex calls ≡ merge_all (flat_map (value_to vertex) (records_taken (records_at shelf) calls))
      gathered_merge calls =
          let records : List Update = records_taken (records_at shelf) calls in
          let each : All IsSum (flat_map (value_to vertex) records) = list_sums rules.unit rules.merge IsSum laws.merging (value_to vertex) shelf (terms_of job) gather well.few_parts stands shelf_sums opens_updates once_updates calls in
          ap (fold rules.fold rules.unit) (values_each vertex records)
          ∙ folded_merge rules.unit rules.merge IsSum laws.merging rules.fold laws.folding rules.unit (flat_map (value_to vertex) records) laws.merging.unit_is_sum each
          ∙ laws.merging.neutral (merge_all (flat_map (value_to vertex) records)) (merged_is_sum rules.unit rules.merge IsSum laws.merging (flat_map (value_to vertex) records) each)

      -- **The merge of all workers' sums is the merge of what the edges send, whoever took what.**
      pub round_gathered : merged_over rules (gathered rules shelf vertex) gather ≡ merged rules (values_to vertex (sent_by sending edges))
      round_gathered =
          ap (λ (f : List Call → ℕ). merge_all (map f gather.lists)) (fun_ext gathered_merge)
          ∙ workers_merged rules.unit rules.merge IsSum laws.merging (value_to vertex) shelf (terms_of job) gather well.few_parts stands shelf_sums opens_updates once_updates
          ∙ over_updates job well IsSum rules.unit rules.merge laws.merging vertex t 0 (map (sent_in job edges sending) scatter.lists) sent_all
          ∙ scattered

few_vertices : (job : Job) → IsWellFormedJob job → job.vertices ≤ 2 ^ 32
few_vertices job well = let few : job.vertices ≤ most_vertices job.format = well.vertices in omega (arith, few, most_of_all (job.format == 1))

module _ (rules : Rules) (IsSum : ℕ → Type 0) (laws : GatherLaws rules IsSum) (job : Job) (edges : List Edge) (well : IsWellFormedJob job) (within : IsWithinGraph job.vertices edges)
    (round : ℕ) (before : Option (List Value)) (t : ℕ) (scatter gather : Epoch)
    (opens : Opens (edge_shelf job edges) scatter) (once : TakesEachOnce (terms_of job) scatter)
    (opens_updates : Opens (updates_of job edges (sending_in rules job.vertices edges round before) t scatter) gather) (once_updates : TakesEachOnce (terms_of job) gather) where
  abbrev n : ℕ
  n = job.vertices

  abbrev of_round : ℕ → List Value
  of_round = values rules job.vertices edges

  pub sums_of_round : (vertex : ℕ) →
      merged_over rules (gathered rules (updates_of job edges (sending_in rules job.vertices edges round before) t scatter) vertex) gather
      ≡ merged rules (values_to vertex (sent_by (sending_in rules job.vertices edges round before) edges))
  sums_of_round vertex =
      round_gathered rules IsSum laws job edges well within (values rules job.vertices edges (round - 1))
      (values-sums rules IsSum laws job.vertices edges (few_vertices job well) within (round - 1)) before t scatter gather opens once vertex opens_updates once_updates

-- the next values, of all that is sent or of what the senders send
next_of : (rules : Rules) (IsSum : ℕ → Type 0) (laws : GatherLaws rules IsSum) (n : ℕ) (edges : List Edge) → n ≤ 2 ^ 32 → IsWithinGraph n edges → (round : ℕ) (before : Option (List Value)) → 1 ≤ round → MaySend rules n edges round before →
    values rules n edges round ≡ of_vertices n (λ vertex. rules.next (value_at (values rules n edges (round - 1)) vertex) (merged rules (values_to vertex (sent_by (sending_in rules n edges round before) edges))))
next_of rules IsSum laws n edges few within round None some may =
    let now : List Value = values rules n edges (round - 1) in
    let same : round ≡ round - 1 + 1 = omega arith in
    ap (values rules n edges) same ∙ values-suc rules n edges (round - 1)
    ∙ of_vertices_same n (λ v. rules.next (value_at now v) (merged rules (sent_to rules edges now v)))
    (λ v. rules.next (value_at now v) (merged rules (values_to v (sent_by (sending_of rules None now) edges))))
    (λ v below. ap (λ l. rules.next (value_at now v) (merged rules l)) (sym (sent_by_senders rules now None v edges ∙ ap (λ l. sent_to rules l now v) (filter_all edges))))
next_of rules IsSum laws n edges few within round (Some old) some may =
    let now : List Value = values rules n edges (round - 1) in
    let two : round ≡ round - 2 + 2 = omega (arith, may.1) in
    let one : round - 2 + 1 ≡ round - 1 = omega (arith, may.1) in
    ap (values rules n edges) two
    ∙ changed_are_enough rules IsSum laws may.0 n edges few within (round - 2)
    ∙ ap (λ k. next_by_changed rules n edges (values rules n edges (round - 2)) (values rules n edges k)) one
    ∙ ap (λ b. next_by_changed rules n edges b now) (sym may.2)
    ∙ of_vertices_same n (λ v. rules.next (value_at now v) (merged rules (sent_by_changed rules edges old now v)))
    (λ v. rules.next (value_at now v) (merged rules (values_to v (sent_by (sending_of rules (Some old) now) edges))))
    (λ v below. ap (λ l. rules.next (value_at now v) (merged rules l)) (sym (sent_by_senders rules now (Some (value_at old)) v edges)))

-- **The next values of the merge are the values of the round.**
pub values_of_round : (rules : Rules) (IsSum : ℕ → Type 0) (laws : GatherLaws rules IsSum) (job : Job) (edges : List Edge) → IsWellFormedJob job → IsWithinGraph job.vertices edges → (round : ℕ) (before : Option (List Value)) →
    1 ≤ round → MaySend rules job.vertices edges round before → (sum : ℕ → ℕ) → ((v : ℕ) → sum v ≡ merged rules (values_to v (sent_by (sending_in rules job.vertices edges round before) edges))) →
    values rules job.vertices edges round ≡ of_vertices job.vertices (λ vertex. rules.next (value_at (values rules job.vertices edges (round - 1)) vertex) (sum vertex))
values_of_round rules IsSum laws job edges well within round before some may sum is =
    next_of rules IsSum laws job.vertices edges (few_vertices job well) within round before some may
    ∙ of_vertices_same job.vertices (λ v. rules.next (value_at (values rules job.vertices edges (round - 1)) v) (merged rules (values_to v (sent_by (sending_in rules job.vertices edges round before) edges))))
    (λ v. rules.next (value_at (values rules job.vertices edges (round - 1)) v) (sum v))
    (λ v below. ap (rules.next (value_at (values rules job.vertices edges (round - 1)) v)) (sym (is v)))

-- the values of round 0, of the numbers of edges where the program uses them
pub values_of_start : (rules : Rules) (IsSum : ℕ → Type 0) → GatherLaws rules IsSum → (n : ℕ) (edges : List Edge) (numbers : ℕ → ℕ) →
    (rules.counts ≡ true → (v : ℕ) → v < n → numbers v ≡ out_degree edges v) → values rules n edges 0 ≡ of_vertices n (λ v. rules.start v (numbers v))
values_of_start rules IsSum laws n edges numbers counted =
    values-zero rules n edges
    ∙ of_vertices_same n (λ v. rules.start v (out_degree edges v)) (λ v. rules.start v (numbers v)) (λ v below. by_counts v below rules.counts refl)
  where
    by_counts : (v : ℕ) → v < n → (counts : Bool) → rules.counts ≡ counts → rules.start v (out_degree edges v) ≡ rules.start v (numbers v)
    by_counts v below true is = ap (rules.start v) (sym (counted is v below))
    by_counts v below false is = laws.counting.ignores is v (out_degree edges v) (numbers v)
