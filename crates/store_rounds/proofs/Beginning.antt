-- A store that is made of a text, and the run that follows, at a stop.
use Rattle.std.proofs.Common.{◌≡◌, ℕ, zero, suc, ◌+◌, ◌<◌, ◌≤◌, ◌⊎◌, List, length, get_or, Some, inl, inr, sym, ◌∙◌, subst, arith}
use Rattle.std.proofs.lemmas.Bool.{cases_lt, cases_eq}
use Rattle.graph_model.specs.declared.job.Job.{Job}
use Rattle.graph_model.specs.Answer.{edges}
use Rattle.ports.specs.Disk.{DiskState, IsDisk}
use Rattle.storage_engine.specs.Preparing.{WhilePreparing}
use Rattle.store_model.specs.Heads.{IsShutGraph}
use Rattle.store_model.specs.Graphs.{graph}
use Rattle.store_model.specs.Slots.{IsBlank}
use Rattle.store_model.specs.Kept.{own_of, device, IsValuesOf, IsUnprepared, IsWholeStore}
use Rattle.list_moves.proofs.Desks.{some_of}
use Rattle.store_rounds.specs.Images.{IsStopOfEach}
use Rattle.store_rounds.specs.Going.{LeaveRounds}
use Rattle.store_rounds.specs.Making.{LeaveMade, IsShutSomewhere, IsMadeStore}
use Rattle.store_rounds.proofs.Left.{blank_is, left_is}

-- one of two for each of some engines: the first for one of them, or the second for all
one_or_all : (count : ℕ) (P Q : ℕ → Type 0) → ((e : ℕ) → e < count → P e ⊎ Q e) → ((e : ℕ) × (e < count) × P e) ⊎ ((e : ℕ) → e < count → Q e)
one_or_all zero P Q each = inr (λ e below. absurd (omega arith))
one_or_all (suc count) P Q each = elim (one_or_all count P Q (λ e below. each e (omega arith))) [
  | inl one ↦ inl (one.0, omega (arith, one.1), one.2)
  | inr all ↦ elim (each count (omega arith)) [
    | inl last ↦ inl (count, omega arith, last)
    | inr last ↦ inr (λ e below. elim (cases_eq e count) [
      | inl same ↦ subst Q (sym same) last
      | inr other ↦ all e (omega arith)
    ])
  ]
]

module _ {D : Type 0} (state : D → DiskState) (job : Job) (text : List ℕ) (number now b : ℕ) (graphs graphs_made values made : List D) (stopped_graphs stopped : List (List ℕ)) (many_graphs : length graphs ≡ job.engines) (many_values : length values ≡ job.engines)
    (leave : LeaveMade state job (Some text) number now graphs graphs_made values made) (stop_graphs : IsStopOfEach state b graphs graphs_made stopped_graphs) where
  graphs_stopped : (e : ℕ) → e < job.engines → e < length stopped_graphs
  graphs_stopped e below = omega (arith, below, many_graphs, stop_graphs.many)

  some_graph : (e : ℕ) → e < job.engines → D
  some_graph e below = some_of graphs e (omega (arith, below, many_graphs))

  -- in one of the two beats of making, the graph devices
  graphs_at_stop : IsShutSomewhere state job graphs → b ≤ now → IsUnprepared stopped_graphs ⊎ ((number + 1 ≤ b) × ((e : ℕ) → e < job.engines → device stopped_graphs e ≡ graph job (edges job text) e))
  graphs_at_stop shut within = elim (cases_lt b (number + 1)) [
    | inl first ↦
        let d : D = some_graph shut.0 shut.1 in
        inl (shut.0, graphs_stopped shut.0 shut.1, (at_stop shut.0 d shut.1).first_beat first (shut.2 d))
    | inr second ↦ elim (one_or_all job.engines (λ e. IsShutGraph (device stopped_graphs e)) (λ e. device stopped_graphs e ≡ graph job (edges job text) e) (λ e below. (at_stop e (some_graph e below) below).second_beat second)) [
      | inl one ↦ inl (one.0, graphs_stopped one.0 one.1, one.2)
      | inr all ↦ inr (second, all)
    ]
  ]
    where
      at_stop : (e : ℕ) (d : D) → e < job.engines → WhilePreparing job (Some text) (number + 1) e (state (get_or graphs e d)) b (device stopped_graphs e)
      at_stop e d below = (leave.of_graphs e d below).each b (device stopped_graphs e) (stop_graphs.each e d (omega (arith, below, many_graphs))) within

  -- the whole store, of graph devices that are whole
  whole_store : length stopped ≡ job.engines → ((e : ℕ) → e < job.engines → device stopped_graphs e ≡ graph job (edges job text) e) → ((e : ℕ) → e < job.engines → IsValuesOf job (edges job text) e (device stopped e)) → IsWholeStore job (edges job text) stopped_graphs stopped
  whole_store many are values_are = record {
    graphs_many = stop_graphs.many ∙ many_graphs;
    values_many = many;
    graphs_are = are;
    values_are = values_are;
  }

  -- **While it is made.**
  pub making_at_stop : IsShutSomewhere state job graphs → b ≤ now → IsStopOfEach state b values made stopped → IsUnprepared stopped_graphs ⊎ ((number + 1 ≤ b) × IsWholeStore job (edges job text) stopped_graphs stopped)
  making_at_stop shut within stop = elim (graphs_at_stop shut within) [
    | inl unprepared ↦ inl unprepared
    | inr whole ↦ inr (
      whole.0,
      whole_store (stop.many ∙ many_values) whole.1 (λ e below.
          let here : e < length values = omega (arith, below, many_values) in
          let d : D = some_of values e here in
          blank_is job (edges job text) e (device stopped e) ((leave.of_values e d below).each b (device stopped e) (stop.each e d here) within whole.0)),
    )
  ]

  module _ (lawful : (d : D) → IsDisk (state d)) (last : ℕ) (new : List D) (is : IsMadeStore state job (edges job text) now graphs_made made) (rounds : LeaveRounds state job (edges job text) now 0 last made new) (end : b ≤ last) (stop : IsStopOfEach state b values new stopped) where
    -- a values device, where a stop of it while it was made leaves a blank one
    values_at_stop : (e : ℕ) (d : D) → e < job.engines → (state (get_or values e d)).moment ≤ (state (get_or made e d)).moment → ((state (get_or made e d)).stops b (state (get_or values e d)).moment (device stopped e) → IsBlank (own_of job e) (device stopped e))
        → IsValuesOf job (edges job text) e (device stopped e)
    values_at_stop e d below later blank =
        elim ((rounds e d below).since b (state (get_or values e d)).moment (device stopped e) later (stop.each e d (omega (arith, below, many_values)))) [
          | inl earlier ↦ blank_is job (edges job text) e (device stopped e) (blank earlier)
          | inr left ↦ left_is job (edges job text) e now 0 b (state (get_or made e d)) (device stopped e) (λ c image. blank_is job (edges job text) e c (is.blank e d below c image)) (left end)
        ]

    -- **While the rounds are made, in the beats before.**
    pub running_at_stop : IsShutSomewhere state job graphs → b ≤ now → IsUnprepared stopped_graphs ⊎ ((number + 1 ≤ b) × IsWholeStore job (edges job text) stopped_graphs stopped)
    running_at_stop shut within = elim (graphs_at_stop shut within) [
      | inl unprepared ↦ inl unprepared
      | inr whole ↦ inr (
        whole.0,
        whole_store (stop.many ∙ many_values) whole.1 (λ e below.
            let d : D = some_of values e (omega (arith, below, many_values)) in
            values_at_stop e d below (leave.of_values e d below).later (λ earlier. (leave.of_values e d below).each b (device stopped e) earlier within whole.0)),
      )
    ]

    -- **And in the beats of the rounds.**
    pub whole_at_stop : now < b → IsWholeStore job (edges job text) stopped_graphs stopped
    whole_at_stop after = whole_store (stop.many ∙ many_values)
        (λ e below.
        let d : D = some_graph e below in
        is.whole e d below (device stopped_graphs e)
        ((lawful (get_or graphs_made e d)).later_beats b (state (get_or graphs e d)).moment (device stopped_graphs e) (omega (arith, after, is.graph_beats e d below)) (stop_graphs.each e d (omega (arith, below, many_graphs)))))
        (λ e below.
        let d : D = some_of values e (omega (arith, below, many_values)) in
        values_at_stop e d below (leave.of_values e d below).later
        (λ earlier. is.blank e d below (device stopped e) ((lawful (get_or made e d)).later_beats b (state (get_or values e d)).moment (device stopped e) (omega (arith, after, is.value_beats e d below)) earlier)))
