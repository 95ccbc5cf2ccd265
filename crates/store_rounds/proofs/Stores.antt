-- Whole stores at a stop, and the round that is kept there.
use Rattle.std.proofs.Common.{◌≡◌, ℕ, ◌+◌, ◌-◌, ◌^◌, ◌<◌, ◌≤◌, List, length, map, get_or, inl, inr, refl, sym, ◌∙◌, subst, arith}
use Rattle.std.proofs.lemmas.Bool.{cases_lt}
use Rattle.graph_model.specs.declared.edge.Edge.{Edge}
use Rattle.graph_model.specs.declared.job.Job.{Job}
use Rattle.graph_model.specs.Jobs.{IsWellFormedJob}
use Rattle.graph_model.specs.Programs.{rules_of}
use Rattle.ports.specs.Disk.{DiskState, IsDisk, InEveryImage}
use Rattle.ports.specs.Stops.{AreImages}
use Rattle.store_model.specs.Heads.{front, IsOpenGraph}
use Rattle.store_model.specs.Graphs.{edge_chunks, graph, graph_with}
use Rattle.store_model.specs.Kept.{device, HasRound, IsValuesOf, IsPrepared, IsWholeStore, StoreOf, IsEverywhere}
use Rattle.store_model.proofs.Growing.{length-graph}
use Rattle.store_checks.specs.Causes.{Tell}
use Rattle.restart.proofs.RoundsOfJobs.{reached_few}
use Rattle.round_loop.specs.Kept.{Holds, HasStood}
use Rattle.list_moves.proofs.Desks.{some_of}
use Rattle.store_rounds.specs.Images.{AreSettledAs, IsStopOfEach}
use Rattle.store_rounds.specs.Going.{LeaveRounds}
use Rattle.store_rounds.proofs.Places.{tuple_with, told_images, are_images}
use Rattle.store_rounds.proofs.SameRounds.{held_by_run}
use Rattle.store_rounds.proofs.Left.{left_at, all_left, before_is}

graph_open : (job : Job) (edges : List Edge) (e : ℕ) → IsOpenGraph (graph job edges e)
unfolding graph_with front
graph_open job edges e = record { whole = omega (arith, length-graph 165 job e (edge_chunks job edges)); gate = refl }

-- **The graph devices of a whole store are open.**
pub whole_open : (job : Job) (edges : List Edge) (graphs values : List (List ℕ)) → IsWholeStore job edges graphs values → IsPrepared graphs
whole_open job edges graphs values whole e below = subst IsOpenGraph (sym (whole.graphs_are e (omega (arith, below, whole.graphs_many)))) (graph_open job edges e)

module _ {D : Type 0} (state : D → DiskState) (job : Job) (edges : List Edge) (number first last b : ℕ) (old new : List D) (stopped : List (List ℕ)) (leave : LeaveRounds state job edges number first last old new) (within : b ≤ last)
    (stop : IsStopOfEach state b old new stopped) where
  -- a whole store, with other images of its values devices
  module _ (lawful : (d : D) → IsDisk (state d)) (told graphs : List (List ℕ)) (tell : Tell state old told) (stores : (images : List (List ℕ)) → AreImages (map state old) images → StoreOf job edges graphs images)
      (whole : IsWholeStore job edges graphs told) where
    each_whole : (images : List (List ℕ)) → StoreOf job edges graphs images → IsWholeStore job edges graphs images
    each_whole images (inl shut) = absurd (shut.2 (whole_open job edges graphs told whole shut.0 shut.1))
    each_whole images (inr is) = is

    many : length old ≡ job.engines
    many = sym tell.many ∙ whole.values_many

    each_image : (e : ℕ) (d : D) → e < job.engines → InEveryImage (state (get_or old e d)) (IsValuesOf job edges e)
    each_image e d below c image =
        let tuple = tuple_with state old told tell.many (told_images state lawful old told tell) e d (omega (arith, below, many)) c image in
        subst (IsValuesOf job edges e) tuple.2 ((each_whole tuple.0 (stores tuple.0 tuple.1)).values_are e below)

    whole_at_stop : IsWholeStore job edges graphs stopped
    whole_at_stop = record {
      graphs_many = whole.graphs_many;
      values_many = stop.many ∙ many;
      graphs_are = whole.graphs_are;
      values_are = all_left state job edges number first last b old new stopped many each_image leave within stop;
    }

  -- **Where every tuple of images is a store of the job, so is that of the stop.**
  pub store_at_stop : ((d : D) → IsDisk (state d)) → (told graphs : List (List ℕ)) → Tell state old told → ((images : List (List ℕ)) → AreImages (map state old) images → StoreOf job edges graphs images) → StoreOf job edges graphs stopped
  store_at_stop lawful told graphs tell stores = by_told (stores told (are_images state old told tell.many (told_images state lawful old told tell)))
    where
      by_told : StoreOf job edges graphs told → StoreOf job edges graphs stopped
      by_told (inl shut) = inl shut
      by_told (inr whole) = inr (whole_at_stop lawful told graphs tell stores whole)

module _ {D : Type 0} (state : D → DiskState) (job : Job) (edges : List Edge) (number round last b : ℕ) (old new : List D) (told stopped : List (List ℕ)) (well : IsWellFormedJob job) (many : length old ≡ job.engines)
    (settled : AreSettledAs state old told) (are : (e : ℕ) → e < job.engines → IsValuesOf job edges e (device told e)) (found : IsEverywhere job edges told round)
    (leave : LeaveRounds state job edges number (round + 1) last old new) (within : b ≤ last) (end : last ≤ number + 2 ^ 63) (stop : IsStopOfEach state b old new stopped) where
  at_start : (P : List ℕ → Type 0) (e : ℕ) (d : D) → e < job.engines → P (device told e) → InEveryImage (state (get_or old e d)) P
  at_start P e d below p c image = subst P (sym (settled.each e d (omega (arith, below, many)) c image)) p

  some_device : (e : ℕ) → e < job.engines → D
  some_device e below = some_of old e (omega (arith, below, many))

  few : round ≤ 1000000
  few = reached_few job edges round well (found 0 (omega (arith, well.engines.0))).reached

  -- before the first round that is made, the devices are as they were
  not_begun : b ≤ number → IsEverywhere job edges stopped round
  not_begun early e below =
      let d : D = some_device e below in
      at_start (λ c. HasRound job edges e c round) e d below (found e below) (device stopped e)
      ((left_at state job edges number (round + 1) last b old new stopped many leave within stop e d below).at_first early)

  -- in a later beat the round before the one that is made stands
  begun : number < b → IsEverywhere job edges stopped (round + (b - number) - 1)
  begun later e below =
      let d : D = some_device e below in
      let stood : HasStood (rules_of job.program) job edges (round + 1) (round + (b - number) - 1) e (state (get_or old e d)) =
      λ before. let same : round ≡ round + (b - number) - 1 = omega (arith, later, before) in
      at_start (Holds (rules_of job.program) job edges (round + (b - number) - 1) e) e d below (held_by_run job edges e (round + (b - number) - 1) (device told e) (subst (HasRound job edges e (device told e)) same (found e below))) in
      before_is job edges e number (round + 1) b (state (get_or old e d)) (device stopped e) (at_start (IsValuesOf job edges e) e d below (are e below))
      (left_at state job edges number (round + 1) last b old new stopped many leave within stop e d below)
      (round + (b - number)) well (omega (arith, later)) (omega (arith, later)) (omega (arith, few, within, end)) (omega (arith, later)) stood

  -- **No stop loses the round that was found.**
  pub not_lost : (later : ℕ) × (round ≤ later) × IsEverywhere job edges stopped later
  not_lost = elim (cases_lt number b) [
    | inl later ↦ (round + (b - number) - 1, omega (arith, later), begun later)
    | inr early ↦ (round, omega arith, not_begun early)
  ]
