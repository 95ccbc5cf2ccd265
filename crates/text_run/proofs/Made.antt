-- A store that was made, as the rounds find it.
use Rattle.std.proofs.Common.{◌≡◌, ◌∙◌, ℕ, ◌<◌, List, [], length, get_or, Option, Some, IfSome, Ok, ap, subst, arith}
use Rattle.std.proofs.lemmas.List.Elements.{All-weaker}
use Rattle.ports.specs.Disk.{DiskState}
use Rattle.graph_model.specs.declared.edge.Edge.{Edge}
use Rattle.graph_model.specs.declared.job.Job.{Job}
use Rattle.graph_model.specs.Jobs.{IsWellFormedJob}
use Rattle.graph_model.specs.Programs.{rules_of}
use Rattle.graph_model.specs.Answer.{edges}
use Rattle.partitioner.specs.Splits.{split_for}
use Rattle.partitioner.proofs.Made.{is_split_for}
use Rattle.chunk_cursor.specs.declared.view.View.{View}
use Rattle.chunk_file.specs.declared.index.Place.{Place}
use Rattle.store_model.specs.Graphs.{graph}
use Rattle.store_reader.specs.declared.store.Store.{Store}
use Rattle.storage_engine.specs.Preparing.{IsEdgeOfText, IsMadeOf, Prepares}
use Rattle.restart.specs.Storable.{IsEdgeOf, IsStorable}
use Rattle.round_steps.specs.Going.{IsStore}
use Rattle.round_steps.specs.Standing.{HasEdges}
use Rattle.round_loop.specs.declared.run.Start.TheVariants.{Fresh}
use Rattle.round_loop.specs.Kept.{IsGoodStart}
use Rattle.round_loop.specs.Keeping.{IsTold, moment}
use Rattle.store_edges.proofs.Standing.{has_edges as edges_of_store}
use Rattle.store_rounds.specs.Making.{LeaveMade, IsMadeStore}
use Rattle.run_model.specs.Calls.{IsReady, Tells}
use Rattle.text_run.proofs.Prepared.{beats, store_made, graphs_made, values_made, lanes_made, spills_made}

-- a run that makes all rounds has a good start on any devices
pub good_start : {D : Type 0} (state : D → DiskState) (job : Job) (graph : List Edge) (devices : List D) → IsGoodStart (rules_of job.program) job graph state Fresh devices
good_start state job graph devices = record {
  read = λ round changed is. absurd (cc);
  counted = λ round changed is. absurd (cc);
  reached = λ round changed is. absurd (cc);
}

exactly : (told : Option (List ℕ)) (bytes now : List ℕ) → IfSome told (λ read. read ≡ bytes) → told ≡ Some now → told ≡ Some bytes
exactly told bytes now is told_is = told_is ∙ ap Some (subst (λ (x : Option (List ℕ)). IfSome x (λ read. read ≡ bytes)) told_is is)

module _ {D M : Type 0} (state : D → DiskState) (job : Job) (well : IsWellFormedJob job) (second : job.format ≡ 2) (text left : Option (List ℕ)) (number now : ℕ) (read : Type 0) (old new : Store D M) (index : List (List Place))
    (prepares : Prepares state job text left number now read old.graphs.items new.graphs.items old.values.items new.values.items (Ok index)) (lanes_kept : new.lanes ≡ old.lanes) (spills_kept : new.spills ≡ old.spills)
    (meters : List M) (seat : View) (ready : IsReady state job.engines (moment old meters seat number)) where
  -- the edges that were given
  pub given : List Edge
  given = prepares.made.0

  pub is_made : IsMadeOf state job text index new.graphs.items prepares.made.0
  is_made = prepares.made.1

  -- they are those of the text
  pub given_are : (told : List ℕ) → text ≡ Some told → prepares.made.0 ≡ edges job told
  given_are told is = subst (λ (x : Option (List ℕ)). IfSome x (λ bytes. prepares.made.0 ≡ edges job bytes)) is prepares.made.1.of_text

  pub storable : IsStorable job prepares.made.0
  storable = record {
    job_is = well;
    edges_are = All-weaker (IsEdgeOfText job) (IsEdgeOf job) (λ edge is. record { src = is.0; dst = is.1; weight = is.2; room = λ first. absurd (omega (arith, first, second)) }) prepares.made.0 prepares.made.1.within;
    few = prepares.made.1.few;
  }

  -- the room that rounds are made in
  pub is_store : IsStore state (split_for job) now new
  is_store = record {
    graphs = let is = new.graphs.ok.0 in omega (arith, is, prepares.many.0);
    values = values_made state job text left number now read old new (Ok index) prepares lanes_kept spills_kept meters seat ready;
    sizes = λ e d below. (prepares.blank e d below).size;
    lanes = lanes_made state job text left number now read old new (Ok index) prepares lanes_kept spills_kept meters seat ready;
    spills = spills_made state job text left number now read old new (Ok index) prepares lanes_kept spills_kept meters seat ready;
  }

  -- what a stop leaves of the making, and what was made
  pub leave_made : LeaveMade state job text number now old.graphs.items new.graphs.items old.values.items new.values.items
  leave_made = record { of_graphs = prepares.any_moment; of_values = prepares.any_moment_of_values }

  pub made_store : IsMadeStore state job prepares.made.0 now new.graphs.items new.values.items
  made_store = record {
    whole = λ e d below. (prepares.made.1.devices e d below).images;
    blank = λ e d below. (prepares.blank e d below).blank;
    graph_beats = (graphs_made state job text left number now read old new (Ok index) prepares lanes_kept spills_kept meters seat ready).beats;
    value_beats = (values_made state job text left number now read old new (Ok index) prepares lanes_kept spills_kept meters seat ready).beats;
  }

  -- Where the devices tell their bytes.
  module _ (told : List (List ℕ)) (tells : Tells state old told) where
    graph_told : (e : ℕ) (d : D) → e < job.engines → (state (get_or new.graphs.items e d)).bytes ≡ Some (graph job prepares.made.0 e)
    graph_told e d below =
        let before = tells.graphs.told e d (omega (arith, below, ready.graphs.all)) in
        let after = ((store_made state job text left number now read old new (Ok index) prepares lanes_kept spills_kept meters seat ready).graphs.each e d (omega (arith, below, ready.graphs.all))).told (get_or told e []) before in
        exactly (state (get_or new.graphs.items e d)).bytes (graph job prepares.made.0 e) after.0 (prepares.made.1.devices e d below).read after.1

    pub has_edges : HasEdges state job (split_for job) index new.graphs.items prepares.made.0
    has_edges = edges_of_store state job prepares.made.0 new.graphs.items prepares.many.0 graph_told storable (split_for job) (is_split_for job) index prepares.made.1.places

    pub told_made : IsTold state new
    told_made =
        let later = store_made state job text left number now read old new (Ok index) prepares lanes_kept spills_kept meters seat ready in
        record {
          values = λ e d below.
              let here : e < length old.values.items = omega (arith, below, later.values.many) in
              let before = tells.others.values e d here in
              (later.values.each e d here).told before.0 before.1;
          lanes = λ w row below e d within.
              let row_here : w < length old.lanes.items = omega (arith, below, later.lanes.many) in
              let same = later.lanes.each w row row_here in
              let here : e < length (get_or old.lanes.items w row).items = omega (arith, within, same.many) in
              let before = tells.others.lanes w row row_here e d here in
              (same.each e d here).told before.0 before.1;
          spills = λ e d below.
              let here : e < length old.spills.items = omega (arith, below, later.spills.many) in
              let before = tells.others.spills e d here in
              (later.spills.each e d here).told before.0 before.1;
        }
