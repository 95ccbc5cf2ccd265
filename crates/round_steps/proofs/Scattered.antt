-- A scatter epoch, in words of the store and of the job.
use Rattle.std.proofs.Common.{◌≡◌, ◌≢◌, ◌⊎◌, inl, inr, ℕ, ◌-◌, ◌<◌, ◌≤◌, Bool, if◌then◌else◌, Option, Some, None, List, length, map, sym, ◌∙◌, ap, subst, arith}
use Rattle.std.specs.Prelude.{Vec}
use Rattle.std.specs.Global.{Global}
use Rattle.graph_model.specs.declared.edge.Edge.{Edge}
use Rattle.graph_model.specs.Programs.{Rules}
use Rattle.graph_model.specs.Rounds.{values}
use Rattle.gather_laws.specs.Laws.{HaveRoom}
use Rattle.ports.specs.Disk.{DiskState}
use Rattle.ports.specs.Faults.{Rose}
use Rattle.ports.specs.Devices.{OneRose, OneRowRose, OneCountRose}
use Rattle.chunk_cursor.specs.declared.view.View.{View}
use Rattle.chunk_model.specs.Layout.{edge_layout}
use Rattle.chunk_file.specs.declared.index.Place.{Place}
use Rattle.phase_model.specs.Lanes.{all_updates}
use Rattle.phase_model.specs.Shelves.{records_at}
use Rattle.store_model.specs.Slots.{slot_of}
use Rattle.store_reader.specs.declared.store.Outcome.{Outcome}
use Rattle.store_reader.specs.declared.store.Outcome.TheVariants.{Done, DiskFault, Damaged, Memory}
use Rattle.store_reader.specs.Indexed.{HasRecords}
use Rattle.scatter_phase.specs.declared.desk.ScatterContext.{ScatterContext}
use Rattle.scatter_phase.specs.Phases.{MayStopBy}
use Rattle.store_reader.specs.Values.{HoldValues, HoldBefore}
use Rattle.worker_outcomes.specs.declared.epoch_end.EpochEnd.{EpochEnd}
use Rattle.scatter_epoch.specs.Scattering.{HaveScattered, RoseOfOne}
use Rattle.epoch_laws.specs.Phases.{edge_shelf, sending_in, sent_in}
use Rattle.list_moves.proofs.Desks.{some_of}
use Rattle.round_steps.specs.Rounds.{earlier_values}
use Rattle.round_steps.specs.Standing.{IsSound, HasEdges}
use Rattle.round_steps.specs.Updates.{Scatters}
use Rattle.round_steps.proofs.Counts.{at_any}
use Rattle.round_steps.proofs.Holding.{hold_last, hold_earlier}

module _ {D M : Type 0} (state : D → DiskState) (faults : M → ℕ) (engines : ℕ) (meters meters' : List M) (rows rows' : List (Vec D Global)) where
  pub row_rose : length meters ≡ engines → length meters' ≡ engines → length rows ≡ engines → length rows' ≡ engines → RoseOfOne state faults engines meters meters' rows rows' → OneCountRose faults meters meters' ⊎ OneRowRose state rows rows'
  row_rose many many' rows_many rows_many' one =
      let w : ℕ = one.0 in
      let below : w < engines = one.1 in
      let m : M = some_of meters w (omega arith) in
      let row : Vec D Global = some_of rows w (omega arith) in
      elim (one.2 m row) as (λ _. OneCountRose faults meters meters' ⊎ OneRowRose state rows rows') [
        | inl meter ↦ inl (w, omega arith, λ e. at_any (λ x y. Rose (faults x) (faults y)) meters meters' w m e (omega arith) (omega arith) meter)
        | inr lane ↦ inr (w, omega arith, λ e. at_any (λ (x y : Vec D Global). OneRose state x.items y.items) rows rows' w row e (omega arith) (omega arith) lane)
      ]

module _ {P D G M : Type 0} (rules : P → Rules) (state : D → DiskState) (faults : M → ℕ) (c : ScatterContext P D G M) (before after : View) (meters meters' : List M) (rows rows' : List (Vec D Global)) (index : List (List Place)) (result : EpochEnd)
    (have : HaveScattered rules state faults c before after meters meters' rows rows' index result) where
  -- edges send without damage where all chunks stand
  pub scatters_soundly : (result.outcome ≢ Done → MayStopBy rules state c result.outcome) → (records : ℕ → ℕ → List Edge) → HasRecords state (edge_layout c.serving.job.now.format) c.serving records → IsSound result.outcome
  scatters_soundly why records stand = of result.outcome why
    where
      of : (outcome : Outcome) → (outcome ≢ Done → MayStopBy rules state c outcome) → IsSound outcome
      of Done why = tt
      of DiskFault why = tt
      of (Damaged part engine place) why = (why (λ is. cc)).1 records stand
      of Memory why = tt

  -- **What was sent is what the definition says.**
  pub scatters : (graphs : List D) (round : ℕ) (changed_only : Bool) → 1 ≤ round → c.slot ≡ 1 - slot_of round → c.before ≡ (if changed_only then Some (slot_of round) else None)
      → c.serving.split.now.vertices ≡ c.serving.job.now.vertices → length c.values.now ≡ c.serving.split.now.engines → 1 ≤ c.serving.split.now.engines
      → ((edges : List Edge) → HasEdges state c.serving.job.now c.serving.split.now c.serving.index.now graphs edges → HasRecords state (edge_layout c.serving.job.now.format) c.serving (records_at (edge_shelf c.serving.job.now edges)))
      → ((edges : List Edge) → HasEdges state c.serving.job.now c.serving.split.now c.serving.index.now graphs edges → (r : ℕ) → HaveRoom (values (rules c.program.now) c.serving.split.now.vertices edges r))
      → Scatters M state (rules c.program.now) c.serving.job.now c.serving.split.now c.serving.index.now graphs c.values.now round changed_only c.epoch rows' index (result.outcome ≡ Done) before after result.claims result.admitted
  scatters graphs round changed_only later slot_is before_is same many some as_served fit = record {
    epoch = have.epoch;
    made = have.made;
    has_sent = λ done.
        let sent = have.sent done in
        record {
          sent = sent.sent;
          lens = sent.lens;
          served = sent.served;
          stand = sent.stand;
          are = λ edges has stand.
              let n : ℕ = c.serving.split.now.vertices in
              ap (all_updates c.serving.job.now c.epoch 0)
              (sent.are (records_at (edge_shelf c.serving.job.now edges)) (as_served edges has)
              (values (rules c.program.now) n edges (round - 1))
              (subst (λ (s : ℕ). HoldValues state c.serving.split.now c.values.now s (values (rules c.program.now) n edges (round - 1))) (sym slot_is)
              (hold_last state c.serving.split.now c.values.now many some (rules c.program.now) edges round (fit edges has) changed_only later stand))
              (earlier_values (rules c.program.now) n edges round changed_only)
              (subst (λ (s : Option ℕ). HoldBefore state c.serving.split.now c.values.now s (earlier_values (rules c.program.now) n edges round changed_only)) (sym before_is)
              (hold_earlier state c.serving.split.now c.values.now many some (rules c.program.now) edges round (fit edges has) changed_only stand)))
              ∙ ap (λ (k : ℕ). all_updates c.serving.job.now c.epoch 0
              (map (sent_in c.serving.job.now edges (sending_in (rules c.program.now) k edges round (earlier_values (rules c.program.now) k edges round changed_only))) have.epoch.lists)) same;
        };
  }
