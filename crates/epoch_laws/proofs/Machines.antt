-- The workers' calls of an epoch and the pure machine from its start.
use Rattle.std.proofs.Common.{◌≡◌, ℕ, ◌<◌, ◌≤◌, ◌==◌, nat_lt, Bool, true, false, List, [], ◌∷◌, map, filter, refl, sym, ◌∙◌, ap, subst, arith}
use Rattle.std.specs.List.{All}
use Rattle.std.proofs.lemmas.Bool.{cond-true, eqb-true, eqb-false, lt-ltb}
use Rattle.std.proofs.lemmas.List.Elements.{All-nil, All-cons, All-head, All-tail}
use Rattle.graph_model.specs.declared.value.Update.{Update}
use Rattle.graph_model.specs.Programs.{Rules}
use Rattle.partitioner.specs.declared.split.Split.{Split}
use Rattle.chunk_object.specs.declared.call.Call.{Call}
use Rattle.chunk_object.specs.declared.call.Entry.{Entry}
use Rattle.chunk_object.specs.Object.{ChunkObject}
use Rattle.chunk_object.specs.Epochs.{Terms, Epoch, list_of}
use Rattle.chunk_object.specs.Duty.{is_on, partition_of, MeetsDuty}
use Rattle.phase_model.specs.Shelves.{Shelf, records_at}
use Rattle.phase_model.specs.Taken.{records_taken}
use Rattle.phase_model.specs.Sums.{values_to}
use Rattle.phase_core.specs.Machine.{Machine, fresh}
use Rattle.phase_core.specs.Runs.{ran, replies, reply_of}
use Rattle.phase_core.proofs.Taking.{own_sums}
use Rattle.epoch_laws.specs.Phases.{Opens, gathered}
use Rattle.epoch_laws.specs.Turns.{no_rights, InTurn, calls_of_worker, event_at, EpochHistory}
use Rattle.epoch_laws.proofs.Events.{Ties, IsOurs, Turns, same_run, calls_own, calls_other}
use Rattle.epoch_laws.proofs.Duties.{dutiful_turn, dutiful_parts}
use Rattle.std.specs.List.{fold}

-- what holds of each call of each worker holds of each entry
of_entries : (P : Call → Type 0) (workers : ℕ) (h : List Entry) → All (λ (e : Entry). e.worker < workers) h → ((x : ℕ) → x < workers → All P (calls_of_worker x h)) → All (λ (e : Entry). (e.worker < workers) × P e.call) h
of_entries P workers [] below all = All-nil (λ (e : Entry). (e.worker < workers) × P e.call)
of_entries P workers (e ∷ h) below all =
    let here : e.worker < workers = All-head (λ (e : Entry). e.worker < workers) e h below in
    let first : P e.call = All-head P e.call (calls_of_worker e.worker h) (subst (All P) (calls_own e h e.worker refl) (all e.worker here)) in
    All-cons (λ (e : Entry). (e.worker < workers) × P e.call) e h (here, first)
    (of_entries P workers h (All-tail (λ (e : Entry). e.worker < workers) e h below) (λ x inside. rest x (e.worker == x) refl (all x inside)))
  where
    rest : (x : ℕ) (own : Bool) → e.worker == x ≡ own → All P (calls_of_worker x (e ∷ h)) → All P (calls_of_worker x h)
    rest x true is each = All-tail P e.call (calls_of_worker x h) (subst (All P) (calls_own e h x (eqb-true e.worker x is)) each)
    rest x false is each = subst (All P) (calls_other e h x (eqb-false e.worker x is)) each

module _ (rules : Rules) (terms : Terms) (epoch : Epoch) (few : terms.partitions ≤ 64) (duty : MeetsDuty terms epoch) (split : Split) (engines : split.engines ≡ terms.engines) (parts : split.parts ≡ terms.partitions)
    (chunks : Shelf Update) (opens : Opens chunks epoch) (o : ChunkObject) (history : List Entry) (are : EpochHistory terms epoch o history) where
  abbrev start : Machine
  start = fresh split rules.unit chunks

  tied : Ties terms start o (λ worker partition. no_rights)
  tied = record {
    engines = engines;
    parts = parts;
    next = λ cursor theirs. sym (are.opened.next cursor theirs);
    len = λ cursor theirs. sym (are.opened.len cursor theirs ∙ opens cursor);
    heads = λ partition below. cond-true (nat_lt partition split.parts) 1 0 (lt-ltb partition split.parts (omega (arith, below, parts))) ∙ sym (are.opened.heads partition below);
    admitted = λ worker partition. refl;
    refused = λ worker cursor. refl;
    active = λ worker. refl;
  }

  ours : All (IsOurs rules terms) history
  ours = of_entries (λ c. partition_of c < terms.partitions) terms.engines history are.workers
      (λ x inside. subst (All (λ c. partition_of c < terms.partitions)) (sym (are.lists x inside)) (dutiful_parts terms x (list_of epoch x) (duty.each x inside)))

  turns : Turns rules terms (λ worker partition. no_rights) history
  turns worker partition inside below =
      subst (λ l. InTurn terms worker no_rights (filter (is_on partition) l)) (sym (are.lists worker inside)) (dutiful_turn terms few worker partition below (list_of epoch worker) (duty.each worker inside))

  -- **The machine gives the replies of the history.**
  pub history_replies : replies rules start (map event_at history) ≡ map (λ (e : Entry). reply_of e.call) history
  history_replies = (same_run rules terms history start o (λ worker partition. no_rights) tied ours are.legal turns).0

  -- **And its sums are those of each worker's list.**
  pub history_sums : (worker vertex : ℕ) → worker < terms.engines → (ran rules start (map event_at history)).sums worker vertex ≡ gathered rules chunks vertex (list_of epoch worker)
  history_sums worker vertex inside =
      own_sums rules start (map event_at history) worker vertex
      ∙ ap (λ calls. fold rules.fold rules.unit (values_to vertex (records_taken (records_at chunks) calls)))
      ((same_run rules terms history start o (λ worker partition. no_rights) tied ours are.legal turns).1 worker ∙ are.lists worker inside)
