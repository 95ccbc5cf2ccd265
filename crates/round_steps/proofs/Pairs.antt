-- The two epochs of a round together.
use Rattle.std.proofs.Common.{◌≡◌, ℕ, zero, suc, ◌+◌, ◌-◌, ◌<◌, ◌≤◌, Bool, true, false, Option, List, [], ◌∷◌, length, map, refl, sym, ◌∙◌, ap, subst, arith, slice_index_or}
use Rattle.std.specs.Prelude.{Vec}
use Rattle.std.specs.Global.{Global}
use Rattle.std.proofs.lemmas.List.Elements.{All-nil, All-cons}
use Rattle.graph_model.specs.declared.edge.Edge.{Edge}
use Rattle.graph_model.specs.declared.value.Value.{Value}
use Rattle.graph_model.specs.declared.value.Update.{Update}
use Rattle.graph_model.specs.declared.job.Job.{Job}
use Rattle.graph_model.specs.Jobs.{IsWellFormedJob}
use Rattle.graph_model.specs.Programs.{Rules}
use Rattle.graph_model.specs.Rounds.{IsWithinGraph, of_vertices, value_at, values}
use Rattle.partitioner.specs.declared.split.Split.{Split}
use Rattle.ports.specs.Disk.{DiskState}
use Rattle.chunk_object.specs.Epochs.{Epoch, TakesEachOnce}
use Rattle.chunk_object.specs.History.{most_chunks}
use Rattle.chunk_cursor.specs.declared.view.View.{View}
use Rattle.chunk_file.specs.declared.index.Place.{Place}
use Rattle.phase_model.specs.JobTerms.{terms_of}
use Rattle.phase_model.specs.Shelves as shelves
use Rattle.replica_merge.specs.declared.replicas.Replicas.{Replicas}
use Rattle.store_reader.specs.Indexed.{lens_of}
use Rattle.store_reader.specs.declared.store.Store.{Store}
use Rattle.epoch_seats.specs.Made.{HasMadeEpoch}
use Rattle.epoch_laws.specs.Phases.{MaySend, Opens, edge_shelf, gathered, merged_over, sending_in, updates_of}
use Rattle.apply_round.specs.Made.{made}
use Rattle.scatter_epoch.specs.Scattering.{RowsGoOn}
use Rattle.scatter_epoch.specs.Sent.{RowsTell}
use Rattle.round_steps.specs.Epochs.{IsWhole, HasFewChunks}
use Rattle.round_steps.specs.Going.{Tell}
use Rattle.round_steps.specs.Standing.{IsBefore}
use Rattle.round_steps.specs.Rounds.{MakesEpochs, HasSums, earlier_values}
use Rattle.round_steps.specs.Updates.{HasSent, Stand, IsIdle, Gathers}
use Rattle.round_steps.proofs.Through.{through_one, through_two}
use Rattle.round_steps.proofs.Begun.{whole_one, few_of}
use Rattle.round_steps.proofs.Counts.{tell_still}

made_later : (rules : Rules) (n round : ℕ) (numbers : ℕ → ℕ) (before : List Value) → 1 ≤ round → made rules n round numbers before ≡ of_vertices n (λ v. rules.next (value_at before v) (numbers v))
made_later rules n zero numbers before later = absurd (omega arith)
made_later rules n (suc round) numbers before later = refl

may_send : (rules : Rules) (n : ℕ) (edges : List Edge) (round : ℕ) (changed_only : Bool) → (changed_only ≡ true → (rules.absorbs ≡ true) × (2 ≤ round)) → MaySend rules n edges round (earlier_values rules n edges round changed_only)
may_send rules n edges round true may = ((may refl).0, (may refl).1, refl)
may_send rules n edges round false may = tt

-- the law on the values of a round
abbrev pub NextsAre : Rules → Type 0
NextsAre rules = (job : Job) (edges : List Edge) → IsWellFormedJob job → IsWithinGraph job.vertices edges
    → (round : ℕ) (before : Option (List Value)) → 1 ≤ round → MaySend rules job.vertices edges round before → (t : ℕ) (scatter gather : Epoch)
    → Opens (edge_shelf job edges) scatter → TakesEachOnce (terms_of job) scatter
    → Opens (updates_of job edges (sending_in rules job.vertices edges round before) t scatter) gather → TakesEachOnce (terms_of job) gather
    → values rules job.vertices edges round ≡ of_vertices job.vertices (λ vertex. rules.next (value_at (values rules job.vertices edges (round - 1)) vertex)
    (merged_over rules (gathered rules (updates_of job edges (sending_in rules job.vertices edges round before) t scatter) vertex) gather))

module _ {D M : Type 0} (state : D → DiskState) (rules : Rules) (job : Job) (split : Split) (index : List (List Place)) (round : ℕ) (changed_only : Bool) (t : ℕ) (store : Store D M) (few : (cursor : ℕ) → lens_of index cursor ≤ most_chunks) where
  -- the first epoch alone
  pub first_alone : (done through : Type 0) (before after : View) (took helped : ℕ) (scatter : Epoch) → HasMadeEpoch (terms_of job) (lens_of index) through before after took helped scatter → (done → ⊥)
      → MakesEpochs state rules job split index round changed_only t store done before after took helped
  first_alone done through before after took helped scatter made not_done = record {
    epochs = scatter ∷ [];
    through = through_one (terms_of job) (lens_of index) through before after took helped scatter made;
    are = made.lens_are;
    fronts = made.begins;
    bounds = All-cons HasFewChunks scatter [] (few_of (lens_of index) scatter made.lens_are few) (All-nil HasFewChunks);
    all = λ is_done. absurd (not_done is_done);
    some = omega arith;
  }

  pub then_idle : (done through : Type 0) (before mid after : View) (took helped took' helped' took_all helped_all : ℕ) (scatter : Epoch) → HasMadeEpoch (terms_of job) (lens_of index) through before mid took helped scatter
      → IsIdle done mid after took' helped' → took_all ≡ took + took' → helped_all ≡ helped + helped'
      → MakesEpochs state rules job split index round changed_only t store done before after took_all helped_all
  then_idle done through before mid after took helped took' helped' took_all helped_all scatter made idle took_is helped_is =
      let none = idle.none in
      let same_took : took ≡ took_all = omega arith in
      let same_helped : helped ≡ helped_all = omega arith in
      first_alone done through before after took_all helped_all scatter
      (subst (λ (v : View). HasMadeEpoch (terms_of job) (lens_of index) through before v took_all helped_all scatter) (sym idle.same)
      (subst (λ (k : ℕ). HasMadeEpoch (terms_of job) (lens_of index) through before mid k helped_all scatter) same_took
      (subst (λ (k : ℕ). HasMadeEpoch (terms_of job) (lens_of index) through before mid took k scatter) same_helped made)))
      idle.not_done

  module _ (rows : List (Vec D Global)) (updates : List (List Place)) (spills spills' : List D) (replicas : List Replicas) (scatter : Epoch)
      (sent : HasSent M state rules job split index store.graphs.items store.values.items round changed_only t rows updates scatter) where
    -- the gather epoch opens what was sent
    opens_sent : (done : Type 0) (mid after : View) (took helped : ℕ) (has : Gathers M state rules job split rows updates spills replicas spills' done mid after took helped) → (edges : List Edge)
        → IsBefore state rules job split index edges round changed_only store
        → Opens (updates_of job edges (sending_in rules job.vertices edges round (earlier_values rules job.vertices edges round changed_only)) t scatter) has.epoch
    opens_sent done mid after took helped has edges stands cursor =
        ap (λ (lens : ℕ → ℕ). lens cursor) has.made.lens_are ∙ sent.lens cursor
        ∙ ap (λ (shelf : shelves.Shelf _). shelves.lens_of shelf cursor) (sent.are edges stands.has_edges stands.values_stand)

    pub both : (done through : Type 0) (before mid after : View) (took helped took' helped' took_all helped_all : ℕ) → HasMadeEpoch (terms_of job) (lens_of index) through before mid took helped scatter → through
        → Gathers M state rules job split rows updates spills replicas spills' done mid after took' helped' → took_all ≡ took + took' → helped_all ≡ helped + helped'
        → MakesEpochs state rules job split index round changed_only t store done before after took_all helped_all
    both done through before mid after took helped took' helped' took_all helped_all made is_through has took_is helped_is =
        let whole : IsWhole (terms_of job) scatter = whole_one (terms_of job) (lens_of index) through before mid took helped scatter made is_through in
        record {
          epochs = scatter ∷ has.epoch ∷ [];
          through = through_two (terms_of job) before mid after took helped took' helped' took_all helped_all scatter has.epoch
              (through_one (terms_of job) (lens_of index) through before mid took helped scatter made)
              (through_one (terms_of job) (lens_of updates) done mid after took' helped' has.epoch has.made)
              took_is helped_is;
          are = (made.lens_are, λ edges stands. opens_sent done mid after took' helped' has edges stands);
          fronts = (whole, has.made.begins);
          bounds = All-cons HasFewChunks scatter (has.epoch ∷ []) (few_of (lens_of index) scatter made.lens_are few)
              (All-cons HasFewChunks has.epoch [] (few_of (lens_of updates) has.epoch has.made.lens_are has.bounds) (All-nil HasFewChunks));
          all = λ is_done. (
            All-cons (IsWhole (terms_of job)) scatter (has.epoch ∷ []) whole
                (All-cons (IsWhole (terms_of job)) has.epoch [] (whole_one (terms_of job) (lens_of updates) done mid after took' helped' has.epoch has.made is_done) (All-nil (IsWhole (terms_of job)))),
            refl,
          );
          some = omega arith;
        }

    -- **The values of the round are made of what all workers have gathered.**
    pub sums_of_round : NextsAre rules → IsWellFormedJob job → split.vertices ≡ job.vertices → 1 ≤ round → (done through : Type 0) (before mid after : View) (took helped took' helped' : ℕ)
        → HasMadeEpoch (terms_of job) (lens_of index) through before mid took helped scatter → through → Gathers M state rules job split rows updates spills replicas spills' done mid after took' helped' → done
        → (edges : List Edge) → IsBefore state rules job split index edges round changed_only store → RowsTell state rows → Tell state spills
        → HasSums rules split edges round replicas (map (λ d. (state d).bytes) spills')
    sums_of_round law well same later done through before mid after took helped took' helped' opened is_through has is_done edges stands rows_tell tell =
        let before_values : Option (List Value) = earlier_values rules job.vertices edges round changed_only in
        let shelf : shelves.Shelf _ = updates_of job edges (sending_in rules job.vertices edges round before_values) t scatter in
        let numbers : ℕ → ℕ = λ v. merged_over rules (gathered rules shelf v) has.epoch in
        let next : values rules job.vertices edges round ≡ of_vertices job.vertices (λ v. rules.next (value_at (values rules job.vertices edges (round - 1)) v) (numbers v)) =
        law job edges well stands.has_edges.within round before_values later (may_send rules job.vertices edges round changed_only stands.may) t scatter has.epoch
        (λ cursor. ap (λ (lens : ℕ → ℕ). lens cursor) opened.lens_are ∙ stands.has_edges.lens cursor)
        (opened.once is_through)
        (opens_sent done mid after took' helped' has edges stands)
        (has.made.once is_done) in
        record {
          numbers = numbers;
          merged_are = has.merged_are is_done shelf
              (subst (Stand M state job split rows updates) (sent.are edges stands.has_edges stands.values_stand) (sent.stand rows_tell))
              tell;
          makes = subst (λ (n : ℕ). made rules n round numbers (values rules n edges (round - 1)) ≡ values rules n edges round) (sym same)
              (made_later rules job.vertices round numbers (values rules job.vertices edges (round - 1)) later ∙ sym next);
        }

module _ {D : Type 0} (state : D → DiskState) where
  pub rows_tell_still : (number : ℕ) (old new : List (Vec D Global)) → RowsGoOn state number old new → RowsTell state old → RowsTell state new
  rows_tell_still number old new goes_on tell w row below =
      let within : w < length old = omega (arith, below, goes_on.many) in
      tell_still state number (slice_index_or old w row).items (slice_index_or new w row).items (goes_on.each w row within) (tell w row within)

  pub sent_from : (M : Type 0) (rules : Rules) (job : Job) (split : Split) (index : List (List Place)) (gs gs' vs vs' : List D) (round : ℕ) (changed_only : Bool) (t : ℕ) (rows : List (Vec D Global)) (updates : List (List Place)) (epoch : Epoch) → gs ≡ gs' → vs ≡ vs'
      → HasSent M state rules job split index gs vs round changed_only t rows updates epoch → HasSent M state rules job split index gs' vs' round changed_only t rows updates epoch
  sent_from M rules job split index gs gs' vs vs' round changed_only t rows updates epoch same same' sent =
      subst (λ (xs : List D). HasSent M state rules job split index xs vs' round changed_only t rows updates epoch) same
      (subst (λ (xs : List D). HasSent M state rules job split index gs xs round changed_only t rows updates epoch) same' sent)

  pub gathers_from : (M : Type 0) (rules : Rules) (job : Job) (split : Split) (rows rows' : List (Vec D Global)) (updates : List (List Place)) (spills : List D) (replicas : List Replicas) (spills' : List D) (done : Type 0) (before after : View) (took helped : ℕ) → rows ≡ rows'
      → Gathers M state rules job split rows updates spills replicas spills' done before after took helped → Gathers M state rules job split rows' updates spills replicas spills' done before after took helped
  gathers_from M rules job split rows rows' updates spills replicas spills' done before after took helped same has =
      subst (λ (xs : List (Vec D Global)). Gathers M state rules job split xs updates spills replicas spills' done before after took helped) same has

  pub stand_from : (M : Type 0) (job : Job) (split : Split) (rows rows' : List (Vec D Global)) (updates : List (List Place)) (shelf : shelves.Shelf Update) → rows ≡ rows' → Stand M state job split rows updates shelf → Stand M state job split rows' updates shelf
  stand_from M job split rows rows' updates shelf same stand = subst (λ (xs : List (Vec D Global)). Stand M state job split xs updates shelf) same stand
