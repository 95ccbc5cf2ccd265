-- A store that goes on, part by part.
use Rattle.std.proofs.Common.{◌≡◌, inl, ℕ, ◌+◌, ◌<◌, ◌≤◌, Bool, true, false, List, length, map, refl, sym, ◌∙◌, ap, subst, arith, slice_index_or, vec_len}
use Rattle.std.specs.Prelude.{Vec}
use Rattle.std.specs.Global.{Global}
use Rattle.std.specs.List.{All}
use Rattle.graph_model.specs.declared.edge.Edge.{Edge}
use Rattle.graph_model.specs.declared.job.Job.{Job}
use Rattle.graph_model.specs.Programs.{Rules}
use Rattle.partitioner.specs.declared.split.Split.{Split}
use Rattle.ports.specs.Disk.{DiskState, IsDisk, ContinuesUnder}
use Rattle.ports.proofs.Going.{under_same, each_same}
use Rattle.ports.proofs.Stops.{started}
use Rattle.ports.proofs.Told.{as_told_same}
use Rattle.ports.proofs.Rising.{one_rose_before}
use Rattle.ports.specs.Devices.{OneRose, MetersGoOn, AreDevices, AreRows, OneCountRose}
use Rattle.graph_model.specs.Rounds.{values}
use Rattle.chunk_cursor.specs.declared.view.View.{View}
use Rattle.chunk_file.specs.declared.index.Place.{Place}
use Rattle.store_model.specs.Slots.{slot_of}
use Rattle.store_reader.specs.Reading.{own_in}
use Rattle.store_reader.specs.declared.store.Store.{Store}
use Rattle.update_lanes.specs.Lanes.{GoOn}
use Rattle.checkpoint.specs.SlotStates.{SameOther}
use Rattle.replica_merge.specs.declared.replicas.Replicas.{Replicas}
use Rattle.replica_merge.specs.Accumulators.{split_of}
use Rattle.apply_round.specs.Made.{AreMerged}
use Rattle.scatter_epoch.specs.Scattering.{RowsGoOn}
use Rattle.round_steps.specs.Crews.{LieWithin}
use Rattle.round_steps.specs.Going.{KeepsOthers, IsStore}
use Rattle.round_steps.specs.Standing.{StandsBefore, ValuesStand, HasEdges}
use Rattle.round_steps.specs.Rounds.{StoresRound, MakesFirst, MakesEpochs}

module _ {M : Type 0} (faults : M → ℕ) where
  pub meters_same : (meters : List M) → MetersGoOn faults meters meters
  meters_same meters = record { many = refl; later = λ w m below. omega arith }

  pub meters_then : (old mid new : List M) → MetersGoOn faults old mid → MetersGoOn faults mid new → MetersGoOn faults old new
  meters_then old mid new first then = record {
    many = then.many ∙ first.many;
    later = λ w m below. let one = first.later w m below in let two = then.later w m (omega (arith, below, first.many)) in omega (arith, one, two);
  }

  -- a count that rose later rose
  pub meter_rose_later : (old mid new : List M) → MetersGoOn faults old mid → OneCountRose faults mid new → OneCountRose faults old new
  meter_rose_later old mid new first rose = one_rose_before faults old mid new first.many first.later rose

module _ {D : Type 0} (state : D → DiskState) where
  pub go_on_same : (number : ℕ) (devices : List D) → GoOn state number devices devices
  go_on_same number devices = each_same state (ContinuesUnder number) (under_same number) devices

  pub rows_same : (number : ℕ) (rows : List (Vec D Global)) → RowsGoOn state number rows rows
  rows_same number rows = record { many = refl; each = λ w row below. go_on_same number (slice_index_or rows w row).items }

  -- the same under a later beat
  pub go_on_later : (many b n : ℕ) (olds news : List D) → AreDevices state many b olds → GoOn state b olds news → b ≤ n → GoOn state n olds news
  go_on_later many b n olds news are goes_on later = record {
    many = goes_on.many;
    each = λ e d below.
        let one = goes_on.each e d below in
        let is = one.beat (are.beats e d (omega (arith, below, are.all))) in
        record { beat = λ _. omega (arith, is); faults = one.faults; told = one.told };
  }

  pub rows_later : (many b n : ℕ) (olds news : List (Vec D Global)) → AreRows state many b olds → RowsGoOn state b olds news → b ≤ n → RowsGoOn state n olds news
  rows_later many b n olds news are goes_on later = record {
    many = goes_on.many;
    each = λ w row below.
        go_on_later many b n (slice_index_or olds w row).items (slice_index_or news w row).items (are.each w row (omega (arith, below, are.all))) (goes_on.each w row below) later;
  }

  pub devices_after : (many b n : ℕ) (olds news : List D) → AreDevices state many b olds → GoOn state n olds news → b ≤ n → AreDevices state many n news
  devices_after many b n olds news are goes_on later = record {
    all = goes_on.many ∙ are.all;
    beats = λ e d below. let early = are.beats e d below in (goes_on.each e d (omega (arith, below, are.all))).beat (omega (arith, early));
  }

  pub rows_after : (many b n : ℕ) (olds news : List (Vec D Global)) → AreRows state many b olds → RowsGoOn state n olds news → b ≤ n → AreRows state many n news
  rows_after many b n olds news are goes_on later = record {
    all = goes_on.many ∙ are.all;
    each = λ w row below.
        devices_after many b n (slice_index_or olds w row).items (slice_index_or news w row).items (are.each w row below) (goes_on.each w row (omega (arith, below, are.all))) later;
  }

module _ {D : Type 0} (state : D → DiskState) (split : Split) (round : ℕ) where
  -- values devices of which none was touched
  pub others_same : (number : ℕ) (done : Type 0) (devices : List D) → ((d : D) → IsDisk (state d)) → (done → ⊥) → KeepsOthers state split round number done devices devices
  others_same number done devices lawful never = record {
    going = go_on_same state number devices;
    sizes = λ e d below. refl;
    bytes = λ e d below. as_told_same (SameOther (own_in split e) (slot_of round)) (λ c. refl) (state (slice_index_or devices e d)).bytes;
    other = λ e d below. started number (state (slice_index_or devices e d)) _ (lawful (slice_index_or devices e d)) (λ c image. record { image = c; is_image = image; other = refl; long = refl });
    settled = λ is_done. absurd (never is_done);
    opened = λ is_done. absurd (never is_done);
  }

  pub others_from : (n b : ℕ) (done : Type 0) (mids olds news : List D) → n ≡ b + 1 → mids ≡ olds → KeepsOthers state split round n done mids news → KeepsOthers state split round (b + 1) done olds news
  others_from n b done mids olds news is same keeps =
      subst (λ (vs : List D). KeepsOthers state split round (b + 1) done vs news) same (subst (λ (k : ℕ). KeepsOthers state split round k done mids news) is keeps)

  module _ (rules : Rules) (edges : List Edge) where
    pub nothing_stored : (number : ℕ) (done : Type 0) (changed : ℕ) (devices : List D) → ((d : D) → IsDisk (state d)) → (done → ⊥) → StoresRound state rules split edges round number done changed devices devices
    nothing_stored number done changed devices lawful never = record {
      any_moment = λ e d below. started number (state (slice_index_or devices e d)) _ (lawful (slice_index_or devices e d)) (λ c image. record { image = c; is_image = image; other = refl; itself = inl refl; long = refl });
      stored = λ is_done. absurd (never is_done);
      changed_are = λ is_done. absurd (never is_done);
    }

    pub stored_from : (n b : ℕ) (done : Type 0) (changed : ℕ) (mids olds news : List D) → n ≡ b + 1 → mids ≡ olds → StoresRound state rules split edges round n done changed mids news → StoresRound state rules split edges round (b + 1) done changed olds news
    stored_from n b done changed mids olds news is same stores =
        subst (λ (vs : List D). StoresRound state rules split edges round (b + 1) done changed vs news) same (subst (λ (k : ℕ). StoresRound state rules split edges round k done changed mids news) is stores)

    -- what apply reads of the values before
    pub values_for_apply : (changed_only : Bool) (mids olds : List D) → mids ≡ olds → ValuesStand state rules split edges round changed_only olds → ValuesStand state rules split edges round false mids
    values_for_apply changed_only mids olds same stand =
        subst (λ (vs : List D). ValuesStand state rules split edges round false vs) (sym same)
        (λ e d below.
        let at : StandsBefore rules split edges round changed_only e (state (slice_index_or olds e d)).bytes = stand e d below in
        record { read = at.read; told = at.told; last = at.last; earlier = λ is. let no : false ≡ true = is in cc })

module _ {D M : Type 0} (state : D → DiskState) (split : Split) where
  pub is_store : (b n : ℕ) (old new : Store D M) → IsStore state split b old → b ≤ n → new.graphs ≡ old.graphs → GoOn state n old.values.items new.values.items
      → ((e : ℕ) (d : D) → e < length old.values.items → (state (slice_index_or new.values.items e d)).size ≡ (state (slice_index_or old.values.items e d)).size)
      → RowsGoOn state n old.lanes.items new.lanes.items → GoOn state n old.spills.items new.spills.items → IsStore state split n new
  is_store b n old new is later graphs values sizes lanes spills = record {
    graphs = ap (λ (v : Vec D Global). vec_len v) graphs ∙ is.graphs;
    values = devices_after state split.engines b n old.values.items new.values.items is.values values later;
    sizes = λ e d below. sizes e d (omega (arith, below, is.values.all)) ∙ is.sizes e d below;
    lanes = rows_after state split.engines b n old.lanes.items new.lanes.items is.lanes lanes later;
    spills = devices_after state split.engines b n old.spills.items new.spills.items is.spills spills later;
  }

-- Devices that are the same.
module _ {D : Type 0} (state : D → DiskState) where
  pub values_untouched : (number : ℕ) (olds news : Vec D Global) → news ≡ olds → GoOn state number olds.items news.items
  values_untouched number olds news same = subst (λ (v : Vec D Global). GoOn state number olds.items v.items) (sym same) (go_on_same state number olds.items)

  pub sizes_untouched : (olds news : Vec D Global) → news ≡ olds → (e : ℕ) (d : D) → e < length olds.items → (state (slice_index_or news.items e d)).size ≡ (state (slice_index_or olds.items e d)).size
  sizes_untouched olds news same e d below = ap (λ (v : Vec D Global). (state (slice_index_or v.items e d)).size) same

  pub devices_untouched : (many b n : ℕ) (olds news : Vec D Global) → news ≡ olds → b ≤ n → AreDevices state many b olds.items → AreDevices state many n news.items
  devices_untouched many b n olds news same later are = subst (λ (v : Vec D Global). AreDevices state many n v.items) (sym same)
      (record { all = are.all; beats = λ e d below. let early = are.beats e d below in omega (arith, early) })

  pub rose_untouched : (olds mids news : List D) → mids ≡ olds → OneRose state mids news → OneRose state olds news
  rose_untouched olds mids news same rose = subst (λ (vs : List D). OneRose state vs news) same rose

module _ {D : Type 0} (state : D → DiskState) (split : Split) (round : ℕ) where
  pub others_untouched : (number : ℕ) (done : Type 0) (olds news : Vec D Global) → news ≡ olds → ((d : D) → IsDisk (state d)) → (done → ⊥) → KeepsOthers state split round number done olds.items news.items
  others_untouched number done olds news same lawful never =
      subst (λ (v : Vec D Global). KeepsOthers state split round number done olds.items v.items) (sym same) (others_same state split round number done olds.items lawful never)

  pub others_from_same : (n : ℕ) (done : Type 0) (mids olds news : List D) → mids ≡ olds → KeepsOthers state split round n done mids news → KeepsOthers state split round n done olds news
  others_from_same n done mids olds news same keeps = subst (λ (vs : List D). KeepsOthers state split round n done vs news) same keeps

  pub stored_untouched : (rules : Rules) (edges : List Edge) (number : ℕ) (done : Type 0) (changed : ℕ) (olds news : Vec D Global) → news ≡ olds → ((d : D) → IsDisk (state d)) → (done → ⊥)
      → StoresRound state rules split edges round number done changed olds.items news.items
  stored_untouched rules edges number done changed olds news same lawful never =
      subst (λ (v : Vec D Global). StoresRound state rules split edges round number done changed olds.items v.items) (sym same) (nothing_stored state split round rules edges number done changed olds.items lawful never)

-- the epochs, when what follows them is done or not
pub first_through : (counts : Bool) (job : Job) (index : List (List Place)) (done done' : Type 0) (before after : View) (took helped : ℕ) → done → MakesFirst counts job index done before after took helped → MakesFirst counts job index done' before after took helped
first_through counts job index done done' before after took helped is makes = record {
  epochs = makes.epochs;
  through = makes.through;
  are = makes.are;
  fronts = makes.fronts;
  bounds = makes.bounds;
  all = λ _. makes.all is;
  few = makes.few;
}

pub round_through : {D M : Type 0} (state : D → DiskState) (rules : Rules) (job : Job) (split : Split) (index : List (List Place)) (round : ℕ) (changed_only : Bool) (t : ℕ) (store : Store D M) (done done' : Type 0) (before after : View) (took helped : ℕ) → done
    → MakesEpochs state rules job split index round changed_only t store done before after took helped → MakesEpochs state rules job split index round changed_only t store done' before after took helped
round_through state rules job split index round changed_only t store done done' before after took helped is makes = record {
  epochs = makes.epochs;
  through = makes.through;
  are = makes.are;
  fronts = makes.fronts;
  bounds = makes.bounds;
  all = λ _. makes.all is;
  some = makes.some;
}

-- Lists that are the same, as slices of what they are of.
module _ {D : Type 0} (state : D → DiskState) where
  pub within_from : (rs rs' : List Replicas) (ds ds' : List D) → rs' ≡ rs → ds' ≡ ds → LieWithin state rs ds → LieWithin state rs' ds'
  within_from rs rs' ds ds' same same' lie = subst (λ (xs : List Replicas). LieWithin state xs ds') (sym same) (subst (λ (xs : List D). LieWithin state rs xs) (sym same') lie)

  pub merged_from : (rules : Rules) (split : Split) (numbers : ℕ → ℕ) (rs rs' : List Replicas) (ds ds' : List D) → rs' ≡ rs → ds' ≡ ds → AreMerged rules split rs (map (λ d. (state d).bytes) ds) numbers
      → AreMerged rules split rs' (map (λ d. (state d).bytes) ds') numbers
  merged_from rules split numbers rs rs' ds ds' same same' merged =
      subst (λ (xs : List Replicas). AreMerged rules split xs (map (λ d. (state d).bytes) ds') numbers) (sym same) (subst (λ (xs : List D). AreMerged rules split rs (map (λ d. (state d).bytes) xs) numbers) (sym same') merged)

  pub edges_from : (job : Job) (split : Split) (index : List (List Place)) (edges : List Edge) (gs gs' : List D) → gs' ≡ gs → HasEdges state job split index gs edges → HasEdges state job split index gs' edges
  edges_from job split index edges gs gs' same has = subst (λ (xs : List D). HasEdges state job split index xs edges) (sym same) has

pub splits_from : (split : Split) (rs rs' : List Replicas) → rs' ≡ rs → (length rs ≡ split.engines) × All (λ r. split_of r ≡ split) rs → (length rs' ≡ split.engines) × All (λ r. split_of r ≡ split) rs'
splits_from split rs rs' same are = subst (λ (xs : List Replicas). (length xs ≡ split.engines) × All (λ r. split_of r ≡ split) xs) (sym same) are
