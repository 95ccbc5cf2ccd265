-- A store that was given up, or was not.
use Rattle.std.proofs.Common.{◌≡◌, ◌∙◌, ◌⊎◌, inl, inr, ℕ, ◌+◌, ◌<◌, ◌≤◌, List, [], ◌∷◌, length, map, get_or, sym, subst, arith}
use Rattle.std.specs.Prelude.{Vec}
use Rattle.std.specs.Global.{Global}
use Rattle.std.specs.List.{All}
use Rattle.std.proofs.lemmas.List.Elements.{All-nil, All-from_get_or}
use Rattle.ports.specs.Disk.{DiskState, Continues}
use Rattle.ports.proofs.Going.{each_means, rows_means}
use Rattle.ports.specs.Stops.{IsStop, AreImages}
use Rattle.ports.specs.Devices.{Each, OneRose, MetersGoOn, AreDevices, AreRows, OneCountRose, EachRow, OneRowRose}
use Rattle.store_model.specs.Kept.{IsUnprepared}
use Rattle.epoch_seats.specs.Between.{IsBetweenEpochs}
use Rattle.restart.specs.Dropping.{HandsBack}
use Rattle.round_loop.specs.Keeping.{AreLater, AreLaterRows}
use Rattle.endings.specs.declared.ending.Ending.{Ending}
use Rattle.endings.specs.declared.ending.Ending.TheVariants.{Dropped, DiskFault}
use Rattle.run_model.specs.Calls.{Call, IsReady, AnyRose, AreStill, NoneFailed, IsBack}
use Rattle.run_model.specs.Causes.{IsFaultless}
use Rattle.store_drop.specs.Drops.{AllEmpty, HasDropCause, IsDrop}
use Rattle.run_model.proofs.Going.{all_early}
use Rattle.run_model.proofs.Untouched.{prints_none}

module _ {D : Type 0} (state : D → DiskState) where
  -- no call of a row is later
  pub rows_early : (many n : ℕ) (rows : List (Vec D Global)) → AreRows state many n rows → All (λ row. All (λ disk. (state disk).beat ≤ n) row.items) rows
  rows_early many n rows are = by rows are.all are.each
    where
      by : (rs : List (Vec D Global)) → length rs ≡ many → ((w : ℕ) (row : Vec D Global) → w < many → AreDevices state many n (get_or rs w row).items) → All (λ row. All (λ disk. (state disk).beat ≤ n) row.items) rs
      by [] all each = All-nil (λ (row : Vec D Global). All (λ disk. (state disk).beat ≤ n) row.items)
      by (x ∷ rs) all each = All-from_get_or (λ (row : Vec D Global). All (λ disk. (state disk).beat ≤ n) row.items) (x ∷ rs) x
          (λ i below. all_early state many n (get_or (x ∷ rs) i x).items (each i x (omega (arith, below, all))))

  -- devices that are handed back
  devices_back : (many before n : ℕ) (olds news : List D) → AreDevices state many before olds → Each state (HandsBack n) olds news → AreDevices state many n news
  devices_back many before n olds news are back = record { all = back.many ∙ are.all; beats = λ e d below. (back.each e d (omega (arith, below, are.all))).beat }

  rows_back : (many before n : ℕ) (olds news : List (Vec D Global)) → AreRows state many before olds → EachRow state (HandsBack n) olds news → AreRows state many n news
  rows_back many before n olds news are back = record {
    all = back.many ∙ are.all;
    each = λ w row below. devices_back many before n (get_or olds w row).items (get_or news w row).items (are.each w row below) (back.each w row (omega (arith, below, are.all)));
  }

  -- each in its place
  devices_later : (n : ℕ) (olds news : List D) → Each state (HandsBack n) olds news → AreLater state olds news
  devices_later n olds news back = each_means state (HandsBack n) Continues (λ old new. λ is. is.later) olds news back

  rows_later : (n : ℕ) (olds news : List (Vec D Global)) → EachRow state (HandsBack n) olds news → AreLaterRows state olds news
  rows_later n olds news back = rows_means state (HandsBack n) Continues (λ old new. λ is. is.later) olds news back

module _ {D M : Type 0} (state : D → DiskState) (faults : M → ℕ) (call : Call D M) (engines : ℕ) (some : 1 ≤ engines) (ready : IsReady state engines call.before) (on : MetersGoOn faults call.before.meters call.after.meters)
    (unread : call.text_after ≡ call.text) (no_reads : call.read_faults_after ≡ call.read_faults) (unprinted : call.out_after ≡ call.out) (no_writes : call.write_faults_after ≡ call.write_faults) (same_seat : call.after.seat ≡ call.before.seat)
    (beat : (call.after.beat ≡ call.before.beat) ⊎ (call.after.beat ≡ call.before.beat + 1))
    (graphs : Each state (HandsBack call.after.beat) call.before.store.graphs.items call.after.store.graphs.items)
    (values : Each state (HandsBack call.after.beat) call.before.store.values.items call.after.store.values.items)
    (lanes : EachRow state (HandsBack call.after.beat) call.before.store.lanes.items call.after.store.lanes.items)
    (spills : Each state (HandsBack call.after.beat) call.before.store.spills.items call.after.store.spills.items)
    (stops : (b : ℕ) (images others : List (List ℕ)) → b ≤ call.after.beat → 0 < length call.before.store.graphs.items
    → IsStop b (map state call.before.store.graphs.items) (map state call.after.store.graphs.items) images → IsStop b (map state call.before.store.values.items) (map state call.after.store.values.items) others
    → (AreImages (map state call.before.store.graphs.items) images × AreImages (map state call.before.store.values.items) others) ⊎ IsUnprepared images) where
  ready_after : IsReady state engines call.after
  ready_after = record {
    graphs = devices_back state engines call.before.beat call.after.beat call.before.store.graphs.items call.after.store.graphs.items ready.graphs graphs;
    values = devices_back state engines call.before.beat call.after.beat call.before.store.values.items call.after.store.values.items ready.values values;
    lanes = rows_back state engines call.before.beat call.after.beat call.before.store.lanes.items call.after.store.lanes.items ready.lanes lanes;
    spills = devices_back state engines call.before.beat call.after.beat call.before.store.spills.items call.after.store.spills.items ready.spills spills;
    meters = on.many ∙ ready.meters;
    between = subst IsBetweenEpochs (sym same_seat) ready.between;
  }

  back : IsBack state faults engines 1 call.before call.after
  back = record {
    ready = ready_after;
    store = record {
      graphs = devices_later state call.after.beat call.before.store.graphs.items call.after.store.graphs.items graphs;
      values = devices_later state call.after.beat call.before.store.values.items call.after.store.values.items values;
      lanes = rows_later state call.after.beat call.before.store.lanes.items call.after.store.lanes.items lanes;
      spills = devices_later state call.after.beat call.before.store.spills.items call.after.store.spills.items spills;
    };
    meters = on;
    beats = elim beat [ inl same ↦ (omega (arith, same), omega (arith, same)) | inr next ↦ (omega (arith, next), omega (arith, next)) ];
  }

  pub is_drop : (ending : Ending) → HasDropCause state faults call ending → (IsFaultless ending → NoneFailed state faults call) → IsDrop state faults call engines ending
  is_drop ending cause calm = record {
    cause = cause;
    calm = calm;
    printed = prints_none call.out call.out_after unprinted;
    no_writes = no_writes;
    unread = unread;
    no_reads = no_reads;
    seat = same_seat;
    back = back;
    stops = λ b images others within stop_graphs stop_values. stops b images others within (omega (arith, some, ready.graphs.all)) stop_graphs stop_values;
  }

  -- **Each device is empty, and no count rose.**
  pub dropped : AllEmpty state faults call → AreStill state faults call.before call.after → IsDrop state faults call engines Dropped
  dropped empty still = is_drop Dropped empty (λ _. record { reads = no_reads; writes = no_writes; devices = still })

  -- **A count rose.**
  pub not_dropped : (read : Type 0) → (read → OneCountRose faults call.before.meters call.after.meters) → read
      ⊎ OneRose state call.before.store.graphs.items call.after.store.graphs.items
      ⊎ OneRose state call.before.store.values.items call.after.store.values.items
      ⊎ OneRowRose state call.before.store.lanes.items call.after.store.lanes.items
      ⊎ OneRose state call.before.store.spills.items call.after.store.spills.items → IsDrop state faults call engines DiskFault
  not_dropped read among rose = is_drop DiskFault (any rose) (λ faultless. absurd (cc))
    where
      any : read
          ⊎ OneRose state call.before.store.graphs.items call.after.store.graphs.items
          ⊎ OneRose state call.before.store.values.items call.after.store.values.items
          ⊎ OneRowRose state call.before.store.lanes.items call.after.store.lanes.items
          ⊎ OneRose state call.before.store.spills.items call.after.store.spills.items → AnyRose state faults call.before call.after
      any (inl meter) = inr (inl (among meter))
      any (inr (inl graph)) = inl graph
      any (inr (inr (inl value))) = inr (inr (inl value))
      any (inr (inr (inr (inl row)))) = inr (inr (inr (inl row)))
      any (inr (inr (inr (inr spill)))) = inr (inr (inr (inr spill)))
