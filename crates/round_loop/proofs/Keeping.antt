-- Devices, meters and counts from one step to the next.
use Rattle.std.proofs.Common.{◌≡◌, ℕ, List, Vec, length, get_or, inl, inr, refl, ◌∙◌, arith}
use Rattle.std.specs.Global.{Global}
use Rattle.ports.specs.Disk.{DiskState, Continues, ContinuesUnder}
use Rattle.ports.proofs.Going.{continues_same, continues_then, under_any, each_same, each_then, each_means, rows_same, rows_then, rows_means}
use Rattle.ports.proofs.Rising.{one_rose_before, one_rose_after}
use Rattle.ports.specs.Devices.{OneRose, MetersGoOn}
use Rattle.store_reader.specs.declared.store.Store.{Store}
use Rattle.update_lanes.specs.Lanes.{GoOn}
use Rattle.partitioner.specs.declared.split.Split.{Split}
use Rattle.round_steps.specs.Going.{Tell, KeepsStore, SomeRose, NoCountRose}
use Rattle.round_steps.proofs.Kept.{meter_rose_later}
use Rattle.scatter_epoch.specs.Scattering.{RowsGoOn}
use Rattle.scatter_epoch.specs.Sent.{RowsTell}
use Rattle.round_loop.specs.Keeping.{AreLater, AreLaterRows, Keeps, IsTold}

module _ {D : Type 0} (state : D → DiskState) where
  pub same_devices : (xs : List D) → AreLater state xs xs
  same_devices xs = each_same state Continues continues_same xs

  pub then_devices : (xs ys zs : List D) → AreLater state xs ys → AreLater state ys zs → AreLater state xs zs
  then_devices xs ys zs first next = each_then state Continues continues_then xs ys zs first next

  of_going : (number : ℕ) (xs ys : List D) → GoOn state number xs ys → AreLater state xs ys
  of_going number xs ys going = each_means state (ContinuesUnder number) Continues (under_any number) xs ys going

  still_told : (xs ys : List D) → AreLater state xs ys → Tell state xs → Tell state ys
  still_told xs ys later tell = λ e d within. let was = tell e d (omega (arith, later.many)) in (later.each e d (omega (arith, later.many))).told was.0 was.1

  rose_before : (xs ys zs : List D) → OneRose state xs ys → AreLater state ys zs → length ys ≡ length xs → OneRose state xs zs
  rose_before xs ys zs rose later many = one_rose_after (λ d. (state d).faults) xs ys zs many rose (λ e d below. (later.each e d (omega (arith, below, many))).faults)

  pub rose_after : (xs ys zs : List D) → AreLater state xs ys → OneRose state ys zs → OneRose state xs zs
  rose_after xs ys zs later rose = one_rose_before (λ d. (state d).faults) xs ys zs later.many (λ e d below. (later.each e d below).faults) rose

  pub same_rows : (xs : List (Vec D Global)) → AreLaterRows state xs xs
  same_rows xs = rows_same state Continues continues_same xs

  pub then_rows : (xs ys zs : List (Vec D Global)) → AreLaterRows state xs ys → AreLaterRows state ys zs → AreLaterRows state xs zs
  then_rows xs ys zs first next = rows_then state Continues continues_then xs ys zs first next

  of_rows : (number : ℕ) (xs ys : List (Vec D Global)) → RowsGoOn state number xs ys → AreLaterRows state xs ys
  of_rows number xs ys going = rows_means state (ContinuesUnder number) Continues (under_any number) xs ys going

  rows_told : (xs ys : List (Vec D Global)) → AreLaterRows state xs ys → RowsTell state xs → RowsTell state ys
  rows_told xs ys later tell = λ w row within. still_told (get_or xs w row).items (get_or ys w row).items (later.each w row (omega (arith, later.many))) (tell w row (omega (arith, later.many)))

module _ {D M : Type 0} (state : D → DiskState) where
  pub kept_same : (store : Store D M) → Keeps state store store
  kept_same store = record { graphs = refl; values = same_devices state store.values.items; lanes = same_rows state store.lanes.items; spills = same_devices state store.spills.items }

  pub kept_then : (old mid new : Store D M) → Keeps state old mid → Keeps state mid new → Keeps state old new
  kept_then old mid new first next = record {
    graphs = next.graphs ∙ first.graphs;
    values = then_devices state old.values.items mid.values.items new.values.items first.values next.values;
    lanes = then_rows state old.lanes.items mid.lanes.items new.lanes.items first.lanes next.lanes;
    spills = then_devices state old.spills.items mid.spills.items new.spills.items first.spills next.spills;
  }

  pub kept_by_step : (split : Split) (round number : ℕ) (done : Type 0) (old new : Store D M) → KeepsStore state split round number done old new → Keeps state old new
  kept_by_step split round number done old new keeps = record {
    graphs = keeps.graphs;
    values = of_going state number old.values.items new.values.items keeps.values.going;
    lanes = of_rows state number old.lanes.items new.lanes.items keeps.lanes;
    spills = of_going state number old.spills.items new.spills.items keeps.spills;
  }

  pub told_still : (old new : Store D M) → Keeps state old new → IsTold state old → IsTold state new
  told_still old new keeps told = record {
    values = still_told state old.values.items new.values.items keeps.values told.values;
    lanes = rows_told state old.lanes.items new.lanes.items keeps.lanes told.lanes;
    spills = still_told state old.spills.items new.spills.items keeps.spills told.spills;
  }

  module _ (faults : M → ℕ) where
    -- no count rose: in no step, and in two
    pub none_rose : (store : Store D M) (xs : List M) → NoCountRose state faults store store xs xs
    none_rose store xs = (refl, record { values = refl; lanes = refl; spills = refl })

    pub none_rose_then : (old mid new : Store D M) (xs ys zs : List M) → NoCountRose state faults old mid xs ys → NoCountRose state faults mid new ys zs → NoCountRose state faults old new xs zs
    none_rose_then old mid new xs ys zs first next = (
      next.0 ∙ first.0,
      record { values = next.1.values ∙ first.1.values; lanes = next.1.lanes ∙ first.1.lanes; spills = next.1.spills ∙ first.1.spills },
    )

    -- what rose in a later step rose since the beginning
    pub rose_since : (old mid new : Store D M) (xs ys zs : List M) → Keeps state old mid → MetersGoOn faults xs ys → SomeRose state faults mid new ys zs → SomeRose state faults old new xs zs
    rose_since old mid new xs ys zs keeps meters rose = elim rose [
      | inl meter ↦ inl (meter_rose_later faults xs ys zs meters meter)
      | inr device ↦ elim device [
        | inl values ↦ inr (inl (rose_after state old.values.items mid.values.items new.values.items keeps.values values))
        | inr more ↦ elim more [
          | inl lane ↦ inr (inr (inl (lane.0, omega (arith, lane.1, keeps.lanes.many), λ row. rose_after state (get_or old.lanes.items lane.0 row).items (get_or mid.lanes.items lane.0 row).items (get_or new.lanes.items lane.0 row).items (keeps.lanes.each lane.0 row (omega (arith, lane.1, keeps.lanes.many))) (lane.2 row))))
          | inr spill ↦ inr (inr (inr (rose_after state old.spills.items mid.spills.items new.spills.items keeps.spills spill)))
        ]
      ]
    ]
