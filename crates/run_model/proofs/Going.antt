-- Devices and meters after some calls, and after some more.
use Rattle.std.proofs.Common.{◌≡◌, ◌∙◌, inl, inr, ℕ, ◌<◌, ◌≤◌, List, [], ◌∷◌, length, get_or, slice_set, refl, sym, subst, arith, length-set}
use Rattle.std.specs.Prelude.{Vec}
use Rattle.std.specs.Global.{Global}
use Rattle.std.specs.List.{All}
use Rattle.std.proofs.lemmas.Bool.{cases_eq}
use Rattle.std.proofs.lemmas.List.{get_or_default, get_or-set_same, get_or-set_other}
use Rattle.std.proofs.lemmas.List.Elements.{All-nil, All-get_or, All-from_get_or}
use Rattle.ports.specs.Disk.{DiskState}
use Rattle.ports.proofs.Told.{told_on}
use Rattle.ports.specs.Devices.{MetersGoOn, AreDevices, AreRows, OneRowRose}
use Rattle.storage_engine.specs.Steps.{Any, IsLater}
use Rattle.store_reader.specs.declared.store.Store.{Store}
use Rattle.round_steps.specs.Going.{SomeRose}
use Rattle.round_steps.proofs.Kept.{meter_rose_later}
use Rattle.round_loop.specs.Keeping.{AreLater, AreLaterRows, Keeps}
use Rattle.round_loop.proofs.Keeping.{same_devices, then_devices, same_rows, then_rows, rose_after}
use Rattle.run_model.specs.Calls.{StoreGoesOn}

module _ {M : Type 0} (faults : M → ℕ) (meters : List M) where
  -- one of them is read through
  module _ (k : ℕ) (below : k < length meters) (old new : M) (is : old ≡ get_or meters k old) where
    at_k : (m : M) → faults (get_or meters k m) ≡ faults old
    at_k m = sym (subst (λ a. faults old ≡ faults a) (is ∙ get_or_default meters k old m below) refl)

    pub meters_after : faults old ≤ faults new → MetersGoOn faults meters (slice_set meters k new)
    meters_after later = record {
      many = length-set meters k new;
      later = λ w m within. elim (cases_eq w k) [
        | inl same ↦ subst (λ i. faults (get_or meters i m) ≤ faults (get_or (slice_set meters k new) i m)) (sym same)
            (subst (λ a. faults (get_or meters k m) ≤ faults a) (sym (get_or-set_same meters k new m below)) (omega (arith, at_k m, later)))
        | inr other ↦ subst (λ a. faults (get_or meters w m) ≤ faults a) (sym (get_or-set_other meters k w new m other)) (omega arith)
      ];
    }

module _ {D : Type 0} (state : D → DiskState) where
  -- while a store is made
  pub later_made : (many : ℕ) (olds news : List D) → length olds ≡ many → length news ≡ many → ((e : ℕ) (d : D) → e < many → IsLater (state (get_or olds e d)) (state (get_or news e d))) → AreLater state olds news
  later_made many olds news before after each = record {
    many = after ∙ sym before;
    each = λ e d below.
        let one = each e d (omega (arith, below, before)) in
        record { faults = one.faults; told = told_on Any (state (get_or olds e d)).bytes (state (get_or news e d)).bytes one.told };
  }

  -- under a later beat
  pub devices_on : (many b n : ℕ) (devices : List D) → b ≤ n → AreDevices state many b devices → AreDevices state many n devices
  devices_on many b n devices later are = record { all = are.all; beats = λ e d below. let early = are.beats e d below in omega (arith, early, later) }

  pub rows_on : (many b n : ℕ) (rows : List (Vec D Global)) → b ≤ n → AreRows state many b rows → AreRows state many n rows
  rows_on many b n rows later are = record { all = are.all; each = λ w row below. devices_on many b n (get_or rows w row).items later (are.each w row below) }

  -- devices by their places, and all of them
  pub devices_of : (many n : ℕ) (devices : List D) → length devices ≡ many → All (λ d. (state d).beat ≤ n) devices → AreDevices state many n devices
  devices_of many n devices all early = record { all = all; beats = λ e d below. All-get_or (λ (d : D). (state d).beat ≤ n) devices e d (omega (arith, below, all)) early }

  pub all_early : (many n : ℕ) (devices : List D) → AreDevices state many n devices → All (λ d. (state d).beat ≤ n) devices
  all_early many n devices are = by devices are.all are.beats
    where
      by : (ds : List D) → length ds ≡ many → ((e : ℕ) (d : D) → e < many → (state (get_or ds e d)).beat ≤ n) → All (λ d. (state d).beat ≤ n) ds
      by [] all beats = All-nil (λ (d : D). (state d).beat ≤ n)
      by (x ∷ ds) all beats = All-from_get_or (λ (d : D). (state d).beat ≤ n) (x ∷ ds) x (λ i below. beats i x (omega (arith, below, all)))

  -- a count that rose later rose
  pub row_rose_later : (olds mids news : List (Vec D Global)) → AreLaterRows state olds mids → OneRowRose state mids news → OneRowRose state olds news
  row_rose_later olds mids news first rose = (
    rose.0,
    omega (arith, rose.1, first.many),
    λ row. rose_after state (get_or olds rose.0 row).items (get_or mids rose.0 row).items (get_or news rose.0 row).items (first.each rose.0 row (omega (arith, rose.1, first.many))) (rose.2 row),
  )

module _ {D M : Type 0} (state : D → DiskState) where
  pub store_same : (store : Store D M) → StoreGoesOn state store store
  store_same store = record {
    graphs = same_devices state store.graphs.items;
    values = same_devices state store.values.items;
    lanes = same_rows state store.lanes.items;
    spills = same_devices state store.spills.items;
  }

  pub store_then : (old mid new : Store D M) → StoreGoesOn state old mid → StoreGoesOn state mid new → StoreGoesOn state old new
  store_then old mid new first then = record {
    graphs = then_devices state old.graphs.items mid.graphs.items new.graphs.items first.graphs then.graphs;
    values = then_devices state old.values.items mid.values.items new.values.items first.values then.values;
    lanes = then_rows state old.lanes.items mid.lanes.items new.lanes.items first.lanes then.lanes;
    spills = then_devices state old.spills.items mid.spills.items new.spills.items first.spills then.spills;
  }

  -- after a run, which touches no graph device
  pub store_run : (old new : Store D M) → Keeps state old new → StoreGoesOn state old new
  store_run old new keeps = record {
    graphs = subst (λ (graphs : Vec D Global). AreLater state old.graphs.items graphs.items) (sym keeps.graphs) (same_devices state old.graphs.items);
    values = keeps.values;
    lanes = keeps.lanes;
    spills = keeps.spills;
  }

  pub some_rose_later : (faults : M → ℕ) (old mid new : Store D M) (xs ys zs : List M) → StoreGoesOn state old mid → MetersGoOn faults xs ys → SomeRose state faults mid new ys zs → SomeRose state faults old new xs zs
  some_rose_later faults old mid new xs ys zs first meters (inl meter) = inl (meter_rose_later faults xs ys zs meters meter)
  some_rose_later faults old mid new xs ys zs first meters (inr (inl values)) = inr (inl (rose_after state old.values.items mid.values.items new.values.items first.values values))
  some_rose_later faults old mid new xs ys zs first meters (inr (inr (inl rows))) = inr (inr (inl (row_rose_later state old.lanes.items mid.lanes.items new.lanes.items first.lanes rows)))
  some_rose_later faults old mid new xs ys zs first meters (inr (inr (inr spills))) = inr (inr (inr (rose_after state old.spills.items mid.spills.items new.spills.items first.spills spills)))
