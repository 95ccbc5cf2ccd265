-- The files of a store that was just opened.
use Rattle.std.specs.Prelude.{◌≡◌, ℕ, ◌+◌, ◌*◌, ◌<◌, List, Vec, length, map, slice_index_or}
use Rattle.std.specs.Global.{Global}
use Rattle.std.specs.List.{range_with_len}
use Rattle.real_devices.specs.FileState.{FileState, untold}
use Rattle.store_reader.specs.declared.store.Store.{Store}
use Rattle.ports.specs.Devices.{AreDevices, AreRows}
use Rattle.round_loop.specs.Keeping.{moment}
use Rattle.run_model.specs.Calls.{IsReady}
use Rattle.chaos_cli.specs.declared.opened.Opened.{Opened}

-- files are numbered one after the other, from a number on
abbrev pub AreNumbered : (first : ℕ) → List FileState → Type 0
AreNumbered first files = map (λ file. file.number) files ≡ range_with_len first (length files)

-- and those of each row in eights
abbrev pub AreNumberedRows : (first : ℕ) → List (Vec FileState Global) → Type 0
AreNumberedRows first rows = (w : ℕ) (row : Vec FileState Global) → w < length rows → AreNumbered (first + 8 * w) (slice_index_or rows w row).items

-- So many of each kind, none of which has had a call. Each has a number of its own, by which a meter tells files apart.
pub record AreFiles {M : Type 0} (engines : ℕ) (store : Store FileState M) : Type 0 where
  pub graphs : AreDevices untold engines 0 store.graphs.items
  pub values : AreDevices untold engines 0 store.values.items
  pub lanes : AreRows untold engines 0 store.lanes.items
  pub spills : AreDevices untold engines 0 store.spills.items
  pub graph_numbers : AreNumbered 0 store.graphs.items
  pub values_numbers : AreNumbered 8 store.values.items
  pub lane_numbers : AreNumberedRows 16 store.lanes.items
  pub spill_numbers : AreNumbered 80 store.spills.items

-- **A call may be made**, with a table and a seat of its own, in the first beat
pub record IsOpened {R M : Type 0} (engines : ℕ) (opened : Opened R M) : Type 0 where
  pub ready : IsReady untold engines (moment opened.store opened.meters.items opened.seat.view opened.beat)
  pub table : opened.seat.table ≡ opened.table
  pub first : opened.beat ≡ 0
