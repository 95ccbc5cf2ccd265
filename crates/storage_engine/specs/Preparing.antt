-- What `prepare` promises: the store that it makes, what a stop leaves meanwhile, and the cause of each refusal.
use Rattle.std.specs.Prelude.{◌≡◌, ◌≢◌, ◌⊎◌, ℕ, ◌+◌, ◌<◌, ◌≤◌, List, [], length, Option, Some, IfSome, slice_index_or, Result, Err, OnOk, IfOk, IfErr}
use Rattle.graph_model.specs.declared.edge.TextFault.TheVariants as text
use Rattle.graph_model.specs.declared.edge.Edge.{Edge}
use Rattle.graph_model.specs.declared.edge.TextFault.{TextFault}
use Rattle.graph_model.specs.declared.edge.TheConstants.{MAX_WEIGHT}
use Rattle.graph_model.specs.declared.job.Job.{Job}
use Rattle.storage_engine.specs.declared.fault.MakeFault.{MakeFault}
use Rattle.storage_engine.specs.declared.fault.MakeFault.TheVariants as make
use Rattle.graph_model.specs.Answer.{edges, refusal_of, IsAccepted}
use Rattle.std.specs.List.{All}
use Rattle.chunk_file.specs.declared.index.Place.{Place}
use Rattle.chunk_file.specs.declared.index.TheConstants.{MOST_PLACES}
use Rattle.chunk_file.specs.Places.{total_of}
use Rattle.ports.specs.Disk.{DiskState, InEveryImage}
use Rattle.ports.specs.Stops.{LeavesByBeat}
use Rattle.ports.specs.Devices.{OneRose, NoneRose}
use Rattle.storage_engine.specs.Making.{HasPlaces}
use Rattle.storage_engine.specs.Steps.{HoldsExactly, IsLater}
use Rattle.store_model.specs.Heads.{IsShutGraph}
use Rattle.store_model.specs.Slots.{device_size, IsBlank}
use Rattle.store_model.specs.Graphs.{graph, edge_chunks}
use Rattle.store_model.specs.Kept.{own_of}
use Rattle.storage_engine.specs.declared.fault.PrepareFault.{PrepareFault}
use Rattle.storage_engine.specs.declared.fault.PrepareFault.TheVariants.{BadLine, TooLong, ReadFault, DiskFault, Memory}

-- the graph device of engine e of a store that was made: its size is known whether or not it tells its bytes
pub record IsMadeGraph (job : Job) (text : List ℕ) (e : ℕ) (disk : DiskState) : Type 0 where
  pub size : disk.size ≡ length (graph job (edges job text) e)
  pub read : IfSome disk.bytes (λ told. told ≡ graph job (edges job text) e)
  pub images : InEveryImage disk (λ c. c ≡ graph job (edges job text) e)

-- an edge that a text of the job may have: both ends are vertices, and the weight is in range
abbrev pub IsEdgeOfText : Job → Edge → Type 0
IsEdgeOfText job edge = (edge.src < job.vertices) × (edge.dst < job.vertices) × (edge.weight ≤ MAX_WEIGHT)

-- **A store was made of these edges**, which are those of the text where the source tells it.
pub record IsMadeOf {X : Type 0} (state : X → DiskState) (job : Job) (text : Option (List ℕ)) (index : List (List Place)) (graphs : List X) (given : List Edge) : Type 0 where
  pub within : All (IsEdgeOfText job) given
  pub few : length (edge_chunks job given) ≤ MOST_PLACES
  pub places : HasPlaces job (edge_chunks job given) index
  pub devices : (e : ℕ) (d : X) → e < job.engines → HoldsExactly (graph job given e) (state (slice_index_or graphs e d))
  pub of_text : IfSome text (λ told. given ≡ edges job told)

-- A stop in beat b leaves of the graph device of engine e: before the second beat what was not open is not open, and
-- from it on the device is not open, or it is whole.
pub record WhilePreparing (job : Job) (text : Option (List ℕ)) (second e : ℕ) (start : DiskState) (b : ℕ) (c : List ℕ) : Type 0 where
  pub first_beat : b < second → InEveryImage start IsShutGraph → IsShutGraph c
  pub second_beat : second ≤ b → IsShutGraph c ⊎ IfSome text (λ told. c ≡ graph job (edges job told) e)

-- a values device of engine e of the exact size, both of whose slots are closed in every image
pub record IsMadeValues (job : Job) (e : ℕ) (disk : DiskState) : Type 0 where
  pub size : disk.size ≡ device_size (own_of job e)
  pub blank : InEveryImage disk (IsBlank (own_of job e))

-- Why a store was not made; of the text, where the source tells it. `rose` and `read` say that the count of a device or
-- of the source rose.
abbrev pub HasPrepareCause : Job → (told : Option (List ℕ)) → (rose read : Type 0) → PrepareFault → Type 0
HasPrepareCause job told rose read (BadLine line) = IfSome told (λ bytes. refusal_of job bytes ≡ Some (text.BadLine line))
HasPrepareCause job told rose read TooLong = IfSome told (λ bytes. refusal_of job bytes ≡ Some text.TooLong)
HasPrepareCause job told rose read ReadFault = read
HasPrepareCause job told rose read DiskFault = rose
HasPrepareCause job told rose read Memory = Unit {0}

-- an answer that is given only after the source was read
abbrev pub IsOfText : PrepareFault → Type 0
IsOfText (BadLine line) = Unit {0}
IsOfText TooLong = Unit {0}
IsOfText ReadFault = Unit {0}
IsOfText DiskFault = ⊥
IsOfText Memory = ⊥

-- by which answer a refusal of the text is told, and what stops the making of chunks
abbrev pub refused : TextFault → PrepareFault
refused (text.BadLine line) = BadLine line
refused text.TooLong = TooLong
refused text.Memory = Memory

abbrev pub stopped : MakeFault → PrepareFault
stopped make.DiskFault = DiskFault
stopped make.Memory = Memory

-- all of the text was read, and these are its edges
pub record HasReadAll (job : Job) (told left : Option (List ℕ)) (graph : List Edge) : Type 0 where
  pub within : All (IsEdgeOfText job) graph
  pub accepted : IfSome told (IsAccepted job)
  pub are_edges : IfSome told (λ bytes. graph ≡ edges job bytes)
  pub nothing_left : IfSome told (λ _. left ≡ Some [])

-- **What `prepare` does** to the graph devices and values devices of a job's store, between a beat and now: `text` and
-- `left` are what the source had and has left, and `read` says that its count rose.
pub record Prepares {X : Type 0} (state : X → DiskState) (job : Job) (text left : Option (List ℕ)) (number now : ℕ) (read : Type 0) (graphs graphs' values values' : List X) (result : Result (List (List Place)) PrepareFault) : Type 0 where
  -- whether or not anything tells its bytes
  pub many : (length graphs' ≡ job.engines) × (length values' ≡ job.engines)
  pub graph_beats : All (λ x. (state x).beat ≤ now) graphs'
  pub value_beats : All (λ x. (state x).beat ≤ now) values'
  pub beat : (now ≡ number) ⊎ (now ≡ number + 1)
  pub second : OnOk result (now ≡ number + 1)
  pub few : IfOk result (λ index. total_of index ≤ MOST_PLACES)
  pub blank : OnOk result ((e : ℕ) (d : X) → e < job.engines → IsMadeValues job e (state (slice_index_or values' e d)))
  pub made : IfOk result (λ index. (given : List Edge) × IsMadeOf state job text index graphs' given)
  pub later_graphs : (e : ℕ) (d : X) → e < job.engines → IsLater (state (slice_index_or graphs e d)) (state (slice_index_or graphs' e d))
  pub later_values : (e : ℕ) (d : X) → e < job.engines → IsLater (state (slice_index_or values e d)) (state (slice_index_or values' e d))
  -- of the text, where the source tells it
  pub whole : OnOk result (IfSome text (λ told. (e : ℕ) (d : X) → e < job.engines → IsMadeGraph job told e (state (slice_index_or graphs' e d))))
  pub indexed : IfOk result (λ index. IfSome text (λ told. HasPlaces job (edge_chunks job (edges job told)) index))
  -- it was accepted and all of it read, where the second beat began, as after Ok, even if the opening of a gate then failed
  pub all_read : now ≡ number + 1 → IfSome text (λ told. IsAccepted job told × (left ≡ Some []))
  -- what a stop leaves, at any moment
  pub any_moment : (e : ℕ) (d : X) → e < job.engines → LeavesByBeat (state (slice_index_or graphs e d)) (state (slice_index_or graphs' e d))
      (λ b c. b ≤ now → WhilePreparing job text (number + 1) e (state (slice_index_or graphs e d)) b c)
  pub any_moment_of_values : (e : ℕ) (d : X) → e < job.engines → LeavesByBeat (state (slice_index_or values e d)) (state (slice_index_or values' e d))
      (λ b c. b ≤ now → number + 1 ≤ b → IsBlank (own_of job e) c)
  -- once the source was read no stop leaves an open graph device, however they were at the start
  pub shut : IfErr result (λ fault. IsOfText fault → (e : ℕ) (d : X) → e < job.engines → InEveryImage (state (slice_index_or graphs' e d)) IsShutGraph)
  -- why it was refused; in the second beat only the opening of the gates fails
  pub cause : IfErr result (HasPrepareCause job text (OneRose state graphs graphs' ⊎ OneRose state values values') read)
  pub last : IfErr result (λ fault. now ≡ number + 1 → fault ≡ DiskFault)
  -- no count of a device rose but where this is the answer
  pub calm : result ≢ Err DiskFault → NoneRose state graphs graphs' × NoneRose state values values'
