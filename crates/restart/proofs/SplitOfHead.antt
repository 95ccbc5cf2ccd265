-- What is said of a job's split is said of the head that says the job.
use Rattle.std.proofs.Common.{◌≡◌, ◌∙◌, ℕ, ◌<◌, List, [], ◌∷◌, ◌++◌, length, drop, Option, Some, None, IfSome, Result, Ok, Err, OnOk, IfErr, inl, inr, sym, ap, subst, arith}
use Rattle.std.specs.List.{All}
use Rattle.std.proofs.lemmas.List.Elements.{All-weaker}
use Rattle.ports.specs.Disk.{DiskState}
use Rattle.graph_model.specs.declared.edge.Edge.{Edge}
use Rattle.graph_model.specs.declared.job.Job.{Job}
use Rattle.graph_model.specs.Partitions.{ceil_div, part_count, own_count}
use Rattle.graph_model.specs.Jobs.{parts_of}
use Rattle.partitioner.specs.declared.split.Split.{Split}
use Rattle.partitioner.specs.Splits.{IsSplitOf}
use Rattle.chunk_model.specs.Chunks.{Chunk}
use Rattle.chunk_model.specs.Layout.{edge_layout}
use Rattle.chunk_model.specs.ChunkBytes.{AreChunk, StandsAt, chunk_bytes, bytes_of_chunks}
use Rattle.chunk_file.specs.Scans.{IsEdgeChunk, NoEdgeChunk}
use Rattle.store_model.specs.declared.field.Field.TheVariants.{Format, Engines, Vertices, Chunk as ChunkSize}
use Rattle.store_model.specs.Heads.{IsOpenGraph, IsShutGraph}
use Rattle.store_model.specs.Kept.{device, IsPrepared, IsUnprepared}
use Rattle.store_model.specs.Damage as damage
use Rattle.store_model.specs.Damage.{Fault, value_of, parts_in, span_in, first_over, device_fault, values_fault, BeginsWith, AreChunks, StopsAt, HasFault, GraphDamaged, head_of, heads_fault}
use Rattle.store_reader.specs.Devices.{IsOpenDevice, SomeShut}
use Rattle.store_reader.specs.Reading.{own_in}
use Rattle.store_checks.specs.Causes.{Tell}
use Rattle.store_checks.specs.Jobs.{SaysJob}
use Rattle.store_checks.specs.Indexing.{Begins, IsIndexed, StopsIn}
use Rattle.restart.specs.Recovering.{IsOpened}
use Rattle.chunk_file.specs.declared.index.Place.{Place}

pub record SaysSplit (head : List ℕ) (job : Job) (split : Split) : Type 0 where
  pub format : job.format ≡ value_of Format head
  pub vertices : split.vertices ≡ value_of Vertices head
  pub engines : split.engines ≡ value_of Engines head
  pub parts : split.parts ≡ parts_in head
  pub span : split.span ≡ span_in head
  pub chunk : job.chunk ≡ value_of ChunkSize head

parts_same : (head : List ℕ) (job : Job) → SaysJob head job → parts_of job ≡ parts_in head
parts_same head job says =
    ap (λ v. part_count v job.engines job.most) says.vertices
    ∙ ap (λ e. part_count (value_of Vertices head) e job.most) says.engines
    ∙ ap (λ m. part_count (value_of Vertices head) (value_of Engines head) m) says.most

pub says_split : (head : List ℕ) (job : Job) (split : Split) → SaysJob head job → IsSplitOf job split → SaysSplit head job split
says_split head job split says of_job = record {
  format = says.format;
  vertices = of_job.vertices ∙ says.vertices;
  engines = of_job.engines ∙ says.engines;
  parts = of_job.parts ∙ parts_same head job says;
  span = of_job.span ∙ ap (λ v. ceil_div v (parts_of job)) says.vertices ∙ ap (λ k. ceil_div (value_of Vertices head) k) (parts_same head job says);
  chunk = says.chunk;
}

-- A chunk of the one is a chunk of the other.
are_head : (head : List ℕ) (job : Job) (split : Split) (c : Chunk Edge) → SaysSplit head job split
    → AreChunk (edge_layout job.format) split.vertices split.span job.chunk c.partition c.items
    ≡ AreChunk (edge_layout (value_of Format head)) (value_of Vertices head) (span_in head) (value_of ChunkSize head) c.partition c.items
are_head head job split c says =
    ap (λ f. AreChunk (edge_layout f) split.vertices split.span job.chunk c.partition c.items) says.format
    ∙ ap (λ v. AreChunk (edge_layout (value_of Format head)) v split.span job.chunk c.partition c.items) says.vertices
    ∙ ap (λ s. AreChunk (edge_layout (value_of Format head)) (value_of Vertices head) s job.chunk c.partition c.items) says.span
    ∙ ap (λ n. AreChunk (edge_layout (value_of Format head)) (value_of Vertices head) (span_in head) n c.partition c.items) says.chunk

pub to_head : (head : List ℕ) (job : Job) (split : Split) → SaysSplit head job split → (c : Chunk Edge) → IsEdgeChunk job.format split job.chunk c → damage.IsEdgeChunk head c
to_head head job split says c is = record {
  partition = subst (λ n. c.partition < n) says.parts is.partition;
  are = subst (λ (T : Type 0). T) (are_head head job split c says) is.are;
}

pub from_head : (head : List ℕ) (job : Job) (split : Split) → SaysSplit head job split → (c : Chunk Edge) → damage.IsEdgeChunk head c → IsEdgeChunk job.format split job.chunk c
from_head head job split says c is = record {
  partition = subst (λ n. c.partition < n) (sym says.parts) is.partition;
  are = subst (λ (T : Type 0). T) (sym (are_head head job split c says)) is.are;
}

pub begins_with : (head : List ℕ) (job : Job) (split : Split) (made : List (Chunk Edge)) (rest bytes : List ℕ) → SaysSplit head job split → Begins job split made rest bytes → BeginsWith head made rest bytes
begins_with head job split made rest bytes says begins = record {
  are = All-weaker (IsEdgeChunk job.format split job.chunk) (damage.IsEdgeChunk head) (to_head head job split says) made begins.are;
  stand = subst (λ f. drop 65 bytes ≡ bytes_of_chunks (edge_layout f) made ++ rest) says.format begins.stand;
}

pub none_of_head : (head : List ℕ) (job : Job) (split : Split) (at : ℕ) (bytes : List ℕ) → SaysSplit head job split → NoEdgeChunk job.format split job.chunk at bytes → damage.NoEdgeChunk head at bytes
none_of_head head job split at bytes says none c is stands =
    let mine = from_head head job split says c is in
    none c.partition mine.partition c.items
    (record { stands = subst (λ f. StandsAt at (chunk_bytes (edge_layout f) c.partition c.items) bytes) (sym says.format) stands; are = mine.are })

-- **A scan that stops.**
pub stops_at : (head : List ℕ) (job : Job) (split : Split) (told : List (List ℕ)) (e at : ℕ) → SaysSplit head job split → StopsIn job split told e at → StopsAt head told e at
stops_at head job split told e at says stops = record {
  engine = stops.engine;
  made = stops.made;
  before = λ k below. begins_with head job split (stops.made k) [] (device told k) says (stops.before k below);
  here = begins_with head job split (stops.made e) (drop at (device told e)) (device told e) says stops.here;
  within = stops.within;
  few = stops.few;
  stopped = elim stops.stopped [
    | inl none ↦ inl (none_of_head head job split at (device told e) says none)
    | inr full ↦ inr full
  ];
}

-- The vertices of each engine.
pub own_same : (head : List ℕ) (job : Job) (split : Split) → SaysSplit head job split → ◌≡◌ {A = ℕ → ℕ} (λ e. own_in split e) (λ e. damage.own_in head e)
own_same head job split says =
    ap {B = ℕ → ℕ} (λ v. λ e. own_count v split.engines split.parts e) says.vertices
    ∙ ap {B = ℕ → ℕ} (λ n. λ e. own_count (value_of Vertices head) n split.parts e) says.engines
    ∙ ap {B = ℕ → ℕ} (λ k. λ e. own_count (value_of Vertices head) (value_of Engines head) k e) says.parts

pub values_fault_same : (head : List ℕ) (job : Job) (split : Split) (values : List (List ℕ)) → SaysSplit head job split
    → first_over (λ e. device_fault (own_in split e) e (device values e)) (length values) ≡ values_fault head values
values_fault_same head job split values says =
    ap (λ (own : ℕ → ℕ). first_over (λ e. device_fault (own e) e (device values e)) (length values)) (own_same head job split says)

-- Gates.
member : {X : Type 0} (xs : List X) → 0 < length xs → X
member [] some = absurd (omega arith)
member (x ∷ xs) some = x

pub all_prepared : {X : Type 0} (state : X → DiskState) (disks : List X) (told : List (List ℕ)) → Tell state disks told → All (λ x. IsOpenDevice (state x)) disks → IsPrepared told
all_prepared state disks told tell opened e below =
    let within : e < length disks = omega (arith, below, tell.many) in
    let x = member disks (omega (arith, within)) in
    subst (λ (b : Option (List ℕ)). IfSome b IsOpenGraph) (tell.told e x within) (opened e x within).gate

pub some_unprepared : {X : Type 0} (state : X → DiskState) (disks : List X) (told : List (List ℕ)) → Tell state disks told → SomeShut state disks → IsUnprepared told
some_unprepared state disks told tell shut =
    let e = shut.0 in
    let x = member disks (omega (arith, shut.1)) in
    (e, omega (arith, shut.1, tell.many), subst (λ (b : Option (List ℕ)). IfSome b IsShutGraph) (tell.told e x shut.1) (shut.2 x))

-- what follows from an answer
pub err_then : {T E : Type 0} (P Q : E → Type 0) (r : Result T E) → ((e : E) → P e → Q e) → IfErr r P → IfErr r Q
err_then P Q (Ok x) f p = tt
err_then P Q (Err e) f p = f e p

pub ok_then : {T E P : Type 0} (r : Result T E) → P → OnOk r P
ok_then (Ok x) p = p
ok_then (Err e) p = tt

-- **The chunks that were indexed.**
pub are_chunks : (head : List ℕ) (job : Job) (split : Split) (graphs : List (List ℕ)) (index : List (List Place)) → SaysSplit head job split → (indexed : IsIndexed job split graphs index) → AreChunks head graphs indexed.made
are_chunks head job split graphs index says indexed = record {
  each = λ e below. begins_with head job split (indexed.made e) [] (device graphs e) says (indexed.each e below);
  few = indexed.few;
}

-- **No check fails.**
pub opened : (graphs values : List (List ℕ)) (job : Job) (split : Split) (index : List (List Place)) → SaysJob (head_of graphs 0) job → IsSplitOf job split
    → IsPrepared graphs → heads_fault graphs ≡ None → IsIndexed job split graphs index → first_over (λ e. device_fault (own_in split e) e (device values e)) (length values) ≡ None
    → length index ≡ 512 → IsOpened graphs values job index
opened graphs values job split index says of_job prepared heads indexed slots lists =
    let says' = says_split (head_of graphs 0) job split says of_job in
    record {
      made = indexed.made;
      sound = record {
        prepared = prepared;
        heads = heads;
        chunks = are_chunks (head_of graphs 0) job split graphs index says' indexed;
        slots = sym (values_fault_same (head_of graphs 0) job split values says') ∙ slots;
      };
      says = says;
      lists = lists;
      index_is = indexed.index_is;
    }

-- **The fifth check fails.**
pub scan_fault : (graphs values : List (List ℕ)) (fault : Fault) (job : Job) (split : Split) → SaysJob (head_of graphs 0) job → IsSplitOf job split → IsPrepared graphs → heads_fault graphs ≡ None
    → (e at : ℕ) → fault ≡ GraphDamaged e at → StopsIn job split graphs e at → HasFault graphs values fault
scan_fault graphs values fault job split says of_job prepared heads e at is stops =
    inr (inr (inl (prepared, heads, (e, at, is, stops_at (head_of graphs 0) job split graphs e at (says_split (head_of graphs 0) job split says of_job) stops))))

-- **The sixth check fails.**
pub slot_damage : (graphs values : List (List ℕ)) (fault : Fault) (job : Job) (split : Split) (index : List (List Place)) → SaysJob (head_of graphs 0) job → IsSplitOf job split → IsPrepared graphs → heads_fault graphs ≡ None
    → IsIndexed job split graphs index → first_over (λ e. device_fault (own_in split e) e (device values e)) (length values) ≡ Some fault → HasFault graphs values fault
slot_damage graphs values fault job split index says of_job prepared heads indexed found =
    let says' = says_split (head_of graphs 0) job split says of_job in
    inr (inr (inr (prepared, heads, (indexed.made, are_chunks (head_of graphs 0) job split graphs index says' indexed), sym (values_fault_same (head_of graphs 0) job split values says') ∙ found)))
