-- One chunk more: what stands on the devices and in the index.
use Rattle.std.proofs.Common.{◌≡◌, ◌≢◌, ◌∙◌, ◌⊎◌, ℕ, ◌+◌, ◌*◌, ◌<◌, ◌≤◌, ◌==◌, Bool, true, false, List, [], ◌∷◌, ◌++◌, length, map, get_or, set, Option, Some, None, IfSome, Result, inl, inr, refl, ap, sym, subst, arith}
use Rattle.std.proofs.lemmas.List.{map-append, length-append, length-set}
use Rattle.std.proofs.lemmas.List.Sums.{sum_by-set}
use Rattle.graph_model.specs.declared.edge.Edge.{Edge}
use Rattle.graph_model.specs.declared.job.Job.{Job}
use Rattle.graph_model.proofs.ListLemmas.{at_set}
use Rattle.ports.specs.Bytes.{Torn}
use Rattle.ports.specs.Disk.{DiskState, IsDisk, Writes}
use Rattle.ports.specs.Sink.{Appends}
use Rattle.ports.specs.Told.{AsTold}
use Rattle.chunk_model.specs.Chunks.{Chunk}
use Rattle.chunk_model.specs.ChunkBytes.{chunk_bytes, chunk_width}
use Rattle.chunk_model.specs.Layout.{edge_layout, edge_width}
use Rattle.chunk_model.proofs.OnDevice.{length-chunk_bytes}
use Rattle.chunk_model.proofs.LayoutLaws.{edge_layout_is}
use Rattle.chunk_model.proofs.Waiting.{same_or_other}
use Rattle.chunk_file.specs.declared.index.Place.{Place}
use Rattle.chunk_file.specs.declared.index.TheConstants.{MOST_PLACES}
use Rattle.chunk_file.specs.Places.{no_places, places_of, total_of, with_place, on_graph}
use Rattle.chunk_file.proofs.Scanning.{place_here, place_elsewhere}
use Rattle.seeded_place.specs.Placing.{Placing, HasPlaced, edge_stream, engine_of}
use Rattle.store_model.specs.Graphs.{graph_with, places_on}
use Rattle.store_model.proofs.Growing.{next_engine, graph-here, graph-other, graph-none, length-head, length-graph, places-here, places-other_partition, places-other_engine}
use Rattle.storage_engine.specs.Steps.{Step, IsClosedFront}
use Rattle.storage_engine.specs.Making.{MOST_BYTES, HasHead, HasChunks, HasPlaces, HasMade}
use Rattle.storage_engine.proofs.Keeping.{keeps_now, step_call, torn_closed}

-- The index.
pub total-more : (index : List (List Place)) (k : ℕ) (place : Place) → k < length index → total_of (set index k (get_or index k no_places ++ place ∷ [])) ≡ total_of index + 1
total-more index k place within =
    omega (arith, sum_by-set (λ (places : List Place). length places) index k (get_or index k no_places ++ place ∷ []) no_places within, length-append (get_or index k no_places) (place ∷ []))

place_more : (job : Job) (made : List (Chunk Edge)) (index : List (List Place)) (e : ℕ) (c : Chunk Edge) (e' p' : ℕ) → HasPlaces job made index → next_engine job made ≡ e → e < 8 → c.partition < 64 → e' < 8 → p' < 64
    → (e' ≡ e) ⊎ (e' ≢ e) → (p' ≡ c.partition) ⊎ (p' ≢ c.partition)
    → places_of (with_place index e c.partition (on_graph (length (graph_with 0 job e made)))) e' p' ≡ map on_graph (places_on job e' p' (made ++ c ∷ []))
place_more job made index e c e' p' has here few_e few_p below_e below_p (inl same) (inl mine) =
    subst (λ k. places_of (with_place index e c.partition (on_graph (length (graph_with 0 job e made)))) k p' ≡ map on_graph (places_on job k p' (made ++ c ∷ []))) (sym same)
    (subst (λ q. places_of (with_place index e c.partition (on_graph (length (graph_with 0 job e made)))) e q ≡ map on_graph (places_on job e q (made ++ c ∷ []))) (sym mine)
    (place_here index e c.partition (on_graph (length (graph_with 0 job e made))) (omega (arith, has.lists))
    ∙ ap (λ places. places ++ on_graph (length (graph_with 0 job e made)) ∷ []) (has.places e c.partition few_e few_p)
    ∙ sym (map-append on_graph (places_on job e c.partition made) (length (graph_with 0 job e made) ∷ []))
    ∙ ap (map on_graph) (sym (places-here job e c.partition made c here refl))))
place_more job made index e c e' p' has here few_e few_p below_e below_p (inl same) (inr other) =
    place_elsewhere index e c.partition e' p' (on_graph (length (graph_with 0 job e made))) (omega arith)
    ∙ has.places e' p' below_e below_p
    ∙ ap (map on_graph) (sym (places-other_partition job e' p' made c (here ∙ sym same) (λ is. other (sym is))))
place_more job made index e c e' p' has here few_e few_p below_e below_p (inr other) any =
    place_elsewhere index e c.partition e' p' (on_graph (length (graph_with 0 job e made))) (omega arith)
    ∙ has.places e' p' below_e below_p
    ∙ ap (map on_graph) (sym (places-other_engine job e' p' made c (λ is. other (sym is ∙ here))))

pub places_more : (job : Job) (made : List (Chunk Edge)) (index : List (List Place)) (e : ℕ) (c : Chunk Edge) → HasPlaces job made index → next_engine job made ≡ e → e < 8 → c.partition < 64
    → HasPlaces job (made ++ c ∷ []) (with_place index e c.partition (on_graph (length (graph_with 0 job e made))))
places_more job made index e c has here few_e few_p = record {
  lists = length-set index (64 * e + c.partition) (places_of index e c.partition ++ on_graph (length (graph_with 0 job e made)) ∷ []) ∙ has.lists;
  total = omega (arith, total-more index (64 * e + c.partition) (on_graph (length (graph_with 0 job e made))) (omega (arith, has.lists)), has.total, length-append made (c ∷ []));
  places = λ e' p' below_e below_p. place_more job made index e c e' p' has here few_e few_p below_e below_p (same_or_other e' e) (same_or_other p' c.partition);
}

-- The devices.
read_more : (text g : List ℕ) (x y : Option (List ℕ)) → AsTold (Appends text) x y → IfSome x (λ told. told ≡ g) → IfSome y (λ told. told ≡ g ++ text)
read_more text g (Some a) (Some b) appended is = appended ∙ ap (λ bytes. bytes ++ text) is
read_more text g (Some a) None appended is = absurd appended
read_more text g None (Some b) appended is = absurd appended
read_more text g None None appended is = tt

pub width_few : (format n : ℕ) → n ≤ 65536 → chunk_width (edge_width format) n ≤ MOST_BYTES
width_few format n few = by_format (format == 1) refl
  where
    by_format : (first : Bool) → (format == 1) ≡ first → chunk_width (edge_width format) n ≤ MOST_BYTES
    by_format true is = rw is (omega arith)
    by_format false is = rw is (omega arith)

device_here : (job : Job) (made : List (Chunk Edge)) (c : Chunk Edge) (e number : ℕ) (mid new : DiskState) → IsDisk new → next_engine job made ≡ e → length c.items ≤ 65536
    → HasChunks job made e mid → Step IsClosedFront number mid new
    → AsTold (Appends (chunk_bytes (edge_layout job.format) c.partition c.items)) mid.bytes new.bytes
    → new.size ≡ mid.size + chunk_width (edge_width job.format) (length c.items)
    → HasChunks job (made ++ c ∷ []) e new
device_here job made c e number mid new law here few has step appended grown =
    let text : List ℕ = chunk_bytes (edge_layout job.format) c.partition c.items in
    let whole : graph_with 0 job e (made ++ c ∷ []) ≡ graph_with 0 job e made ++ text = graph-here 0 job e made c here in
    let wide : length text ≡ chunk_width (edge_width job.format) (length c.items) = length-chunk_bytes (edge_layout job.format) (edge_layout_is job.format) c.partition c.items in
    record {
      size = omega (arith, grown, has.size, wide, ap length whole, length-append (graph_with 0 job e made) text);
      bound = omega (arith, grown, has.bound, width_few job.format (length c.items) few, length-append made (c ∷ []));
      read = subst (λ bytes. IfSome new.bytes (λ told. told ≡ bytes)) (sym whole) (read_more text (graph_with 0 job e made) mid.bytes new.bytes appended has.read);
      closed = keeps_now IsClosedFront number mid new law step.keeps has.closed;
    }

device_other : (job : Job) (made : List (Chunk Edge)) (c : Chunk Edge) (e : ℕ) (disk : DiskState) → next_engine job made ≢ e → HasChunks job made e disk → HasChunks job (made ++ c ∷ []) e disk
device_other job made c e disk other has =
    let same : graph_with 0 job e (made ++ c ∷ []) ≡ graph_with 0 job e made = graph-other 0 job e made c other in
    record {
      size = has.size ∙ ap length (sym same);
      bound = omega (arith, has.bound, length-append made (c ∷ []));
      read = subst (λ bytes. IfSome disk.bytes (λ told. told ≡ bytes)) (sym same) has.read;
      closed = has.closed;
    }

-- **All of it.**
pub made_more : {X : Type 0} (state : X → DiskState) (job : Job) (made : List (Chunk Edge)) (c : Chunk Edge) (placer placer' : Placing) (index index' : List (List Place)) (graphs : List X) (e at number : ℕ) (mid new : X)
    → ((x : X) → IsDisk (state x)) → HasMade state job made placer index graphs → length made < MOST_PLACES → e < length graphs → length graphs ≤ 8 → c.partition < 64 → length c.items ≤ 65536
    → e ≡ engine_of job.seed edge_stream job.engines (length made) → HasPlaced job.seed edge_stream job.engines (length made + 1) placer'
    → at ≡ (state (get_or graphs e mid)).size → index' ≡ with_place index e c.partition (on_graph at)
    → Step IsClosedFront number (state (get_or graphs e mid)) (state new)
    → AsTold (Appends (chunk_bytes (edge_layout job.format) c.partition c.items)) (state (get_or graphs e mid)).bytes (state new).bytes
    → (state new).size ≡ (state (get_or graphs e mid)).size + chunk_width (edge_width job.format) (length c.items)
    → HasMade state job (made ++ c ∷ []) placer' index' (set graphs e new)
made_more {X} state job made c placer placer' index index' graphs e at number mid new laws has room within few_e few_p few engine placed place index_is step appended grown =
    let one : length (made ++ c ∷ []) ≡ length made + 1 = length-append made (c ∷ []) in
    let device = has.devices e mid within in
    let is_place : at ≡ length (graph_with 0 job e made) = place ∙ device.size in
    record {
      many = length-set graphs e new ∙ has.many;
      placed = subst (λ k. HasPlaced job.seed edge_stream job.engines k placer') (sym one) placed;
      few = omega (arith, one, room);
      places = subst (HasPlaces job (made ++ c ∷ [])) (sym (index_is ∙ ap (λ n. with_place index e c.partition (on_graph n)) is_place))
          (places_more job made index e c has.places (sym engine) (omega arith) few_p);
      devices = λ k d below.
          at_set (λ j x. HasChunks job (made ++ c ∷ []) j (state x)) graphs e k new d within
          (λ same. device_here job made c e number (state (get_or graphs e mid)) (state new) (laws new) (sym engine) few device step appended grown)
          (λ other. device_other job made c k (state (get_or graphs k d)) (λ is. other (sym is ∙ sym engine)) (has.devices k d (omega (arith, below, length-set graphs e new))));
    }

-- No chunk, behind a head.
pub none_made : (job : Job) (e : ℕ) (disk : DiskState) → HasHead job e disk → HasChunks job [] e disk
none_made job e disk has = record {
  size = has.size ∙ sym (length-head 0 job e) ∙ ap length (sym (graph-none 0 job e));
  bound = omega (arith, has.size);
  read = subst (λ bytes. IfSome disk.bytes (λ told. told ≡ bytes)) (sym (graph-none 0 job e)) has.read;
  closed = has.closed;
}

-- The chunk's write leaves a closed gate closed.
pub append_step : {T E : Type 0} (job : Job) (made : List (Chunk Edge)) (e number : ℕ) (text : List ℕ) (mid new : DiskState) (result : Result T E) → IsDisk mid → HasChunks job made e mid
    → Writes number mid.size text mid new result → Step IsClosedFront number mid new
append_step job made e number text mid new result law has writes =
    step_call IsClosedFront number (Torn mid.size (length text)) mid new law writes.changes writes.cause.later
    (torn_closed mid.size (length text) (omega (arith, has.size, length-graph 0 job e made)))
