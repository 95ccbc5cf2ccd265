-- What waits is written, partition by partition; and how a maker begins.
use Rattle.std.proofs.Common.{◌≡◌, ◌∙◌, ℕ, suc, ◌+◌, ◌*◌, ◌<◌, ◌≤◌, List, [], ◌∷◌, ◌++◌, length, flat_map, replicate, take, Option, Some, None, IfSome, get_or, set, true, refl, ap, sym, subst, arith}
use Rattle.std.specs.List.{All, range_with_len}
use Rattle.std.proofs.lemmas.List.{nil_from_length, take_more, append-nil, append_assoc, length-replicate, get_or-replicate, get_or-set_other, length-set}
use Rattle.std.proofs.lemmas.List.Folds.{sum_by-replicate}
use Rattle.std.proofs.lemmas.List.Elements.{All-nil}
use Rattle.graph_model.specs.declared.edge.Edge.{Edge}
use Rattle.graph_model.specs.declared.job.Job.{Job}
use Rattle.graph_model.specs.Jobs.{IsWellFormedJob, parts_of}
use Rattle.ports.specs.Bytes.{Same}
use Rattle.ports.specs.Disk.{DiskState, IsDisk}
use Rattle.ports.specs.Told.{AsTold}
use Rattle.ports.specs.Devices.{Each}
use Rattle.chunk_model.specs.Chunks.{Chunk, chunk_of, full_chunks, left_over}
use Rattle.chunk_model.specs.Layout.{holds_edge}
use Rattle.chunk_model.proofs.Waiting.{flat_map-more, hold_none}
use Rattle.chunk_file.specs.declared.index.Place.{Place}
use Rattle.chunk_file.specs.Places.{no_places, places_of, total_of}
use Rattle.seeded_place.specs.Placing.{Placing, HasPlaced, edge_stream}
use Rattle.store_model.specs.Graphs.{home_of, edge_chunks, graph_with}
use Rattle.storage_engine.specs.Making.{HasHead, HasChunks, HasPlaces, HasMade, HasMakeCause, IsMaking, IsFlushed, chunk_with}
use Rattle.storage_engine.specs.Steps.{Step, EachOne, Synced, IsClosedFront}
use Rattle.storage_engine.specs.declared.fault.MakeFault.{MakeFault}
use Rattle.storage_engine.specs.declared.fault.MakeFault.TheVariants.{DiskFault}
use Rattle.storage_engine.proofs.Keeping.{keeps_now}
use Rattle.storage_engine.specs.Waiting.{no_edges, waiting}
use Rattle.storage_engine.proofs.OneChunk.{none_made}

-- the chunks of what is left over of the partitions below a number
abbrev pub rests_below : Job → List Edge → ℕ → List (Chunk Edge)
rests_below job edges i = flat_map (λ p. chunk_of p (left_over job.chunk (home_of job) edges p)) (range_with_len 0 i)

pub record RestWritten {X : Type 0} (state : X → DiskState) (job : Job) (edges : List Edge) (i : ℕ) (before buffers : List (List Edge)) (placer : Placing) (index : List (List Place)) (graphs : List X) : Type 0 where
  pub made : HasMade state job (full_chunks job.chunk (home_of job) [] edges ++ rests_below job edges i) placer index graphs
  pub rest : (q : ℕ) → i ≤ q → waiting buffers q ≡ waiting before q
  pub many : length buffers ≡ length before

pub rest_begins : {X : Type 0} (state : X → DiskState) (job : Job) (edges : List Edge) (buffers : List (List Edge)) (placer : Placing) (index : List (List Place)) (graphs : List X)
    → IsMaking state job edges buffers placer index graphs → RestWritten state job edges 0 buffers buffers placer index graphs
rest_begins state job edges buffers placer index graphs making = record {
  made = subst (λ cs. HasMade state job cs placer index graphs) (sym (append-nil (full_chunks job.chunk (home_of job) [] edges))) making.made;
  rest = λ q from. refl;
  many = refl;
}

next_rests : (job : Job) (edges : List Edge) (i : ℕ) (cs : List (Chunk Edge)) → chunk_of i (left_over job.chunk (home_of job) edges i) ≡ cs
    → full_chunks job.chunk (home_of job) [] edges ++ rests_below job edges (i + 1) ≡ (full_chunks job.chunk (home_of job) [] edges ++ rests_below job edges i) ++ cs
next_rests job edges i cs is =
    let f : ℕ → List (Chunk Edge) = λ p. chunk_of p (left_over job.chunk (home_of job) edges p) in
    let full : List (Chunk Edge) = full_chunks job.chunk (home_of job) [] edges in
    let more : i + 1 ≡ suc i = omega arith in
    let here : 0 + i ≡ i = omega arith in
    ap (λ n. full ++ flat_map f (range_with_len 0 n)) more
    ∙ ap (λ xs. full ++ xs) (flat_map-more f 0 i ∙ ap (λ k. flat_map f (range_with_len 0 i) ++ f k) here ∙ ap (λ xs. flat_map f (range_with_len 0 i) ++ xs) is)
    ∙ sym (append_assoc full (flat_map f (range_with_len 0 i)) cs)

chunk_of_some : (p : ℕ) (items : List Edge) → 0 < length items → chunk_of p items ≡ chunk_with p items ∷ []
chunk_of_some p [] some = absurd (omega arith)
chunk_of_some p (x ∷ xs) some = refl

-- nothing waited
pub rest_skipped : {X : Type 0} (state : X → DiskState) (job : Job) (edges : List Edge) (i : ℕ) (before buffers : List (List Edge)) (placer placer0 : Placing) (index index0 : List (List Place)) (graphs graphs0 : List X)
    → IsMaking state job edges before placer0 index0 graphs0 → i < parts_of job → RestWritten state job edges i before buffers placer index graphs → length (waiting buffers i) ≡ 0
    → RestWritten state job edges (i + 1) before buffers placer index graphs
rest_skipped state job edges i before buffers placer placer0 index index0 graphs graphs0 making below written none =
    let left : left_over job.chunk (home_of job) edges i ≡ [] = sym (making.holds.hold i below) ∙ sym (written.rest i (omega arith)) ∙ nil_from_length (waiting buffers i) none in
    let same = next_rests job edges i [] (ap (chunk_of i) left) ∙ append-nil (full_chunks job.chunk (home_of job) [] edges ++ rests_below job edges i) in
    record {
      made = subst (λ cs. HasMade state job cs placer index graphs) (sym same) written.made;
      rest = λ q from. written.rest q (omega arith);
      many = written.many;
    }

-- what waited was written
pub rest_written : {X : Type 0} (state : X → DiskState) (job : Job) (edges : List Edge) (i : ℕ) (before buffers after : List (List Edge)) (placer placer' placer0 : Placing) (index index' index0 : List (List Place)) (graphs graphs' graphs0 : List X)
    → IsMaking state job edges before placer0 index0 graphs0 → i < parts_of job → RestWritten state job edges i before buffers placer index graphs → 0 < length (waiting buffers i)
    → HasMade state job ((full_chunks job.chunk (home_of job) [] edges ++ rests_below job edges i) ++ chunk_with i (waiting buffers i) ∷ []) placer' index' graphs'
    → after ≡ set buffers i no_edges
    → RestWritten state job edges (i + 1) before after placer' index' graphs'
rest_written state job edges i before buffers after placer placer' placer0 index index' index0 graphs graphs' graphs0 making below written some made emptied =
    let left : left_over job.chunk (home_of job) edges i ≡ waiting buffers i = sym (making.holds.hold i below) ∙ sym (written.rest i (omega arith)) in
    let same = next_rests job edges i (chunk_with i (waiting buffers i) ∷ []) (ap (chunk_of i) left ∙ chunk_of_some i (waiting buffers i) some) in
    record {
      made = subst (λ cs. HasMade state job cs placer' index' graphs') (sym same) made;
      rest = λ q from. ap (λ bs. waiting bs q) emptied ∙ get_or-set_other buffers i q no_edges no_edges (omega arith) ∙ written.rest q (omega arith);
      many = ap length emptied ∙ length-set buffers i no_edges ∙ written.many;
    }

-- all of it was
pub rest_ends : {X : Type 0} (state : X → DiskState) (job : Job) (edges : List Edge) (i : ℕ) (before buffers : List (List Edge)) (placer : Placing) (index : List (List Place)) (graphs : List X)
    → i ≡ parts_of job → RestWritten state job edges i before buffers placer index graphs → HasMade state job (edge_chunks job edges) placer index graphs
rest_ends state job edges i before buffers placer index graphs all written =
    subst (λ n. HasMade state job (full_chunks job.chunk (home_of job) [] edges ++ rests_below job edges n) placer index graphs) all written.made

-- A maker that was given no edge.
no_places_made : (job : Job) (index : List (List Place)) → index ≡ replicate 512 no_places → HasPlaces job [] index
no_places_made job index is = record {
  lists = ap length is ∙ length-replicate 512 no_places;
  total = ap total_of is ∙ sum_by-replicate (λ (places : List Place). length places) 512 no_places;
  places = λ e p few_e few_p. ap (λ i. places_of i e p) is ∙ get_or-replicate 512 (64 * e + p) no_places no_places (omega arith);
}

pub making_begins : {X : Type 0} (state : X → DiskState) (job : Job) (buffers : List (List Edge)) (placer : Placing) (index : List (List Place)) (graphs : List X)
    → IsWellFormedJob job → buffers ≡ replicate (parts_of job) no_edges → HasPlaced job.seed edge_stream job.engines 0 placer → index ≡ replicate 512 no_places → length graphs ≡ job.engines
    → ((e : ℕ) (d : X) → e < length graphs → HasHead job e (state (get_or graphs e d)))
    → IsMaking state job [] buffers placer index graphs
making_begins state job buffers placer index graphs well empty placed no_index many heads =
    let none : (p : ℕ) → p < parts_of job → waiting buffers p ≡ [] = λ p below. ap (λ bs. waiting bs p) empty ∙ get_or-replicate (parts_of job) p no_edges no_edges below in
    record {
      holds = hold_none job.chunk (home_of job) (parts_of job) buffers (ap length empty ∙ length-replicate (parts_of job) no_edges) none;
      filling = λ p below. subst (λ es. length es < job.chunk) (sym (none p below)) (omega (arith, well.chunk));
      held = λ p below. subst (All (λ (e : Edge). holds_edge job.format e ≡ true)) (sym (none p below)) (All-nil (λ (e : Edge). holds_edge job.format e ≡ true));
      made = record {
        many = many;
        placed = placed;
        few = omega arith;
        places = no_places_made job index no_index;
        devices = λ e d below. none_made job e (state (get_or graphs e d)) (heads e d below);
      };
    }

same_read : (g : List ℕ) (x y : Option (List ℕ)) → AsTold Same x y → IfSome x (λ told. told ≡ g) → IfSome y (λ told. told ≡ g)
same_read g (Some a) (Some b) same is = same ∙ is
same_read g (Some a) None same is = absurd same
same_read g None (Some b) same is = absurd same
same_read g None None same is = tt

synced_chunks : (job : Job) (made : List (Chunk Edge)) (e number : ℕ) (mid new : DiskState) → IsDisk new → HasChunks job made e mid → Step IsClosedFront number mid new → Synced mid new → HasChunks job made e new
synced_chunks job made e number mid new law has step synced = record {
  size = synced.size ∙ has.size;
  bound = omega (arith, synced.size, has.bound);
  read = same_read (graph_with 0 job e made) mid.bytes new.bytes synced.bytes has.read;
  closed = keeps_now IsClosedFront number mid new law step.keeps has.closed;
}

-- the cause of a disk fault
pub rose_cause : (rose : Type 0) (fault : MakeFault) → HasMakeCause rose fault → fault ≡ DiskFault → rose
rose_cause rose fault cause is = subst (HasMakeCause rose) is cause

-- an edge more of a list
pub making_further : {X : Type 0} (state : X → DiskState) (job now : Job) (before edges : List Edge) (k : ℕ) (d : Edge) (buffers buffers' : List (List Edge)) (placer placer' : Placing) (index index' : List (List Place)) (graphs graphs' : List X)
    → now ≡ job → k < length edges → IsMaking state job (before ++ take k edges) buffers placer index graphs
    → ((so_far : List Edge) → IsMaking state now so_far buffers placer index graphs → IsMaking state now (so_far ++ get_or edges k d ∷ []) buffers' placer' index' graphs')
    → IsMaking state job (before ++ take (k + 1) edges) buffers' placer' index' graphs'
making_further state job now before edges k d buffers buffers' placer placer' index index' graphs graphs' same within making further =
    let more : before ++ take (k + 1) edges ≡ (before ++ take k edges) ++ get_or edges k d ∷ [] =
    ap (λ ys. before ++ ys) (take_more edges k d within) ∙ sym (append_assoc before (take k edges) (get_or edges k d ∷ [])) in
    subst (λ xs. IsMaking state job xs buffers' placer' index' graphs') (sym more)
    (subst (λ j. IsMaking state j ((before ++ take k edges) ++ get_or edges k d ∷ []) buffers' placer' index' graphs') same
    (further (before ++ take k edges) (subst (λ j. IsMaking state j (before ++ take k edges) buffers placer index graphs) (sym same) making)))

-- all chunks are on settled devices
pub flushed : {X : Type 0} (state : X → DiskState) (job : Job) (edges : List Edge) (placer : Placing) (index : List (List Place)) (mids news : List X) (number : ℕ) → ((x : X) → IsDisk (state x))
    → HasMade state job (edge_chunks job edges) placer index mids → Each state (Step IsClosedFront number) mids news → EachOne state (λ e old new. Synced old new) mids news
    → IsFlushed state job edges index news
flushed state job edges placer index mids news number laws made steps synced = record {
  few = made.few;
  places = made.places;
  devices = λ e d within.
      let below = omega_below e within in
      synced_chunks job (edge_chunks job edges) e number (state (get_or mids e d)) (state (get_or news e d)) (laws (get_or news e d)) (made.devices e d below) (steps.each e d below) (synced e d within);
  settled = λ e d within. (synced e d within).settled;
}
  where
    omega_below : (e : ℕ) → e < length news → e < length mids
    omega_below e within = omega (arith, within, steps.many)
