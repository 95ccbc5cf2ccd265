-- One edge more: it waits, or it fills a chunk.
use Rattle.std.proofs.Common.{◌≡◌, ◌∙◌, ℕ, ◌+◌, ◌/◌, ◌<◌, ◌≤◌, true, List, [], ◌∷◌, ◌++◌, length, set, ap, sym, subst, arith}
use Rattle.std.specs.List.{All}
use Rattle.std.proofs.lemmas.List.{append-nil, length-append, get_or-set_same}
use Rattle.std.proofs.lemmas.List.Elements.{All-append, All-cons, All-nil}
use Rattle.graph_model.specs.declared.edge.Edge.{Edge}
use Rattle.graph_model.specs.declared.job.Job.{Job}
use Rattle.graph_model.specs.Jobs.{IsWellFormedJob, parts_of, span_of}
use Rattle.graph_model.proofs.ListLemmas.{at_set, set-twice}
use Rattle.partitioner.proofs.Ranges.{span_positive, partition_of-below}
use Rattle.partitioner.proofs.Made.{some_parts}
use Rattle.chunk_model.specs.Chunks.{full_chunks}
use Rattle.chunk_model.specs.Layout.{holds_edge}
use Rattle.chunk_model.proofs.Waiting.{item_kept, item_fills, full_chunks-more}
use Rattle.chunk_file.specs.declared.index.Place.{Place}
use Rattle.seeded_place.specs.Placing.{Placing}
use Rattle.ports.specs.Disk.{DiskState}
use Rattle.store_model.specs.Graphs.{home_of}
use Rattle.storage_engine.specs.Making.{HasMade, IsMaking, chunk_with}
use Rattle.storage_engine.specs.Waiting.{no_edges, waiting, with_edge}

pub some_span : (job : Job) (v : ℕ) → IsWellFormedJob job → v < job.vertices → 1 ≤ span_of job
some_span job v well below = span_positive job.vertices (parts_of job) v (some_parts job well) below

pub home_below : (job : Job) (edge : Edge) → IsWellFormedJob job → edge.src < job.vertices → home_of job edge < parts_of job
home_below job edge well below = partition_of-below job.vertices (parts_of job) edge.src (some_parts job well) below

-- an edge more in a buffer
pub waiting_with : (buffers : List (List Edge)) (p : ℕ) (edge : Edge) → p < length buffers → waiting (with_edge buffers p edge) p ≡ waiting buffers p ++ edge ∷ []
waiting_with buffers p edge within = get_or-set_same buffers p (waiting buffers p ++ edge ∷ []) no_edges within

pub held_with : (format : ℕ) (es : List Edge) (edge : Edge) → All (λ (e : Edge). holds_edge format e ≡ true) es → holds_edge format edge ≡ true → All (λ (e : Edge). holds_edge format e ≡ true) (es ++ edge ∷ [])
held_with format es edge all one =
    All-append (λ (e : Edge). holds_edge format e ≡ true) es (edge ∷ []) all (All-cons (λ (e : Edge). holds_edge format e ≡ true) edge [] one (All-nil (λ (e : Edge). holds_edge format e ≡ true)))

-- The edge waits.
pub edge_kept : {X : Type 0} (state : X → DiskState) (job : Job) (edges : List Edge) (edge : Edge) (buffers after : List (List Edge)) (placer : Placing) (index : List (List Place)) (graphs : List X)
    → IsWellFormedJob job → edge.src < job.vertices → holds_edge job.format edge ≡ true → IsMaking state job edges buffers placer index graphs
    → after ≡ with_edge buffers (home_of job edge) edge → length (waiting buffers (home_of job edge)) + 1 < job.chunk
    → IsMaking state job (edges ++ edge ∷ []) after placer index graphs
edge_kept {X} state job edges edge buffers after placer index graphs well below held making is room =
    let p = home_of job edge in
    let p_below : p < parts_of job = home_below job edge well below in
    let within : p < length buffers = omega (arith, p_below, making.holds.many) in
    let kept = item_kept job.chunk (home_of job) (parts_of job) edges edge buffers after making.holds p_below room is in
    let same : full_chunks job.chunk (home_of job) [] (edges ++ edge ∷ []) ≡ full_chunks job.chunk (home_of job) [] edges =
    full_chunks-more job.chunk (home_of job) [] edges edge ∙ ap (λ cs. full_chunks job.chunk (home_of job) [] edges ++ cs) kept.1 ∙ append-nil (full_chunks job.chunk (home_of job) [] edges) in
    record {
      holds = kept.0;
      filling = λ q q_below.
          subst (λ bs. length (waiting bs q) < job.chunk) (sym is)
          (at_set (λ j es. length es < job.chunk) buffers p q (waiting buffers p ++ edge ∷ []) no_edges within
          (λ same_place. omega (arith, room, length-append (waiting buffers p) (edge ∷ []))) (λ other. making.filling q q_below));
      held = λ q q_below.
          subst (λ bs. All (λ (e : Edge). holds_edge job.format e ≡ true) (waiting bs q)) (sym is)
          (at_set (λ j es. All (λ (e : Edge). holds_edge job.format e ≡ true) es) buffers p q (waiting buffers p ++ edge ∷ []) no_edges within
          (λ same_place. held_with job.format (waiting buffers p) edge (making.held p p_below) held) (λ other. making.held q q_below));
      made = subst (λ cs. HasMade state job cs placer index graphs) (sym same) making.made;
    }

-- The edge fills its chunk, which was written.
pub edge_fills : {X : Type 0} (state : X → DiskState) (job : Job) (edges : List Edge) (edge : Edge) (buffers between after : List (List Edge)) (placer placer' : Placing) (index index' : List (List Place)) (graphs graphs' : List X)
    → IsWellFormedJob job → edge.src < job.vertices → IsMaking state job edges buffers placer index graphs
    → between ≡ with_edge buffers (home_of job edge) edge → after ≡ set between (home_of job edge) no_edges → length (waiting buffers (home_of job edge)) + 1 ≡ job.chunk
    → HasMade state job (full_chunks job.chunk (home_of job) [] edges ++ chunk_with (home_of job edge) (waiting between (home_of job edge)) ∷ []) placer' index' graphs'
    → IsMaking state job (edges ++ edge ∷ []) after placer' index' graphs'
edge_fills {X} state job edges edge buffers between after placer placer' index index' graphs graphs' well below making is emptied full made =
    let p = home_of job edge in
    let p_below : p < parts_of job = home_below job edge well below in
    let within : p < length buffers = omega (arith, p_below, making.holds.many) in
    let now : after ≡ set buffers p no_edges = emptied ∙ ap (λ bs. set bs p no_edges) is ∙ set-twice buffers p (waiting buffers p ++ edge ∷ []) no_edges in
    let fills = item_fills job.chunk (home_of job) (parts_of job) edges edge buffers after making.holds p_below full now in
    let waits : waiting between p ≡ waiting buffers p ++ edge ∷ [] = ap (λ bs. waiting bs p) is ∙ waiting_with buffers p edge within in
    let more : full_chunks job.chunk (home_of job) [] (edges ++ edge ∷ []) ≡ full_chunks job.chunk (home_of job) [] edges ++ chunk_with p (waiting between p) ∷ [] =
    full_chunks-more job.chunk (home_of job) [] edges edge ∙ ap (λ cs. full_chunks job.chunk (home_of job) [] edges ++ cs) (fills.1 ∙ ap (λ es. chunk_with p es ∷ []) (sym waits)) in
    record {
      holds = fills.0;
      filling = λ q q_below.
          subst (λ bs. length (waiting bs q) < job.chunk) (sym now)
          (at_set (λ j es. length es < job.chunk) buffers p q no_edges no_edges within (λ same. omega (arith, full)) (λ other. making.filling q q_below));
      held = λ q q_below.
          subst (λ bs. All (λ (e : Edge). holds_edge job.format e ≡ true) (waiting bs q)) (sym now)
          (at_set (λ j es. All (λ (e : Edge). holds_edge job.format e ≡ true) es) buffers p q no_edges no_edges within
          (λ same. All-nil (λ (e : Edge). holds_edge job.format e ≡ true)) (λ other. making.held q q_below));
      made = subst (λ cs. HasMade state job cs placer' index' graphs') (sym more) made;
    }

-- The same, at the partition that the code computes.
more_waits : (buffers after : List (List Edge)) (p : ℕ) (edge : Edge) → p < length buffers → after ≡ with_edge buffers p edge → length (waiting after p) ≡ length (waiting buffers p) + 1
more_waits buffers after p edge within is = ap (λ bs. length (waiting bs p)) is ∙ ap length (waiting_with buffers p edge within) ∙ length-append (waiting buffers p) (edge ∷ [])

pub home_is : (job : Job) (edge : Edge) (span : ℕ) → span ≡ span_of job → edge.src / span ≡ home_of job edge
home_is job edge span is = ap (λ n. edge.src / n) is

pub kept_at : {X : Type 0} (state : X → DiskState) (job : Job) (edges : List Edge) (edge : Edge) (p : ℕ) (buffers after : List (List Edge)) (placer : Placing) (index : List (List Place)) (graphs : List X)
    → p ≡ home_of job edge → IsWellFormedJob job → edge.src < job.vertices → holds_edge job.format edge ≡ true → IsMaking state job edges buffers placer index graphs
    → after ≡ with_edge buffers p edge → length (waiting after p) < job.chunk
    → IsMaking state job (edges ++ edge ∷ []) after placer index graphs
kept_at state job edges edge p buffers after placer index graphs home well below held making is room =
    let within : p < length buffers = omega (arith, home, home_below job edge well below, making.holds.many) in
    let room' : length (waiting buffers p) + 1 < job.chunk = omega (arith, room, more_waits buffers after p edge within is) in
    edge_kept state job edges edge buffers after placer index graphs well below held making (subst (λ k. after ≡ with_edge buffers k edge) home is) (subst (λ k. length (waiting buffers k) + 1 < job.chunk) home room')

pub fills_at : {X : Type 0} (state : X → DiskState) (job : Job) (edges : List Edge) (edge : Edge) (p : ℕ) (buffers between after : List (List Edge)) (placer placer' : Placing) (index index' : List (List Place)) (graphs graphs' : List X)
    → p ≡ home_of job edge → IsWellFormedJob job → edge.src < job.vertices → IsMaking state job edges buffers placer index graphs
    → between ≡ with_edge buffers p edge → after ≡ set between p no_edges → job.chunk ≤ length (waiting between p)
    → HasMade state job (full_chunks job.chunk (home_of job) [] edges ++ chunk_with p (waiting between p) ∷ []) placer' index' graphs'
    → IsMaking state job (edges ++ edge ∷ []) after placer' index' graphs'
fills_at state job edges edge p buffers between after placer placer' index index' graphs graphs' home well below making is emptied full made =
    let p_below : p < parts_of job = subst (λ k. k < parts_of job) (sym home) (home_below job edge well below) in
    let within : p < length buffers = omega (arith, p_below, making.holds.many) in
    let whole : length (waiting buffers p) + 1 ≡ job.chunk = omega (arith, full, more_waits buffers between p edge within is, making.filling p p_below) in
    edge_fills state job edges edge buffers between after placer placer' index index' graphs graphs' well below making
    (subst (λ k. between ≡ with_edge buffers k edge) home is) (subst (λ k. after ≡ set between k no_edges) home emptied) (subst (λ k. length (waiting buffers k) + 1 ≡ job.chunk) home whole)
    (subst (λ k. HasMade state job (full_chunks job.chunk (home_of job) [] edges ++ chunk_with k (waiting between k) ∷ []) placer' index' graphs') home made)

pub held_at : (job : Job) (edges : List Edge) (buffers after : List (List Edge)) (p : ℕ) (edge : Edge) → p < length buffers → All (λ (e : Edge). holds_edge job.format e ≡ true) (waiting buffers p) → holds_edge job.format edge ≡ true
    → after ≡ with_edge buffers p edge → All (λ (e : Edge). holds_edge job.format e ≡ true) (waiting after p)
held_at job edges buffers after p edge within all one is =
    subst (λ bs. All (λ (e : Edge). holds_edge job.format e ≡ true) (waiting bs p)) (sym is)
    (subst (All (λ (e : Edge). holds_edge job.format e ≡ true)) (sym (waiting_with buffers p edge within)) (held_with job.format (waiting buffers p) edge all one))
