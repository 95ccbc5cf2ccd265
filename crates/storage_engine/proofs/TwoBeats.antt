-- A store is made in one beat, and its gates are opened in the next.
use Rattle.std.proofs.Common.{◌≡◌, ◌∙◌, ◌⊎◌, ℕ, ◌+◌, ◌<◌, ◌≤◌, List, [], ◌∷◌, length, Option, Some, None, IfSome, inl, inr, refl, ap, subst, arith}
use Rattle.graph_model.specs.declared.edge.Edge.{Edge}
use Rattle.graph_model.specs.declared.job.Job.{Job}
use Rattle.graph_model.specs.Answer.{edges, IsAccepted}
use Rattle.chunk_file.specs.declared.index.Place.{Place}
use Rattle.ports.specs.Told.{AsTold}
use Rattle.store_model.specs.Slots.{IsBlank}
use Rattle.store_model.proofs.Growing.{length-graph}
use Rattle.storage_engine.specs.Making.{HasChunks, HasPlaces}
use Rattle.storage_engine.specs.declared.fault.PrepareFault.{PrepareFault}
use Rattle.storage_engine.specs.declared.fault.PrepareFault.TheVariants.{BadLine, TooLong, ReadFault, DiskFault, Memory}
use Rattle.chunk_model.specs.Chunks.{Chunk}
use Rattle.ports.specs.Bytes.{after_write}
use Rattle.ports.specs.Disk.{DiskState, IsDisk, InEveryImage}
use Rattle.ports.specs.Stops.{Leaves, LeavesByBeat}
use Rattle.ports.proofs.Stops.{in_turn, by_beat, by_beat_weaker, weaker}
use Rattle.ports.proofs.Told.{settled_has}
use Rattle.store_model.specs.Gates.{OPEN}
use Rattle.store_model.specs.Heads.{IsShutGraph, front}
use Rattle.store_model.specs.Graphs.{graph_with, graph, edge_chunks}
use Rattle.storage_engine.specs.Steps.{Anything, Step, Opens, Opened, IsClosedFront, ShutOrOpened, HoldsExactly}
use Rattle.storage_engine.specs.Preparing.{WhilePreparing, HasReadAll, HasPrepareCause, IsMadeGraph}
use Rattle.storage_engine.proofs.Keeping.{closed_shut}

-- the gate alone is another
pub gate_opened : (job : Job) (e : ℕ) (made : List (Chunk Edge)) → after_write 0 (165 ∷ []) (graph_with 0 job e made) ≡ graph_with 165 job e made
unfolding graph_with front
gate_opened job e made = refl

opened_whole : (job : Job) (text : Option (List ℕ)) (e : ℕ) (b c : List ℕ)
    → IfSome text (λ t. b ≡ graph_with 0 job e (edge_chunks job (edges job t)))
    → c ≡ after_write 0 (OPEN ∷ []) b → IfSome text (λ t. c ≡ graph job (edges job t) e)
opened_whole job (Some t) e b c holds opened = opened ∙ ap (after_write 0 (OPEN ∷ [])) holds ∙ gate_opened job e (edge_chunks job (edges job t))
opened_whole job None e b c holds opened = tt

-- what a device tells, of a text that is told
read_as : (job : Job) (text : Option (List ℕ)) (e : ℕ) (bytes : Option (List ℕ)) (b : List ℕ)
    → IfSome text (λ t. IfSome bytes (λ told. told ≡ graph_with 0 job e (edge_chunks job (edges job t)))) → bytes ≡ Some b
    → IfSome text (λ t. b ≡ graph_with 0 job e (edge_chunks job (edges job t)))
read_as job (Some t) e bytes b holds is = subst (λ (x : Option (List ℕ)). IfSome x (λ told. told ≡ graph_with 0 job e (edge_chunks job (edges job t)))) is holds
read_as job None e bytes b holds is = tt

-- the first beat alone
pub one_beat : (job : Job) (text : Option (List ℕ)) (e number : ℕ) (old new : DiskState) → Step IsShutGraph number old new
    → LeavesByBeat old new (λ b c. b ≤ number → WhilePreparing job text (number + 1) e old b c)
one_beat job text e number old new step =
    by_beat_weaker old new (λ b c. InEveryImage old IsShutGraph → IsShutGraph c) (λ b c. b ≤ number → WhilePreparing job text (number + 1) e old b c)
    (by_beat number old new (λ c. InEveryImage old IsShutGraph → IsShutGraph c) step.keeps)
    (λ b c kept within. record { first_beat = λ before shut. kept shut; second_beat = λ after. absurd (omega (arith, within, after)) })

-- and the second
pub two_beats : (job : Job) (text : Option (List ℕ)) (e number : ℕ) (old mid new : DiskState) → IsDisk mid → mid.beat ≤ number
    → Step IsShutGraph number old mid → InEveryImage mid IsClosedFront
    → IfSome text (λ t. IfSome mid.bytes (λ b. b ≡ graph_with 0 job e (edge_chunks job (edges job t))))
    → Opens (number + 1) mid new
    → LeavesByBeat old new (λ b c. b ≤ number + 1 → WhilePreparing job text (number + 1) e old b c)
two_beats job text e number old mid new law beat step closed holds opens =
    by_beat_weaker old new
    (λ b c. ((b < number + 1) × (InEveryImage old IsShutGraph → IsShutGraph c)) ⊎ ((number + 1 ≤ b) × Second c))
    (λ b c. b ≤ number + 1 → WhilePreparing job text (number + 1) e old b c)
    (in_turn number (number + 1) old mid new (λ c. InEveryImage old IsShutGraph → IsShutGraph c) Second law beat (omega arith) step.keeps leaves begins)
    (λ b c claim within. record {
      first_beat = λ before shut. elim claim [ inl first ↦ first.1 shut | inr second ↦ absurd (omega (arith, second.0, before)) ];
      second_beat = λ after. elim claim [ inl first ↦ absurd (omega (arith, first.0, after)) | inr second ↦ second.1 ];
    })
  where
    Second : List ℕ → Type 0
    Second c = IsShutGraph c ⊎ IfSome text (λ t. c ≡ graph job (edges job t) e)

    begins : InEveryImage mid Second
    begins c image = inl (closed_shut c (closed c image))

    whole : (c : List ℕ) → ShutOrOpened mid c → Second c
    whole c (inl shut) = inl shut
    whole c (inr opened) = inr (opened_whole job text e opened.0 c (read_as job text e mid.bytes opened.0 holds opened.1) opened.2)

    leaves : Leaves (number + 1) mid new Second
    leaves = weaker (number + 1) mid new (ShutOrOpened mid) Second opens.leaves whole

-- the cause of an answer, of a part of the call
pub cause_weaker : (job : Job) (text : Option (List ℕ)) (rose rose' read read' : Type 0) (by : PrepareFault) → (rose → rose') → (read → read') → HasPrepareCause job text rose read by → HasPrepareCause job text rose' read' by
cause_weaker job text rose rose' read read' (BadLine k) f h cause = cause
cause_weaker job text rose rose' read read' TooLong f h cause = cause
cause_weaker job text rose rose' read read' ReadFault f h cause = h cause
cause_weaker job text rose rose' read read' DiskFault f h cause = f cause
cause_weaker job text rose rose' read read' Memory f h cause = tt

-- What was read of a store that was made, in words of its text.
told_graph : (job : Job) (text left : Option (List ℕ)) (graph_edges : List Edge) (P : List Edge → Type 0) → HasReadAll job text left graph_edges → P graph_edges → IfSome text (λ t. P (edges job t))
told_graph job (Some t) left graph_edges P read holds = subst P read.are_edges holds
told_graph job None left graph_edges P read holds = tt

pub read_as_promised : (job : Job) (text left : Option (List ℕ)) (graph_edges : List Edge) → HasReadAll job text left graph_edges → IfSome text (λ t. IsAccepted job t × (left ≡ Some []))
read_as_promised job (Some t) left graph_edges read = (read.accepted, read.nothing_left)
read_as_promised job None left graph_edges read = tt

pub places_as_promised : (job : Job) (text left : Option (List ℕ)) (graph_edges : List Edge) (index : List (List Place)) → HasReadAll job text left graph_edges → HasPlaces job (edge_chunks job graph_edges) index
    → IfSome text (λ t. HasPlaces job (edge_chunks job (edges job t)) index)
places_as_promised job text left graph_edges index read has = told_graph job text left graph_edges (λ es. HasPlaces job (edge_chunks job es) index) read has

opened_read : (g : List ℕ) (x y : Option (List ℕ)) → AsTold (λ a b. b ≡ after_write 0 (OPEN ∷ []) a) x y → IfSome x (λ told. told ≡ g) → IfSome y (λ told. told ≡ after_write 0 (OPEN ∷ []) g)
opened_read g (Some a) (Some b) opened is = opened ∙ ap (after_write 0 (OPEN ∷ [])) is
opened_read g (Some a) None opened is = absurd opened
opened_read g None (Some b) opened is = absurd opened
opened_read g None None opened is = tt

-- an opened device is exactly the graph device of its edges
pub made_device : (job : Job) (es : List Edge) (e : ℕ) (mid new : DiskState) → HasChunks job (edge_chunks job es) e mid → Opened mid new → HoldsExactly (graph job es e) new
made_device job es e mid new has opened =
    let whole : after_write 0 (OPEN ∷ []) (graph_with 0 job e (edge_chunks job es)) ≡ graph job es e = gate_opened job e (edge_chunks job es) in
    let sizes : length (graph_with 0 job e (edge_chunks job es)) ≡ length (graph job es e) = omega (arith, length-graph 0 job e (edge_chunks job es), length-graph OPEN job e (edge_chunks job es)) in
    let reads : IfSome new.bytes (λ told. told ≡ graph job es e) =
    subst (λ b. IfSome new.bytes (λ told. told ≡ b)) whole (opened_read (graph_with 0 job e (edge_chunks job es)) mid.bytes new.bytes opened.bytes has.read) in
    record {
      size = opened.size ∙ has.size ∙ sizes;
      read = reads;
      images = settled_has new (λ c. c ≡ graph job es e) opened.settled reads;
    }

pub graph_as_promised : (job : Job) (text left : Option (List ℕ)) (graph_edges : List Edge) (e : ℕ) (new : DiskState) → HasReadAll job text left graph_edges → HoldsExactly (graph job graph_edges e) new
    → IfSome text (λ t. IsMadeGraph job t e new)
graph_as_promised job text left graph_edges e new read holds =
    if_some text (told_graph job text left graph_edges (λ es. HoldsExactly (graph job es e) new) read holds)
  where
    if_some : (x : Option (List ℕ)) → IfSome x (λ t. HoldsExactly (graph job (edges job t) e) new) → IfSome x (λ t. IsMadeGraph job t e new)
    if_some (Some t) has = record { size = has.size; read = has.read; images = has.images }
    if_some None has = tt

pub chunks_as_promised : (job : Job) (text left : Option (List ℕ)) (graph_edges : List Edge) (e : ℕ) (disk : DiskState) → HasReadAll job text left graph_edges → HasChunks job (edge_chunks job graph_edges) e disk
    → IfSome text (λ t. IfSome disk.bytes (λ b. b ≡ graph_with 0 job e (edge_chunks job (edges job t))))
chunks_as_promised job text left graph_edges e disk read has = told_graph job text left graph_edges (λ es. IfSome disk.bytes (λ b. b ≡ graph_with 0 job e (edge_chunks job es))) read has.read

-- Values devices: in the second beat they stand as the first left them.
pub values_first : (own number : ℕ) (old new : DiskState) → Step Anything number old new → LeavesByBeat old new (λ b c. b ≤ number → number + 1 ≤ b → IsBlank own c)
values_first own number old new step =
    by_beat_weaker old new (λ b c. InEveryImage old Anything → Anything c) (λ b c. b ≤ number → number + 1 ≤ b → IsBlank own c)
    (by_beat number old new (λ c. InEveryImage old Anything → Anything c) step.keeps)
    (λ b c kept first second. absurd (omega (arith, first, second)))

pub values_second : (own number : ℕ) (old new : DiskState) → IsDisk new → new.beat ≤ number → InEveryImage new (IsBlank own) → Step Anything number old new
    → LeavesByBeat old new (λ b c. b ≤ number + 1 → number + 1 ≤ b → IsBlank own c)
values_second own number old new law beat blank step = record {
  later = step.keeps.later;
  each = λ b c stop first second. blank c (law.later_beats b old.moment c (omega (arith, beat, second)) stop);
  since = λ b t c before stop. inr (λ first second. blank c (law.later_beats b t c (omega (arith, beat, second)) stop));
}
