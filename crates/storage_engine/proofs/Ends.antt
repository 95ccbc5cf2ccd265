-- How the making of a store ends: in its first beat, or in the second.
use Rattle.std.proofs.Common.{◌≡◌, ◌≢◌, ◌∙◌, ◌⊎◌, inl, inr, ℕ, ◌+◌, ◌<◌, ◌≤◌, ◌++◌, List, length, take, drop, get_or, Option, Some, None, IfSome, Result, Ok, Err, refl, sym, ap, subst, arith}
use Rattle.std.specs.List.{All}
use Rattle.std.proofs.lemmas.List.{take_at}
use Rattle.chunk_file.specs.declared.index.TheConstants.{MOST_PLACES}
use Rattle.storage_engine.specs.declared.fault.PrepareFault.{PrepareFault}
use Rattle.storage_engine.specs.declared.fault.PrepareFault.TheVariants.{DiskFault}
use Rattle.graph_model.specs.declared.edge.Edge.{Edge}
use Rattle.graph_model.specs.declared.job.Job.{Job}
use Rattle.chunk_file.specs.declared.index.Place.{Place}
use Rattle.ports.specs.Disk.{DiskState, IsDisk, InEveryImage}
use Rattle.ports.specs.Stops.{LeavesByBeat}
use Rattle.ports.specs.Devices.{Each, OneRose, NoneRose}
use Rattle.store_model.specs.Heads.{IsShutGraph}
use Rattle.store_model.specs.Slots.{IsBlank}
use Rattle.store_model.specs.Kept.{own_of}
use Rattle.storage_engine.specs.Making.{HasHead, IsFlushed, IsBlankDevice}
use Rattle.storage_engine.specs.Preparing.{WhilePreparing, HasReadAll, IsMadeOf, IsMadeGraph, IsMadeValues, IsOfText, HasPrepareCause, Prepares}
use Rattle.storage_engine.specs.Steps.{Anything, Step, EachOne, IsClosedFront, IsLater, Opens, Opened}
use Rattle.storage_engine.proofs.Keeping.{closed_shut, keeps_now, told_then}
use Rattle.storage_engine.proofs.Every.{each_then, each_closed, one_rose_later}
use Rattle.storage_engine.proofs.TwoBeats.{one_beat, two_beats, read_as_promised, places_as_promised, chunks_as_promised, made_device, graph_as_promised, values_first, values_second}

pub heads_closed : {X : Type 0} (state : X → DiskState) (job : Job) (olds mids : List X) → EachOne state (λ e old new. HasHead job e new) olds mids → (e : ℕ) (d : X) → e < length mids → InEveryImage (state (get_or mids e d)) IsClosedFront
heads_closed state job olds mids heads e d within = (heads e d within).closed

-- from the beginning to closed devices with chunks
pub shut_then : {X : Type 0} (state : X → DiskState) (number : ℕ) (job : Job) (olds mids news : List X) → ((x : X) → IsDisk (state x)) → Each state (Step IsShutGraph number) olds mids
    → EachOne state (λ e old new. HasHead job e new) olds mids → Each state (Step IsClosedFront number) mids news → Each state (Step IsShutGraph number) olds news
shut_then state number job olds mids news laws first heads next =
    each_then state IsShutGraph number olds mids news laws first (each_closed state number mids news (heads_closed state job olds mids heads) next)

-- so that no stop leaves an open one
pub closed_then : {X : Type 0} (state : X → DiskState) (number : ℕ) (job : Job) (olds mids news : List X) → ((x : X) → IsDisk (state x)) → EachOne state (λ e old new. HasHead job e new) olds mids
    → Each state (Step IsClosedFront number) mids news → All (λ x. InEveryImage (state x) IsShutGraph) news
closed_then state number job olds mids news laws heads next = λ e d below.
    let within : e < length mids = omega (arith, below, next.many) in
    λ c image. closed_shut c (keeps_now IsClosedFront number (state (get_or mids e d)) (state (get_or news e d)) (laws (get_or news e d)) (next.each e d within).keeps (heads_closed state job olds mids heads e d within) c image)

-- Counts of faults, and whether a device tells its bytes.
pub later_steps : {X : Type 0} (state : X → DiskState) (P : List ℕ → Type 0) (number many : ℕ) (olds news : List X) → length olds ≡ many → Each state (Step P number) olds news
    → (e : ℕ) (d : X) → e < many → IsLater (state (get_or olds e d)) (state (get_or news e d))
later_steps state P number many olds news all steps e d below =
    let step = steps.each e d (omega (arith, below, all)) in record { faults = step.faults; told = step.told }

pub later_opens : {X : Type 0} (state : X → DiskState) (P : List ℕ → Type 0) (number then many : ℕ) (olds mids news : List X) → length olds ≡ many → Each state (Step P number) olds mids → Each state (Opens then) mids news
    → (e : ℕ) (d : X) → e < many → IsLater (state (get_or olds e d)) (state (get_or news e d))
later_opens state P number then many olds mids news all steps opens e d below =
    let step = steps.each e d (omega (arith, below, all)) in
    let open_step = opens.each e d (omega (arith, below, all, steps.many)) in
    record {
      faults = omega (arith, step.faults, open_step.faults);
      told = told_then (state (get_or olds e d)) (state (get_or mids e d)) (state (get_or news e d)) step.told open_step.told;
    }

-- The last calls of disks are under the beat.
pub beats_after : {X : Type 0} (state : X → DiskState) (P : List ℕ → Type 0) (number : ℕ) (olds news : List X) → All (λ x. (state x).beat ≤ number) olds → Each state (Step P number) olds news → All (λ x. (state x).beat ≤ number) news
beats_after state P number olds news before steps = λ k d below.
    let within : k < length olds = omega (arith, below, steps.many) in (steps.each k d within).beat (before k d within)

pub beats_opened : {X : Type 0} (state : X → DiskState) (number : ℕ) (mids news : List X) → All (λ x. (state x).beat ≤ number) mids → Each state (Opens (number + 1)) mids news → All (λ x. (state x).beat ≤ number + 1) news
beats_opened state number mids news before opens = λ k d below.
    let within : k < length mids = omega (arith, below, opens.many) in
    let earlier : (state (get_or mids k d)).beat ≤ number = before k d within in
    (opens.each k d within).beat (omega arith)

pub beats_later : {X : Type 0} (state : X → DiskState) (number : ℕ) (disks : List X) → All (λ x. (state x).beat ≤ number) disks → All (λ x. (state x).beat ≤ number + 1) disks
beats_later state number disks before = λ k d below. let earlier : (state (get_or disks k d)).beat ≤ number = before k d below in omega arith

-- What stops leave of graph devices: in the first beat alone, and in both.
pub graphs_first : {X : Type 0} (state : X → DiskState) (job : Job) (text : Option (List ℕ)) (number : ℕ) (olds news : List X) → length olds ≡ job.engines → Each state (Step IsShutGraph number) olds news → (e : ℕ) (d : X) → e < job.engines
    → LeavesByBeat (state (get_or olds e d)) (state (get_or news e d)) (λ b c. b ≤ number → WhilePreparing job text (number + 1) e (state (get_or olds e d)) b c)
graphs_first state job text number olds news many steps e d below = one_beat job text e number (state (get_or olds e d)) (state (get_or news e d)) (steps.each e d (omega (arith, below, many)))

pub graphs_second : {X : Type 0} (state : X → DiskState) (job : Job) (text left : Option (List ℕ)) (es : List Edge) (index : List (List Place)) (number : ℕ) (olds mids news : List X) → ((x : X) → IsDisk (state x)) → length olds ≡ job.engines
    → All (λ x. (state x).beat ≤ number) mids → Each state (Step IsShutGraph number) olds mids → HasReadAll job text left es → IsFlushed state job es index mids → Each state (Opens (number + 1)) mids news → (e : ℕ) (d : X) → e < job.engines
    → LeavesByBeat (state (get_or olds e d)) (state (get_or news e d)) (λ b c. b ≤ number + 1 → WhilePreparing job text (number + 1) e (state (get_or olds e d)) b c)
graphs_second state job text left es index number olds mids news laws many beats steps read flushed opens e d below =
    let within : e < length olds = omega (arith, below, many) in
    let within' : e < length mids = omega (arith, within, steps.many) in
    let has = flushed.devices e d within' in
    two_beats job text e number (state (get_or olds e d)) (state (get_or mids e d)) (state (get_or news e d)) (laws (get_or mids e d)) (beats e d within') (steps.each e d within) has.closed
    (chunks_as_promised job text left es e (state (get_or mids e d)) read has) (opens.each e d within')

-- and of values devices
pub blanks_first : {X : Type 0} (state : X → DiskState) (job : Job) (number : ℕ) (olds news : List X) → length olds ≡ job.engines → Each state (Step Anything number) olds news → (e : ℕ) (d : X) → e < job.engines
    → LeavesByBeat (state (get_or olds e d)) (state (get_or news e d)) (λ b c. b ≤ number → number + 1 ≤ b → IsBlank (own_of job e) c)
blanks_first state job number olds news many steps e d below = values_first (own_of job e) number (state (get_or olds e d)) (state (get_or news e d)) (steps.each e d (omega (arith, below, many)))

pub blanks_second : {X : Type 0} (state : X → DiskState) (job : Job) (number : ℕ) (olds news : List X) → ((x : X) → IsDisk (state x)) → length olds ≡ job.engines → All (λ x. (state x).beat ≤ number) news → Each state (Step Anything number) olds news
    → EachOne state (λ e old new. IsBlankDevice job e new) olds news → (e : ℕ) (d : X) → e < job.engines
    → LeavesByBeat (state (get_or olds e d)) (state (get_or news e d)) (λ b c. b ≤ number + 1 → number + 1 ≤ b → IsBlank (own_of job e) c)
blanks_second state job number olds news laws many beats steps blank e d below =
    let within : e < length olds = omega (arith, below, many) in
    let within' : e < length news = omega (arith, within, steps.many) in
    values_second (own_of job e) number (state (get_or olds e d)) (state (get_or news e d)) (laws (get_or news e d)) (beats e d within') (blank e d within').blank (steps.each e d within)

-- What stands at the end.
pub made_values : {X : Type 0} (state : X → DiskState) (job : Job) (olds news : List X) → length news ≡ job.engines → EachOne state (λ e old new. IsBlankDevice job e new) olds news → (e : ℕ) (d : X) → e < job.engines → IsMadeValues job e (state (get_or news e d))
made_values state job olds news many blank e d below =
    let device = blank e d (omega (arith, below, many)) in record { size = device.size; blank = device.blank }

pub made_of : {X : Type 0} (state : X → DiskState) (job : Job) (text left : Option (List ℕ)) (es : List Edge) (index : List (List Place)) (mids news : List X) → length mids ≡ job.engines → length news ≡ job.engines → HasReadAll job text left es → IsFlushed state job es index mids
    → EachOne state (λ e old new. Opened old new) mids news → IsMadeOf state job text index news es
made_of state job text left es index mids news many many' read flushed opened = record {
  within = read.within;
  few = flushed.few;
  places = flushed.places;
  devices = λ e d below. made_device job es e (state (get_or mids e d)) (state (get_or news e d)) (flushed.devices e d (omega (arith, below, many))) (opened e d (omega (arith, below, many')));
  of_text = read.are_edges;
}

for_all_devices : {X : Type 0} (text : Option (List ℕ)) (n : ℕ) (P : List ℕ → ℕ → X → Type 0) → ((e : ℕ) (d : X) → e < n → IfSome text (λ t. P t e d)) → IfSome text (λ t. (e : ℕ) (d : X) → e < n → P t e d)
for_all_devices (Some t) n P holds = holds
for_all_devices None n P holds = tt

pub made_graphs : {X : Type 0} (state : X → DiskState) (job : Job) (text left : Option (List ℕ)) (es : List Edge) (index : List (List Place)) (news : List X) → HasReadAll job text left es → IsMadeOf state job text index news es
    → IfSome text (λ t. (e : ℕ) (d : X) → e < job.engines → IsMadeGraph job t e (state (get_or news e d)))
made_graphs {X} state job text left es index news read made =
    for_all_devices text job.engines (λ t e d. IsMadeGraph job t e (state (get_or news e d))) (λ e d below. graph_as_promised job text left es e (state (get_or news e d)) read (made.devices e d below))

-- **The three ends.**
pub prepared_first : {X : Type 0} (state : X → DiskState) (job : Job) (text left : Option (List ℕ)) (number : ℕ) (read : Type 0) (graphs graphs' values values' : List X) (fault : PrepareFault)
    → length graphs ≡ job.engines → length values ≡ job.engines → All (λ x. (state x).beat ≤ number) graphs → All (λ x. (state x).beat ≤ number) values
    → Each state (Step IsShutGraph number) graphs graphs' → Each state (Step Anything number) values values'
    → (IsOfText fault → All (λ x. InEveryImage (state x) IsShutGraph) graphs')
    → HasPrepareCause job text (OneRose state graphs graphs' ⊎ OneRose state values values') read fault
    → (◌≢◌ {A = Result (List (List Place)) PrepareFault} (Err fault) (Err DiskFault) → NoneRose state graphs graphs' × NoneRose state values values')
    → Prepares state job text left number number read graphs graphs' values values' (Err fault)
prepared_first state job text left number read graphs graphs' values values' fault many many' beats beats' steps steps' shut cause calm = record {
  many = (steps.many ∙ many, steps'.many ∙ many');
  graph_beats = beats_after state IsShutGraph number graphs graphs' beats steps;
  value_beats = beats_after state Anything number values values' beats' steps';
  beat = inl refl;
  second = tt;
  few = tt;
  blank = tt;
  made = tt;
  later_graphs = later_steps state IsShutGraph number job.engines graphs graphs' many steps;
  later_values = later_steps state Anything number job.engines values values' many' steps';
  whole = tt;
  indexed = tt;
  all_read = λ now. absurd (omega (arith, now));
  any_moment = graphs_first state job text number graphs graphs' many steps;
  any_moment_of_values = blanks_first state job number values values' many' steps';
  shut = λ of_text e d below. shut of_text e d (omega (arith, below, many, steps.many));
  cause = cause;
  last = λ now. absurd (omega (arith, now));
  calm = calm;
}

pub prepared_second : {X : Type 0} (state : X → DiskState) (job : Job) (text left : Option (List ℕ)) (number : ℕ) (read : Type 0) (graphs mids graphs' values values' : List X) (es : List Edge) (index : List (List Place)) → ((x : X) → IsDisk (state x))
    → length graphs ≡ job.engines → length values ≡ job.engines → All (λ x. (state x).beat ≤ number) graphs → All (λ x. (state x).beat ≤ number) values
    → Each state (Step IsShutGraph number) graphs mids → Each state (Step Anything number) values values'
    → HasReadAll job text left es → IsFlushed state job es index mids → EachOne state (λ e old new. IsBlankDevice job e new) values values'
    → Each state (Opens (number + 1)) mids graphs' → EachOne state (λ e old new. Opened old new) mids graphs' → NoneRose state graphs graphs' × NoneRose state values values'
    → Prepares state job text left number (number + 1) read graphs graphs' values values' (Ok index)
prepared_second state job text left number read graphs mids graphs' values values' es index laws many many' beats beats' steps steps' read_all flushed blank opens opened calm =
    let mid_beats = beats_after state IsShutGraph number graphs mids beats steps in
    let new_beats = beats_after state Anything number values values' beats' steps' in
    let made = made_of state job text left es index mids graphs' (steps.many ∙ many) (opens.many ∙ steps.many ∙ many) read_all flushed opened in
    record {
      many = (opens.many ∙ steps.many ∙ many, steps'.many ∙ many');
      graph_beats = beats_opened state number mids graphs' mid_beats opens;
      value_beats = beats_later state number values' new_beats;
      beat = inr refl;
      second = refl;
      few = subst (λ n. n ≤ MOST_PLACES) (sym flushed.places.total) flushed.few;
      blank = made_values state job values values' (steps'.many ∙ many') blank;
      made = (es, made);
      later_graphs = later_opens state IsShutGraph number (number + 1) job.engines graphs mids graphs' many steps opens;
      later_values = later_steps state Anything number job.engines values values' many' steps';
      whole = made_graphs state job text left es index graphs' read_all made;
      indexed = places_as_promised job text left es index read_all flushed.places;
      all_read = λ now. read_as_promised job text left es read_all;
      any_moment = graphs_second state job text left es index number graphs mids graphs' laws many mid_beats steps read_all flushed opens;
      any_moment_of_values = blanks_second state job number values values' laws many' new_beats steps' blank;
      shut = tt;
      cause = tt;
      last = tt;
      calm = λ _. calm;
    }

pub prepared_opening_failed : {X : Type 0} (state : X → DiskState) (job : Job) (text left : Option (List ℕ)) (number : ℕ) (read : Type 0) (graphs mids graphs' values values' : List X) (es : List Edge) (index : List (List Place)) → ((x : X) → IsDisk (state x))
    → length graphs ≡ job.engines → length values ≡ job.engines → All (λ x. (state x).beat ≤ number) graphs → All (λ x. (state x).beat ≤ number) values
    → Each state (Step IsShutGraph number) graphs mids → Each state (Step Anything number) values values'
    → HasReadAll job text left es → IsFlushed state job es index mids → EachOne state (λ e old new. IsBlankDevice job e new) values values'
    → Each state (Opens (number + 1)) mids graphs' → OneRose state mids graphs'
    → Prepares state job text left number (number + 1) read graphs graphs' values values' (Err DiskFault)
prepared_opening_failed state job text left number read graphs mids graphs' values values' es index laws many many' beats beats' steps steps' read_all flushed blank opens rose =
    let mid_beats = beats_after state IsShutGraph number graphs mids beats steps in
    let new_beats = beats_after state Anything number values values' beats' steps' in
    record {
      many = (opens.many ∙ steps.many ∙ many, steps'.many ∙ many');
      graph_beats = beats_opened state number mids graphs' mid_beats opens;
      value_beats = beats_later state number values' new_beats;
      beat = inr refl;
      second = tt;
      few = tt;
      blank = tt;
      made = tt;
      later_graphs = later_opens state IsShutGraph number (number + 1) job.engines graphs mids graphs' many steps opens;
      later_values = later_steps state Anything number job.engines values values' many' steps';
      whole = tt;
      indexed = tt;
      all_read = λ now. read_as_promised job text left es read_all;
      any_moment = graphs_second state job text left es index number graphs mids graphs' laws many mid_beats steps read_all flushed opens;
      any_moment_of_values = blanks_second state job number values values' laws many' new_beats steps' blank;
      shut = λ of_text. absurd of_text;
      cause = inl (one_rose_later state IsShutGraph number graphs mids graphs' steps rose);
      last = λ now. refl;
      calm = λ no_fault. absurd (no_fault refl);
    }

-- The devices of two vectors that were lent as slices.
lent_back : {X : Type 0} (items new : List X) (len : ℕ) → len ≡ length items → length new ≡ length items → take len (new ++ drop (length new) items) ≡ new
lent_back items new len is same =
    ap (λ n. take n (new ++ drop (length new) items)) (is ∙ sym same) ∙ take_at new (drop (length new) items) (length new) refl

pub prepared_back : {X : Type 0} (state : X → DiskState) (job : Job) (text left : Option (List ℕ)) (number now : ℕ) (read : Type 0) (graphs graphs' values values' : List X) (len len' : ℕ) (result : Result (List (List Place)) PrepareFault)
    → len ≡ length graphs → len' ≡ length values → length graphs ≡ job.engines → length values ≡ job.engines
    → Prepares state job text left number now read graphs graphs' values values' result
    → Prepares state job text left number now read graphs (take len (graphs' ++ drop (length graphs') graphs)) values (take len' (values' ++ drop (length values') values)) result
prepared_back state job text left number now read graphs graphs' values values' len len' result is is' many many' prepares =
    subst (λ gs. Prepares state job text left number now read graphs gs values (take len' (values' ++ drop (length values') values)) result)
    (sym (lent_back graphs graphs' len is (prepares.many.0 ∙ sym many)))
    (subst (λ vs. Prepares state job text left number now read graphs graphs' values vs result) (sym (lent_back values values' len' is' (prepares.many.1 ∙ sym many'))) prepares)

pub prepared_lent : {X : Type 0} (state : X → DiskState) (job : Job) (text left : Option (List ℕ)) (number now : ℕ) (read : Type 0) (graphs lent graphs' values lent' values' : List X) (len len' : ℕ) (result : Result (List (List Place)) PrepareFault)
    → lent ≡ graphs → lent' ≡ values → len ≡ length graphs → len' ≡ length values → length graphs ≡ job.engines → length values ≡ job.engines
    → Prepares state job text left number now read lent graphs' lent' values' result
    → Prepares state job text left number now read graphs (take len (graphs' ++ drop (length graphs') graphs)) values (take len' (values' ++ drop (length values') values)) result
prepared_lent state job text left number now read graphs lent graphs' values lent' values' len len' result same same' is is' many many' prepares =
    prepared_back state job text left number now read graphs graphs' values values' len len' result is is' many many'
    (subst (λ gs. Prepares state job text left number now read gs graphs' values values' result) same
    (subst (λ vs. Prepares state job text left number now read lent graphs' vs values' result) same' prepares))
