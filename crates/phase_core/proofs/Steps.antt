-- What one event does, part by part.
use Rattle.std.proofs.Common.{◌≡◌, ◌≢◌, ℕ, suc, ◌+◌, ◌*◌, ◌-◌, ◌<◌, ◌≤◌, ◌==◌, nat_lt, if◌then◌else◌, nat_le, ◌&&◌, not, Bool, true, false, List, [], ◌∷◌, length, get_or, replicate, refl, sym, ◌∙◌, ap, subst, arith, eq-eqb}
use Rattle.std.proofs.Math.Path.{fun_ext}
use Rattle.std.specs.List.{All, fold}
use Rattle.std.proofs.lemmas.Bool.{and_parts, cond-true, cond-false, eqb-true, eqb-false, ltb-true, lt-ltb, ne_eqb}
use Rattle.std.proofs.lemmas.List.{get_or_default}
use Rattle.std.proofs.Math.ListN.{get_or-eq_default}
use Rattle.std.proofs.Math.Nat.{mul-le-mul_left}
use Rattle.std.proofs.lemmas.List.Elements.{All-head, All-tail}
use Rattle.graph_model.specs.declared.value.Update.{Update}
use Rattle.graph_model.specs.Programs.{Rules}
use Rattle.chunk_object.specs.Object.{put_at}
use Rattle.chunk_object.specs.Epochs.{cursor_of}
use Rattle.chunk_object.specs.History.{one_below}
use Rattle.partitioner.specs.declared.split.Split.{Split}
use Rattle.phase_model.specs.Shelves.{Shelf, lens_of, records_at}
use Rattle.phase_model.specs.Sums.{values_to}
use Rattle.phase_core.specs.declared.event.Event.{Event}
use Rattle.phase_core.specs.declared.event.Event.TheVariants.{Claim, Admit}
use Rattle.phase_core.specs.declared.event.Reply.{Reply}
use Rattle.phase_core.specs.declared.event.Reply.TheVariants.{Took, Exhausted, Admitted, Contended, NotNow}
use Rattle.phase_core.specs.Machine.{Machine, is_active, is_cursor, works_at, is_timely, answer, reply, after_reply, stepped, fresh, with_chunk, taken_from, folded}
use Rattle.phase_core.specs.declared.chunk.PutChunk.{PutChunk}
use Rattle.phase_core.specs.View.{IsUnused, entry, shelf_of}
use Rattle.phase_core.proofs.Tables.{same_everywhere, ones, entry-replicate, in_table}
use Rattle.phase_core.proofs.Gathering.{gathered}

-- an event that may come is answered by the chunk object
pub timely : (m : Machine) (event : Event) → is_timely m event ≡ true → reply m event ≡ answer m.object event
timely m event test = cond-true (is_timely m event) (answer m.object event) NotNow test

step_by : (rules : Rules) (m new : Machine) (event : Event) (r : Reply) → reply m event ≡ r → new ≡ after_reply rules m event r → new ≡ stepped rules m event
step_by rules m new event r is same = same ∙ ap (after_reply rules m event) (sym is)

-- help that is admitted
pub admitted_now : (rules : Rules) (m : Machine) (worker partition seen : ℕ) (heads : ℕ → ℕ) (admitted : ℕ → ℕ → Bool) → is_timely m (Admit worker partition seen) ≡ true →
    m.object.heads partition ≡ seen → heads ≡ put_at partition (suc seen) m.object.heads → admitted ≡ put_at worker (put_at partition true (m.admitted worker)) m.admitted →
    record m { object = record m.object { heads = heads }; admitted = admitted } ≡ stepped rules m (Admit worker partition seen)
admitted_now rules m worker partition seen heads admitted test same is_heads is_admitted =
    step_by rules m _ (Admit worker partition seen) Admitted
    (timely m (Admit worker partition seen) test ∙ cond-true (m.object.heads partition == seen) Admitted (Contended (m.object.heads partition)) (eq-eqb (m.object.heads partition) seen same))
    (ap (λ h. record m { object = record m.object { heads = h }; admitted = admitted }) is_heads
    ∙ ap (λ a. record m { object = record m.object { heads = put_at partition (suc seen) m.object.heads }; admitted = a }) is_admitted)

-- a claim that finds no chunk left
pub refused_now : (rules : Rules) (m : Machine) (worker engine partition : ℕ) (refused : ℕ → ℕ → Bool) → is_timely m (Claim worker engine partition) ≡ true →
    m.object.len (cursor_of engine partition) ≤ m.object.next (cursor_of engine partition) →
    refused ≡ put_at worker (put_at (cursor_of engine partition) true (m.refused worker)) m.refused →
    record m { refused = refused } ≡ stepped rules m (Claim worker engine partition)
refused_now rules m worker engine partition refused test none is_refused =
    step_by rules m _ (Claim worker engine partition) Exhausted
    (timely m (Claim worker engine partition) test ∙ cond-false (nat_lt (m.object.next (cursor_of engine partition)) (m.object.len (cursor_of engine partition))) (Took (m.object.next (cursor_of engine partition))) Exhausted (not_less (m.object.next (cursor_of engine partition)) (m.object.len (cursor_of engine partition)) none))
    (ap (λ r. record m { refused = r }) is_refused)
  where
    not_less : (a b : ℕ) → b ≤ a → nat_lt a b ≡ false
    not_less a b most = grind arith

-- a claim that is given a chunk
pub taken_now : (rules : Rules) (m : Machine) (worker engine partition : ℕ) → is_timely m (Claim worker engine partition) ≡ true →
    m.object.next (cursor_of engine partition) < m.object.len (cursor_of engine partition) →
    (reply m (Claim worker engine partition) ≡ Took (m.object.next (cursor_of engine partition))) × (taken_from rules m worker (cursor_of engine partition) ≡ stepped rules m (Claim worker engine partition))
taken_now rules m worker engine partition test left =
    let is : reply m (Claim worker engine partition) ≡ Took (m.object.next (cursor_of engine partition))
    = timely m (Claim worker engine partition) test ∙ cond-true (nat_lt (m.object.next (cursor_of engine partition)) (m.object.len (cursor_of engine partition))) (Took (m.object.next (cursor_of engine partition))) Exhausted (lt-ltb (m.object.next (cursor_of engine partition)) (m.object.len (cursor_of engine partition)) left) in
    (is, step_by rules m _ (Claim worker engine partition) (Took (m.object.next (cursor_of engine partition))) is refl)

-- a machine whose parts are these
abbrev pub made_of : Split → Shelf Update → (len next heads : ℕ → ℕ) → (admitted refused : ℕ → ℕ → Bool) → (ℕ → Bool) → (ℕ → ℕ → ℕ) → Machine
made_of split chunks len next heads admitted refused finished sums = record {
  split = split;
  chunks = chunks;
  object = record { next = next; len = len; heads = heads };
  admitted = admitted;
  refused = refused;
  finished = finished;
  sums = sums;
}

-- the machine of new tables
pub fresh_machine : (split : Split) (unit : ℕ) (chunks : List PutChunk) (nexts heads sums : List ℕ) (admitted refused finished : List Bool) (a b c d e : ℕ) →
    chunks ≡ [] → nexts ≡ replicate a 0 → heads ≡ replicate split.parts 1 → admitted ≡ replicate b false → refused ≡ replicate c false → finished ≡ replicate d false → sums ≡ replicate e unit →
    made_of split (shelf_of chunks) (lens_of (shelf_of chunks)) (λ cursor. get_or nexts cursor 0) (λ partition. get_or heads partition 0) (entry 64 false admitted) (entry 512 false refused)
    (λ worker. get_or finished worker false) (entry split.vertices unit sums)
    ≡ fresh split unit []
fresh_machine split unit chunks nexts heads sums admitted refused finished a b c d e is_chunks is_nexts is_heads is_admitted is_refused is_finished is_sums =
    let none : Shelf Update = [] in
    let made : (ℕ → ℕ) → (ℕ → ℕ) → (ℕ → ℕ → Bool) → (ℕ → ℕ → Bool) → (ℕ → Bool) → (ℕ → ℕ → ℕ) → Machine = made_of split none (lens_of none) in
    let zeros : ℕ → ℕ = λ cursor. 0 in
    let never : ℕ → ℕ → Bool = λ worker place. false in
    let no_one : ℕ → Bool = λ worker. false in
    ap (λ (l : List PutChunk). made_of split (shelf_of l) (lens_of (shelf_of l)) (λ cursor. get_or nexts cursor 0) (λ partition. get_or heads partition 0) (entry 64 false admitted) (entry 512 false refused) (λ worker. get_or finished worker false) (entry split.vertices unit sums)) is_chunks
    ∙ ap (λ (f : ℕ → ℕ). made f (λ partition. get_or heads partition 0) (entry 64 false admitted) (entry 512 false refused) (λ worker. get_or finished worker false) (entry split.vertices unit sums))
    (ap {B = ℕ → ℕ} (λ (l : List ℕ) (cursor : ℕ). get_or l cursor 0) is_nexts ∙ fun_ext (λ cursor. same_everywhere a cursor 0))
    ∙ ap (λ (f : ℕ → ℕ). made zeros f (entry 64 false admitted) (entry 512 false refused) (λ worker. get_or finished worker false) (entry split.vertices unit sums))
    (ap {B = ℕ → ℕ} (λ (l : List ℕ) (partition : ℕ). get_or l partition 0) is_heads ∙ ones split.parts)
    ∙ ap (λ (f : ℕ → ℕ → Bool). made zeros (one_below split.parts) f (entry 512 false refused) (λ worker. get_or finished worker false) (entry split.vertices unit sums))
    (ap (entry 64 false) is_admitted ∙ entry-replicate 64 b false)
    ∙ ap (λ (f : ℕ → ℕ → Bool). made zeros (one_below split.parts) never f (λ worker. get_or finished worker false) (entry split.vertices unit sums))
    (ap (entry 512 false) is_refused ∙ entry-replicate 512 c false)
    ∙ ap (λ (f : ℕ → Bool). made zeros (one_below split.parts) never never f (entry split.vertices unit sums))
    (ap {B = ℕ → Bool} (λ (l : List Bool) (worker : ℕ). get_or l worker false) is_finished ∙ fun_ext (λ worker. same_everywhere d worker false))
    ∙ ap (λ (f : ℕ → ℕ → ℕ). made zeros (one_below split.parts) never never no_one f)
    (ap (entry split.vertices unit) is_sums ∙ entry-replicate split.vertices e unit)

-- the numbers of an event that may come are in range
active_below : (m : Machine) (worker : ℕ) → is_active m worker ≡ true → worker < m.split.engines
active_below m worker test = ltb-true worker m.split.engines (and_parts (nat_lt worker m.split.engines) (not (m.finished worker)) test).0

pub admit_bounds : (m : Machine) (worker partition seen : ℕ) → is_timely m (Admit worker partition seen) ≡ true → (worker < m.split.engines) × (partition < m.split.parts)
admit_bounds m worker partition seen test =
    let there : Bool = is_active m worker && nat_lt partition m.split.parts in
    let free : Bool = not (works_at m worker partition) in
    let seen_low = (and_parts (there && free && nat_le 1 seen) (nat_le seen 7) test).0 in
    let not_there = (and_parts (there && free) (nat_le 1 seen) seen_low).0 in
    let both = and_parts (is_active m worker) (nat_lt partition m.split.parts) (and_parts there free not_there).0 in
    (active_below m worker both.0, ltb-true partition m.split.parts both.1)

pub claim_bounds : (m : Machine) (worker engine partition : ℕ) → is_timely m (Claim worker engine partition) ≡ true → (worker < m.split.engines) × (engine < m.split.engines) × (partition < m.split.parts)
claim_bounds m worker engine partition test =
    let there : Bool = is_active m worker && is_cursor m engine partition in
    let works : Bool = works_at m worker partition in
    let refusal : Bool = not (m.refused worker (cursor_of engine partition)) in
    let both = and_parts (is_active m worker) (is_cursor m engine partition) (and_parts there works (and_parts (there && works) refusal test).0).0 in
    let cursor = and_parts (nat_lt engine m.split.engines) (nat_lt partition m.split.parts) both.1 in
    (active_below m worker both.0, ltb-true engine m.split.engines cursor.0, ltb-true partition m.split.parts cursor.1)

-- nothing is sent to a vertex past all destinations
values_to_past : (v n : ℕ) (updates : List Update) → All (λ (u : Update). u.dst < n) updates → n ≤ v → values_to v updates ≡ []
values_to_past v n [] all past = refl
values_to_past v n (u ∷ updates) all past =
    let below : u.dst < n = All-head (λ (u : Update). u.dst < n) u updates all in
    let apart : (u.dst == v) ≡ false = ne_eqb u.dst v (omega arith) in
    rw apart (values_to_past v n updates (All-tail (λ (u : Update). u.dst < n) u updates all) past)

-- a place of a list of the same length that has the same number, at another default
same_at : (xs ys : List ℕ) (i d : ℕ) → length ys ≡ length xs → get_or ys i 0 ≡ get_or xs i 0 → get_or ys i d ≡ get_or xs i d
same_at xs ys i d long same = by_place (nat_lt i (length xs)) refl
  where
    by_place : (below : Bool) → nat_lt i (length xs) ≡ below → get_or ys i d ≡ get_or xs i d
    by_place true test =
        let here : i < length xs = ltb-true i (length xs) test in
        let there : i < length ys = omega (arith, here, long) in
        get_or_default ys i d 0 there ∙ same ∙ get_or_default xs i 0 d here
    by_place false test =
        let past : length xs ≤ i = grind arith in
        let past_too : length ys ≤ i = omega (arith, past, long) in
        get_or-eq_default ys d past_too ∙ sym (get_or-eq_default xs d past)

-- the sum of a vertex in the row of the worker, and one of another row
gathered_own : (add : ℕ → ℕ → ℕ) (first : ℕ) (old : List ℕ) (updates : List Update) (v : ℕ) → gathered add first old updates (first + v) ≡ fold add (get_or old (first + v) 0) (values_to v updates)
gathered_own add first old updates v = by_test (nat_lt (first + v) first) refl (first + v - first) (omega arith)
  where
    by_test : (less : Bool) → nat_lt (first + v) first ≡ less → (k : ℕ) → k ≡ v → (if less then get_or old (first + v) 0 else fold add (get_or old (first + v) 0) (values_to k updates)) ≡ fold add (get_or old (first + v) 0) (values_to v updates)
    by_test true test k same = let less : first + v < first = ltb-true (first + v) first test in absurd (omega arith)
    by_test false test k same = ap (λ j. fold add (get_or old (first + v) 0) (values_to j updates)) same

gathered_other : (add : ℕ → ℕ → ℕ) (first n : ℕ) (old : List ℕ) (updates : List Update) (place : ℕ) → All (λ (u : Update). u.dst < n) updates → (first ≤ place → n ≤ place - first) → gathered add first old updates place ≡ get_or old place 0
gathered_other add first n old updates place within far = by_test (nat_lt place first) refl
  where
    by_test : (less : Bool) → nat_lt place first ≡ less → (if less then get_or old place 0 else fold add (get_or old place 0) (values_to (place - first) updates)) ≡ get_or old place 0
    by_test true test = refl
    by_test false test = let reached : first ≤ place = grind arith in ap (fold add (get_or old place 0)) (values_to_past (place - first) n updates within (far reached))

far_row : (n worker row v : ℕ) → row ≢ worker → v < n → n * worker ≤ n * row + v → n ≤ n * row + v - n * worker
far_row n worker row v apart inside reached = by_test (nat_lt row worker) refl
  where
    by_test : (less : Bool) → nat_lt row worker ≡ less → n ≤ n * row + v - n * worker
    by_test true test =
        let less : row < worker = ltb-true row worker test in
        let next : n * (row + 1) ≤ n * worker = mul-le-mul_left n (omega arith) in
        let parts : n * (row + 1) ≡ n * row + n = grind arith in
        absurd (omega (arith, next, parts, inside, reached))
    by_test false test =
        let more : worker + 1 ≤ row = grind arith in
        let next : n * (worker + 1) ≤ n * row = mul-le-mul_left n more in
        let parts : n * (worker + 1) ≡ n * worker + n = grind arith in
        omega (arith, next, parts)

module _ (rules : Rules) (n engines unit worker : ℕ) (old new : List ℕ) (updates : List Update) (same_long : length new ≡ length old) (long : length old ≡ n * engines)
    (below : worker < engines) (within : All (λ (u : Update). u.dst < n) updates)
    (each : (place : ℕ) → get_or new place 0 ≡ gathered rules.fold (n * worker) old updates place) where
  own_row : (v : ℕ) (inside : Bool) → nat_lt v n ≡ inside → (if inside then get_or new (n * worker + v) unit else unit) ≡ fold rules.fold (if inside then get_or old (n * worker + v) unit else unit) (values_to v updates)
  own_row v true test =
      let inside : v < n = ltb-true v n test in
      let here : n * worker + v < length old = subst (λ k. n * worker + v < k) (sym long) (in_table n worker engines v inside below) in
      let there : n * worker + v < length new = omega (arith, here, same_long) in
      get_or_default new (n * worker + v) unit 0 there
      ∙ each (n * worker + v)
      ∙ gathered_own rules.fold (n * worker) old updates v
      ∙ ap (λ s. fold rules.fold s (values_to v updates)) (get_or_default old (n * worker + v) 0 unit here)
  own_row v false test = let past : n ≤ v = grind arith in ap (fold rules.fold unit) (sym (values_to_past v n updates within past))

  other_row : (row v : ℕ) (inside : Bool) → row ≢ worker → nat_lt v n ≡ inside → (if inside then get_or new (n * row + v) unit else unit) ≡ (if inside then get_or old (n * row + v) unit else unit)
  other_row row v true apart test =
      let inside : v < n = ltb-true v n test in
      same_at old new (n * row + v) unit same_long
      (each (n * row + v) ∙ gathered_other rules.fold (n * worker) n old updates (n * row + v) within (λ reached. far_row n worker row v apart inside reached))
  other_row row v false apart test = refl

  by_row : (row : ℕ) (same : Bool) → row == worker ≡ same → entry n unit new row ≡ (if same then folded rules updates (entry n unit old worker) else entry n unit old row)
  by_row row true test =
      subst (λ k. entry n unit new k ≡ folded rules updates (entry n unit old worker)) (sym (eqb-true row worker test))
      (fun_ext (λ v. own_row v (nat_lt v n) refl))
  by_row row false test = fun_ext (λ v. other_row row v (nat_lt v n) (eqb-false row worker test) refl)

  -- **Updates that are folded into the sums of a worker change its row alone.**
  pub entry-folded : entry n unit new ≡ put_at worker (folded rules updates (entry n unit old worker)) (entry n unit old)
  entry-folded = fun_ext (λ row. by_row row (row == worker) refl)

-- a chunk that was taken, part by part
pub taken_machine : (rules : Rules) (m : Machine) (worker cursor : ℕ) (next : ℕ → ℕ) (sums : ℕ → ℕ → ℕ) (updates : List Update) →
    next ≡ put_at cursor (suc (m.object.next cursor)) m.object.next → updates ≡ records_at m.chunks cursor (m.object.next cursor) →
    sums ≡ put_at worker (folded rules updates (m.sums worker)) m.sums →
    record m { object = record m.object { next = next }; sums = sums } ≡ taken_from rules m worker cursor
taken_machine rules m worker cursor next sums updates is_next is_taken is_sums =
    ap (λ (f : ℕ → ℕ). record m { object = record m.object { next = f }; sums = sums }) is_next
    ∙ ap (λ (f : ℕ → ℕ → ℕ). record m { object = record m.object { next = put_at cursor (suc (m.object.next cursor)) m.object.next }; sums = f })
    (is_sums ∙ ap (λ us. put_at worker (folded rules us (m.sums worker)) m.sums) is_taken)

-- a machine with one chunk more is as unused as before
pub unused_more : (m : Machine) (engine partition : ℕ) (updates : List Update) → IsUnused m → IsUnused (with_chunk m engine partition updates)
unused_more m engine partition updates (unit, is) = (unit, ap (λ (k : Machine). with_chunk k engine partition updates) is)
