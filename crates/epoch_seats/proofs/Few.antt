-- In an epoch few chunks are taken, and help is admitted a few times: no more than cursors have chunks, and than there are partitions.
use Rattle.std.proofs.Common.{◌≡◌, ◌≢◌, ℕ, zero, suc, ◌+◌, ◌*◌, ◌/◌, ◌%◌, ◌<◌, ◌≤◌, Bool, true, false, cond, ◌&&◌, eqb, List, [], ◌∷◌, ◌++◌, length, get_or, refl, ap, sym, ◌∙◌, subst, ◌⊎◌, inl, inr, ⊎_elim, arith}
use Rattle.std.specs.List.{All, AllByRecursion, count_by, filter, flat_map}
use Rattle.std.proofs.lemmas.Bool.{cases_Bool, cases_eq, cases_lt, cond-true, cond-false, and_parts, eqb-true, false≢true, false_from_ne_true}
use Rattle.std.proofs.lemmas.Bool.Decides.{nat_tests}
use Rattle.std.proofs.lemmas.List.{length-append}
use Rattle.std.proofs.lemmas.List.Elements.{recursion_from_All}
use Rattle.chunk_object.specs.declared.call.Call.{Call}
use Rattle.chunk_object.specs.declared.call.Call.TheVariants.{Open, Greet, Took, Exhausted, Look, Heads, Admitted, Contended, Split, Join}
use Rattle.chunk_object.specs.declared.call.Entry.{Entry}
use Rattle.chunk_object.specs.History.{total, count_since, opens, takes_any, most_chunks, opened_len, object_after, IsCaller}
use Rattle.chunk_object.specs.Epochs.{cursor_of, Terms, Epoch, all_calls, list_of}
use Rattle.chunk_object.specs.Duty.{partition_of, is_on, IsClaim, ClaimsToTheEnd, looks_from, FollowsHeads, Helps, IsMaster, IsDutiful}
use Rattle.chunk_object.proofs.Histories.{total_zero, total_same, total_one_more}
use Rattle.chunk_object.proofs.Moves.{opens_sets, opened_len_moves}
use Rattle.chunk_object.proofs.Legal.{next_is, next_le_len, len_is}
use Rattle.chunk_object.proofs.Whole.{callers_whole, count_whole}
use Rattle.chunk_object.proofs.Covered.{count-cons, count_by-append, epoch_count, epoch_len, all_both, all_left}
use Rattle.chunk_object.proofs.Dutiful.{count_by-filter, none_hit, all_each}
use Rattle.chunk_cursor.specs.declared.view.View.{View}
use Rattle.phase_model.specs.Taken.{taken_in, taken, claims, is_admission, admissions}
use Rattle.epoch_seats.specs.Between.{HasEnded}
use Rattle.epoch_seats.specs.Made.{BeginsDuty}

-- Counts by a key.
one_or_none : (b : Bool) (k : ℕ) → cond b 1 0 + k ≡ cond b (suc k) k
one_or_none true k = omega arith
one_or_none false k = omega arith

count_by_key : (m : ℕ) (hits : Call → Bool) (key : Call → ℕ) (at : ℕ → Call → Bool) → ((k : ℕ) (c : Call) → at k c ≡ (hits c && eqb (key c) k)) → (l : List Call) → AllByRecursion (λ c. hits c ≡ true → key c < m) l
    → count_by hits l ≡ total m (λ k. count_by (at k) l)
count_by_key m hits key at is [] small = sym (total_zero m (λ k. count_by (at k) []) (λ k. refl))
count_by_key m hits key at is (c ∷ l) small = ⊎_elim
    (λ hit.
    let one : cond {A = ℕ} (hits c) 1 0 ≡ 1 = cond-true {A = ℕ} (hits c) 1 0 hit in
    let each : (k : ℕ) → count_by (at k) (c ∷ l) ≡ cond (eqb (key c) k) (suc (count_by (at k) l)) (count_by (at k) l) =
    λ k. count-cons (at k) c l
    ∙ (ap (λ b. cond b 1 0 + count_by (at k) l) (is k c ∙ ap (λ b. b && eqb (key c) k) hit) ∙ one_or_none (eqb (key c) k) (count_by (at k) l)) in
    let all : total m (λ k. count_by (at k) (c ∷ l)) ≡ suc (total m (λ k. count_by (at k) l)) = total_same m _ _ each ∙ total_one_more m (key c) (λ k. count_by (at k) l) (small.0 hit) in
    omega (arith, count-cons hits c l, one, all, count_by_key m hits key at is l small.1))
    (λ miss.
    let none : cond {A = ℕ} (hits c) 1 0 ≡ 0 = cond-false {A = ℕ} (hits c) 1 0 miss in
    let each : (k : ℕ) → count_by (at k) (c ∷ l) ≡ count_by (at k) l =
    λ k. count-cons (at k) c l
    ∙ (ap (λ b. cond b 1 0 + count_by (at k) l) (is k c ∙ ap (λ b. b && eqb (key c) k) miss) ∙ one_or_none false (count_by (at k) l)) in
    omega (arith, count-cons hits c l, none, total_same m (λ k. count_by (at k) (c ∷ l)) (λ k. count_by (at k) l) each, count_by_key m hits key at is l small.1))
    (cases_Bool (hits c))

total_below : (m most : ℕ) (f : ℕ → ℕ) → ((k : ℕ) → k < m → f k ≤ most) → total m f ≤ m * most
total_below zero most f small = omega arith
total_below (suc m) most f small = omega (arith, total_below m most f (λ k below. small k (omega arith)), small m (omega arith))

count_few : (m most : ℕ) (hits : Call → Bool) (key : Call → ℕ) (at : ℕ → Call → Bool) → ((k : ℕ) (c : Call) → at k c ≡ (hits c && eqb (key c) k)) → (l : List Call) → AllByRecursion (λ c. hits c ≡ true → key c < m) l
    → ((k : ℕ) → k < m → count_by (at k) l ≤ most) → count_by hits l ≤ m * most
count_few m most hits key at is l within each = omega (arith, count_by_key m hits key at is l within, total_below m most (λ k. count_by (at k) l) each)

count_le : (p q : Call → Bool) → ((c : Call) → p c ≡ true → q c ≡ true) → (l : List Call) → count_by p l ≤ count_by q l
count_le p q more [] = omega arith
count_le p q more (c ∷ l) = omega (arith, count-cons p c l, count-cons q c l, one_le (p c) (q c) (more c), count_le p q more l)
  where
    one_le : (a b : Bool) → (a ≡ true → b ≡ true) → cond {A = ℕ} a 1 0 ≤ cond b 1 0
    one_le false b more = omega arith
    one_le true b more = let e : cond {A = ℕ} b 1 0 ≡ 1 = cond-true {A = ℕ} b 1 0 (more refl) in omega (arith, e)

-- Claims are takes.
abbrev is_take : Call → Bool
is_take (Took cursor chunk) = true
is_take (Open cursor len) = false
is_take (Greet partition) = false
is_take (Exhausted cursor) = false
is_take (Look cursor left) = false
is_take (Heads partition heads) = false
is_take (Admitted partition heads) = false
is_take (Contended partition heads found) = false
is_take (Split serial worker) = false
is_take (Join serial worker) = false

abbrev cursor_at : Call → ℕ
cursor_at (Took cursor chunk) = cursor
cursor_at (Open cursor len) = 0
cursor_at (Greet partition) = 0
cursor_at (Exhausted cursor) = 0
cursor_at (Look cursor left) = 0
cursor_at (Heads partition heads) = 0
cursor_at (Admitted partition heads) = 0
cursor_at (Contended partition heads found) = 0
cursor_at (Split serial worker) = 0
cursor_at (Join serial worker) = 0

takes_at : (k : ℕ) (c : Call) → takes_any k c ≡ (is_take c && eqb (cursor_at c) k)
takes_at k (Took cursor chunk) = refl
takes_at k (Open cursor len) = refl
takes_at k (Greet partition) = refl
takes_at k (Exhausted cursor) = refl
takes_at k (Look cursor left) = refl
takes_at k (Heads partition heads) = refl
takes_at k (Admitted partition heads) = refl
takes_at k (Contended partition heads found) = refl
takes_at k (Split serial worker) = refl
takes_at k (Join serial worker) = refl

take_len : (c : Call) → length (taken_in c) ≡ cond (is_take c) 1 0
take_len (Took cursor chunk) = refl
take_len (Open cursor len) = refl
take_len (Greet partition) = refl
take_len (Exhausted cursor) = refl
take_len (Look cursor left) = refl
take_len (Heads partition heads) = refl
take_len (Admitted partition heads) = refl
take_len (Contended partition heads found) = refl
take_len (Split serial worker) = refl
take_len (Join serial worker) = refl

claims_count : (l : List Call) → claims l ≡ count_by is_take l
claims_count [] = refl
claims_count (c ∷ l) = length-append (taken_in c) (taken l) ∙ omega (arith, take_len c, claims_count l, count-cons is_take c l)

-- Calls on one of so many engines, where they take a chunk.
abbrev TakesWithin : ℕ → Call → Type 0
TakesWithin engines (Took cursor chunk) = cursor / 64 < engines
TakesWithin engines _ = Unit {0}

claim_within : (engines : ℕ) (c : Call) → IsClaim engines c → TakesWithin engines c
claim_within engines (Took cursor chunk) claim = claim
claim_within engines (Open cursor len) claim = tt
claim_within engines (Greet partition) claim = tt
claim_within engines (Exhausted cursor) claim = tt
claim_within engines (Look cursor left) claim = tt
claim_within engines (Heads partition heads) claim = tt
claim_within engines (Admitted partition heads) claim = tt
claim_within engines (Contended partition heads found) claim = tt
claim_within engines (Split serial worker) claim = tt
claim_within engines (Join serial worker) claim = tt

claim_no_admission : (engines : ℕ) (c : Call) → IsClaim engines c → is_admission c ≡ false
claim_no_admission engines (Took cursor chunk) claim = refl
claim_no_admission engines (Exhausted cursor) claim = refl
claim_no_admission engines (Open cursor len) claim = absurd claim
claim_no_admission engines (Greet partition) claim = absurd claim
claim_no_admission engines (Look cursor left) claim = absurd claim
claim_no_admission engines (Heads partition heads) claim = absurd claim
claim_no_admission engines (Admitted partition heads) claim = absurd claim
claim_no_admission engines (Contended partition heads found) claim = absurd claim
claim_no_admission engines (Split serial worker) claim = absurd claim
claim_no_admission engines (Join serial worker) claim = absurd claim

-- what is known of the calls on one partition
record IsModest (engines : ℕ) (l : List Call) : Type 0 where
  within : AllByRecursion (TakesWithin engines) l
  once : count_by is_admission l ≤ 1

claims_modest : (engines partition : ℕ) (l : List Call) → ClaimsToTheEnd engines partition l → AllByRecursion (TakesWithin engines) l × (count_by is_admission l ≡ 0)
claims_modest engines partition l ends =
    let all = recursion_from_All (IsClaim engines) l ends.claims in
    (all_each (IsClaim engines) (TakesWithin engines) (claim_within engines) l all, none_hit is_admission l (all_each (IsClaim engines) (λ c. is_admission c ≡ false) (claim_no_admission engines) l all))

follows_modest : (terms : Terms) (partition unread heads : ℕ) (l : List Call) → FollowsHeads terms partition unread heads l → IsModest terms.engines l
follows_modest terms partition unread heads [] follows = record { within = tt; once = omega arith }
follows_modest terms partition unread heads (Admitted asked count ∷ l) follows =
    let claimed = claims_modest terms.engines partition l follows.3 in record { within = (tt, claimed.0); once = omega (arith, count-cons is_admission (Admitted asked count) l, claimed.1) }
follows_modest terms partition unread heads (Contended asked count found ∷ []) follows = record { within = (tt, tt); once = omega (arith, count-cons is_admission (Contended asked count found) []) }
follows_modest terms partition unread heads (Contended asked count found ∷ c ∷ l) follows = absurd follows
follows_modest terms partition unread heads (Took claimed given ∷ l) follows = absurd follows
follows_modest terms partition unread heads (Exhausted claimed ∷ l) follows = absurd follows
follows_modest terms partition unread heads (Open opened len ∷ l) follows = absurd follows
follows_modest terms partition unread heads (Greet greeted ∷ l) follows = absurd follows
follows_modest terms partition unread heads (Look looked left ∷ l) follows = absurd follows
follows_modest terms partition unread heads (Heads counted found ∷ l) follows = absurd follows
follows_modest terms partition unread heads (Split serial worker ∷ l) follows = absurd follows
follows_modest terms partition unread heads (Join serial worker ∷ l) follows = absurd follows

looks_modest : (engines partition engine : ℕ) (looks : List ℕ) (l : List Call) → IsModest engines l → IsModest engines (looks_from partition engine looks ++ l)
looks_modest engines partition engine [] l modest = modest
looks_modest engines partition engine (left ∷ looks) l modest =
    let rest = looks_modest engines partition (engine + 1) looks l modest in
    record { within = (tt, rest.within); once = omega (arith, rest.once, count-cons is_admission (Look (cursor_of engine partition) left) (looks_from partition (engine + 1) looks ++ l)) }

helps_modest : (terms : Terms) (partition : ℕ) (l : List Call) → Helps terms partition l → IsModest terms.engines l
helps_modest terms partition l helps =
    let follows = follows_modest terms partition _ helps.heads helps.rest helps.follows in
    let counted : IsModest terms.engines (Heads partition helps.heads ∷ helps.rest) =
    record { within = (tt, follows.within); once = omega (arith, follows.once, count-cons is_admission (Heads partition helps.heads) helps.rest) } in
    subst (IsModest terms.engines) (sym helps.is) (looks_modest terms.engines partition 0 helps.looks (Heads partition helps.heads ∷ helps.rest) counted)

-- what holds of the calls on each partition holds of all
spread : (P : Call → Type 0) (parts : ℕ) (l : List Call) → AllByRecursion (λ c. partition_of c < parts) l → ((p : ℕ) → p < parts → AllByRecursion P (filter (is_on p) l)) → AllByRecursion P l
spread P parts [] known each = tt
spread P parts (c ∷ l) known each = (head, spread P parts l known.1 tails)
  where
    head : P c
    head = (subst (AllByRecursion P) (cond-true (is_on (partition_of c) c) (c ∷ filter (is_on (partition_of c)) l) _ (grind (arith, nat_tests))) (each (partition_of c) known.0)).0

    tails : (p : ℕ) → p < parts → AllByRecursion P (filter (is_on p) l)
    tails p below = ⊎_elim
        (λ on. (subst (AllByRecursion P) (cond-true (is_on p c) (c ∷ filter (is_on p) l) _ on) (each p below)).1)
        (λ off. subst (AllByRecursion P) (cond-false (is_on p c) (c ∷ filter (is_on p) l) _ off) (each p below))
        (cases_Bool (is_on p c))

module _ (terms : Terms) (worker : ℕ) where
  partitions_known : (l : List Call) → IsDutiful terms worker l → AllByRecursion (λ c. partition_of c < terms.partitions) l
  partitions_known l duty =
      subst (AllByRecursion (λ c. partition_of c < terms.partitions)) (sym duty.is)
      (all_both (λ c. partition_of c < terms.partitions) duty.own duty.others
      (all_each (λ c. (partition_of c < terms.partitions) × IsMaster terms worker (partition_of c)) (λ c. partition_of c < terms.partitions) (λ c known. known.0) duty.own (recursion_from_All _ duty.own duty.on_own))
      (all_each (λ c. (partition_of c < terms.partitions) × (IsMaster terms worker (partition_of c) → ⊥)) (λ c. partition_of c < terms.partitions) (λ c known. known.0) duty.others (recursion_from_All _ duty.others duty.on_others)))

  part_modest : (l : List Call) → IsDutiful terms worker l → (p : ℕ) → p < terms.partitions → IsModest terms.engines (filter (is_on p) l)
  part_modest l duty p below = ⊎_elim
      (λ master. let claimed = claims_modest terms.engines p (filter (is_on p) l) (duty.master p below master) in record { within = claimed.0; once = omega (arith, claimed.1) })
      (λ other. helps_modest terms p (filter (is_on p) l) (duty.helper p below other))
      (cases_eq (p % terms.engines) worker)

  all_within : (l : List Call) → IsDutiful terms worker l → AllByRecursion (TakesWithin terms.engines) l
  all_within l duty = spread (TakesWithin terms.engines) terms.partitions l (partitions_known l duty) (λ p below. (part_modest l duty p below).within)

  few_admissions : terms.partitions ≤ 64 → (l : List Call) → IsDutiful terms worker l → count_by is_admission l ≤ 64
  few_admissions few l duty =
      let at : ℕ → Call → Bool = λ k c. is_admission c && is_on k c in
      let by_partition = count_by_key terms.partitions is_admission partition_of at (λ k c. refl) l (all_each (λ c. partition_of c < terms.partitions) (λ c. is_admission c ≡ true → partition_of c < terms.partitions) (λ c small _. small) l (partitions_known l duty)) in
      let each : (k : ℕ) → k < terms.partitions → count_by (at k) l ≤ 1 =
      λ k below. omega (
        arith,
        count_by-filter (is_on k) (at k) (λ c hit. (and_parts (is_admission c) (is_on k c) hit).1) l,
        count_le (at k) is_admission (λ c hit. (and_parts (is_admission c) (is_on k c) hit).0) (filter (is_on k) l),
        (part_modest l duty k below).once,
      ) in
      omega (arith, by_partition, total_below terms.partitions 1 (λ k. count_by (at k) l) each)

-- what a call that takes a chunk tells of its cursor
abbrev IsTheirs : Terms → Call → Type 0
IsTheirs terms c = is_take c ≡ true → (cursor_at c / 64 < terms.engines) × (cursor_at c % 64 < terms.partitions)

theirs : (terms : Terms) (c : Call) → TakesWithin terms.engines c → partition_of c < terms.partitions → IsTheirs terms c
theirs terms (Took cursor chunk) within known = λ _. (within, known)
theirs terms (Open cursor len) within known = λ e. absurd (false≢true e)
theirs terms (Greet partition) within known = λ e. absurd (false≢true e)
theirs terms (Exhausted cursor) within known = λ e. absurd (false≢true e)
theirs terms (Look cursor left) within known = λ e. absurd (false≢true e)
theirs terms (Heads partition heads) within known = λ e. absurd (false≢true e)
theirs terms (Admitted partition heads) within known = λ e. absurd (false≢true e)
theirs terms (Contended partition heads found) within known = λ e. absurd (false≢true e)
theirs terms (Split serial worker) within known = λ e. absurd (false≢true e)
theirs terms (Join serial worker) within known = λ e. absurd (false≢true e)

all_theirs : (terms : Terms) (l : List Call) → AllByRecursion (TakesWithin terms.engines) l → AllByRecursion (λ c. partition_of c < terms.partitions) l → AllByRecursion (IsTheirs terms) l
all_theirs terms [] within known = tt
all_theirs terms (c ∷ l) within known = (theirs terms c within.0 known.0, all_theirs terms l within.1 known.1)

-- The lists of all workers.
each_list : (P : Call → Type 0) (lists : List (List Call)) → ((worker : ℕ) → worker < length lists → AllByRecursion P (get_or lists worker [])) → AllByRecursion P (flat_map (λ calls. calls) lists)
each_list P [] each = tt
each_list P (calls ∷ lists) each = all_both P calls (flat_map (λ c. c) lists) (each 0 (omega arith)) (each_list P lists (λ worker below. each (suc worker) (omega arith)))

few_in_lists : (hits : Call → Bool) (most : ℕ) (lists : List (List Call)) → ((worker : ℕ) → worker < length lists → count_by hits (get_or lists worker []) ≤ most) → count_by hits (flat_map (λ calls. calls) lists) ≤ length lists * most
few_in_lists hits most [] each = omega arith
few_in_lists hits most (calls ∷ lists) each =
    omega (arith, count_by-append hits calls (flat_map (λ c. c) lists), each 0 (omega arith), few_in_lists hits most lists (λ worker below. each (suc worker) (omega arith)))

module _ (terms : Terms) (epoch : Epoch) (begins : BeginsDuty terms epoch) where
  pub admitted_few : terms.engines ≤ 8 → terms.partitions ≤ 64 → admissions (all_calls epoch) ≤ 512
  admitted_few few few_partitions =
      let each : (worker : ℕ) → worker < length epoch.lists → count_by is_admission (list_of epoch worker) ≤ 64 =
      λ worker below. let goes_on = begins.each worker (omega (arith, begins.workers)) in
      omega (arith, few_admissions terms worker few_partitions (list_of epoch worker ++ goes_on.0) goes_on.1, count_by-append is_admission (list_of epoch worker) goes_on.0) in
      omega (arith, few_in_lists is_admission 64 epoch.lists each, begins.workers)

  calls_theirs : AllByRecursion (IsTheirs terms) (all_calls epoch)
  calls_theirs = each_list (IsTheirs terms) epoch.lists (λ worker below.
      let goes_on = begins.each worker (omega (arith, begins.workers)) in
      let whole = list_of epoch worker ++ goes_on.0 in
      all_left (IsTheirs terms) (list_of epoch worker) goes_on.0 (all_theirs terms whole (all_within terms worker whole goes_on.1) (partitions_known terms worker whole goes_on.1)))

  module _ (before after : View) (ended : HasEnded terms before after epoch) where
    -- no more chunks of a cursor were taken than it was opened with
    taken_here : (engine partition : ℕ) → engine < terms.engines → partition < terms.partitions → count_by (takes_any (cursor_of engine partition)) (all_calls epoch) ≤ epoch.lens (cursor_of engine partition)
    taken_here engine partition some_engine some_partition =
        let cursor = cursor_of engine partition in
        let story = after.story in
        let whole = ended.whole in
        let starts : Entry → Bool = λ e. opens cursor e.call in
        let hits : Entry → Bool = λ e. takes_any cursor e.call in
        let callers = subst (All IsCaller) ended.story (callers_whole story whole) in
        let counted : count_since starts hits story ≡ count_by (takes_any cursor) (all_calls epoch) =
        ap (count_since starts hits) ended.story
        ∙ epoch_count terms before.splits epoch before.story callers engine partition some_engine some_partition (takes_any cursor) (λ opened len. refl) (λ p. refl) (λ serial worker. refl) (λ serial worker. refl) in
        let same : count_since starts hits whole.history ≡ count_since starts hits story = count_whole story whole starts hits (λ e. opens_sets cursor e.call) in
        let len : (object_after whole.history).len cursor ≡ epoch.lens cursor =
        len_is cursor whole.history
        ∙ (opened_len_moves 0 whole.history story (whole.bears 0) cursor
        ∙ (ap (opened_len cursor) ended.story ∙ epoch_len terms before.splits epoch before.story callers engine partition some_engine some_partition)) in
        omega (arith, counted, same, next_is cursor whole.history whole.is.legal, next_le_len cursor whole.history whole.is.legal, len)

    pub claimed_few : terms.engines ≤ 8 → terms.partitions ≤ 64 → ((cursor : ℕ) → epoch.lens cursor ≤ most_chunks) → claims (all_calls epoch) ≤ 512 * most_chunks
    claimed_few few few_partitions small =
        let within : AllByRecursion (λ c. is_take c ≡ true → cursor_at c < 512) (all_calls epoch) =
        all_each (IsTheirs terms) (λ c. is_take c ≡ true → cursor_at c < 512) (λ c own take. let at = own take in let engine = at.0 in omega (arith, engine, few)) (all_calls epoch) calls_theirs in
        let small_count : count_by is_take (all_calls epoch) ≤ 512 * most_chunks =
        count_few 512 most_chunks is_take cursor_at takes_any takes_at (all_calls epoch) within (λ k below. at_each k (cases_lt (k / 64) terms.engines) (cases_lt (k % 64) terms.partitions)) in
        subst (λ n. n ≤ 512 * most_chunks) (sym (claims_count (all_calls epoch))) small_count
      where
        none_there : (k : ℕ) → (k / 64 < terms.engines → k % 64 < terms.partitions → ⊥) → count_by (takes_any k) (all_calls epoch) ≤ most_chunks
        none_there k not = omega (
          arith,
          none_hit (takes_any k) (all_calls epoch) (all_each (IsTheirs terms) (λ c. takes_any k c ≡ false) (λ c own. false_from_ne_true (takes_any k c) (λ hit.
              let parts = and_parts (is_take c) (eqb (cursor_at c) k) (sym (takes_at k c) ∙ hit) in
              let at = own parts.0 in
              let same : cursor_at c ≡ k = eqb-true (cursor_at c) k parts.1 in
              not (subst (λ n. n / 64 < terms.engines) same at.0) (subst (λ n. n % 64 < terms.partitions) same at.1))) (all_calls epoch) calls_theirs),
        )

        at_each : (k : ℕ) → (k / 64 < terms.engines) ⊎ (terms.engines ≤ k / 64) → (k % 64 < terms.partitions) ⊎ (terms.partitions ≤ k % 64) → count_by (takes_any k) (all_calls epoch) ≤ most_chunks
        at_each k (inl engine) (inl partition) =
            let same : k ≡ cursor_of (k / 64) (k % 64) = omega arith in
            subst (λ n. count_by (takes_any n) (all_calls epoch) ≤ most_chunks) (sym same) (omega (arith, taken_here (k / 64) (k % 64) engine partition, small (cursor_of (k / 64) (k % 64))))
        at_each k (inl engine) (inr beyond) = none_there k (λ e p. absurd (omega (arith, p, beyond)))
        at_each k (inr beyond) partition = none_there k (λ e p. absurd (omega (arith, e, beyond)))
