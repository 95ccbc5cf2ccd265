-- Workers that meet their duty take each chunk of an epoch once, and no other.
use Rattle.std.proofs.Common.{◌≡◌, ℕ, suc, ◌+◌, ◌/◌, ◌%◌, ◌<◌, ◌≤◌, Bool, true, false, cond, ◌&&◌, eqb, ltb, List, [], ◌∷◌, ◌++◌, length, get_or, refl, ap, sym, ◌∙◌, subst, inl, inr, ◌⊎◌, ⊎_elim, arith, eq-eqb, ne_eqb, mod-lt}
use Rattle.std.specs.List.{AllByRecursion, count_by, filter, flat_map}
use Rattle.std.proofs.lemmas.Bool.{cases_Bool, cases_eq, cases_lt, cond-true, cond-false, and_parts, and_from, and_left, and_right, eqb-true, false≢true, false_from_ne_true, lt-ltb, le-ltb}
use Rattle.std.proofs.lemmas.List.Elements.{recursion_from_All, filter_passes}
use Rattle.chunk_object.specs.declared.call.Call.{Call}
use Rattle.chunk_object.specs.declared.call.Call.TheVariants.{Open, Greet, Took, Exhausted, Look, Heads, Admitted, Contended, Split, Join}
use Rattle.chunk_object.specs.declared.call.Entry.{Entry}
use Rattle.chunk_object.specs.History.{exhausts, takes, one_below, StandsWhole}
use Rattle.chunk_object.specs.Epochs.{cursor_of, Terms, Epoch, list_of, all_calls, epoch_entries, MastersAreTold, TakesEachOnce}
use Rattle.chunk_object.specs.Duty.{partition_of, is_on, claims_at, IsClaim, EndsExhausted, ClaimsToTheEnd, looks_from, FollowsHeads, Helps, IsMaster, MeetsDuty}
use Rattle.chunk_object.proofs.Covered.{count-cons, count_by-append, epoch_is_taken}

-- a count is the same among what a test keeps, where all hits pass it
pub count_by-filter : (p hits : Call → Bool) → ((c : Call) → hits c ≡ true → p c ≡ true) → (l : List Call) → count_by hits (filter p l) ≡ count_by hits l
count_by-filter p hits kept [] = refl
count_by-filter p hits kept (c ∷ l) = ⊎_elim
    (λ passes.
    ap (count_by hits) (cond-true (p c) (c ∷ filter p l) (filter p l) passes)
    ∙ (count-cons hits c (filter p l) ∙ (ap (λ n. cond (hits c) 1 0 + n) (count_by-filter p hits kept l) ∙ sym (count-cons hits c l))))
    (λ left.
    let miss : hits c ≡ false = false_from_ne_true (hits c) (λ h. false≢true (sym left ∙ kept c h)) in
    let none : cond {A = ℕ} (hits c) 1 0 ≡ 0 = cond-false {A = ℕ} (hits c) 1 0 miss in
    ap (count_by hits) (cond-false (p c) (c ∷ filter p l) (filter p l) left) ∙ omega (arith, count_by-filter p hits kept l, count-cons hits c l, none))
    (cases_Bool (p c))

-- no call of a list is a hit
pub none_hit : (hits : Call → Bool) (l : List Call) → AllByRecursion (λ c. hits c ≡ false) l → count_by hits l ≡ 0
none_hit hits [] all = refl
none_hit hits (c ∷ l) all =
    let none : cond {A = ℕ} (hits c) 1 0 ≡ 0 = cond-false {A = ℕ} (hits c) 1 0 all.0 in
    omega (arith, count-cons hits c l, none, none_hit hits l all.1)

-- what holds of each element gives what holds of each by recursion
pub all_each : {X : Type 0} (P Q : X → Type 0) → ((x : X) → P x → Q x) → (l : List X) → AllByRecursion P l → AllByRecursion Q l
all_each P Q step [] all = tt
all_each P Q step (x ∷ l) all = (step x all.0, all_each P Q step l all.1)

pub cursor_parts : (engine partition : ℕ) → partition < 64 → (cursor_of engine partition / 64 ≡ engine) × (cursor_of engine partition % 64 ≡ partition)
cursor_parts engine partition small = (omega arith, omega arith)

cursor_is : (cursor : ℕ) → cursor ≡ cursor_of (cursor / 64) (cursor % 64)
cursor_is cursor = omega arith

exhausts_claims : (cursor : ℕ) (c : Call) → exhausts cursor c ≡ true → claims_at cursor c ≡ true
exhausts_claims cursor (Exhausted claimed) h = h
exhausts_claims cursor (Took claimed chunk) h = absurd (false≢true h)
exhausts_claims cursor (Open opened len) h = h
exhausts_claims cursor (Greet partition) h = h
exhausts_claims cursor (Look looked left) h = h
exhausts_claims cursor (Heads partition heads) h = h
exhausts_claims cursor (Admitted partition heads) h = h
exhausts_claims cursor (Contended partition heads found) h = h
exhausts_claims cursor (Split serial worker) h = h
exhausts_claims cursor (Join serial worker) h = h

-- a claim at a cursor is on its partition
claims_on : (cursor : ℕ) (c : Call) → claims_at cursor c ≡ true → partition_of c ≡ cursor % 64
claims_on cursor (Took claimed chunk) h = ap (λ n. n % 64) (eqb-true claimed cursor h)
claims_on cursor (Exhausted claimed) h = ap (λ n. n % 64) (eqb-true claimed cursor h)
claims_on cursor (Open opened len) h = absurd (false≢true h)
claims_on cursor (Greet partition) h = absurd (false≢true h)
claims_on cursor (Look looked left) h = absurd (false≢true h)
claims_on cursor (Heads partition heads) h = absurd (false≢true h)
claims_on cursor (Admitted partition heads) h = absurd (false≢true h)
claims_on cursor (Contended partition heads found) h = absurd (false≢true h)
claims_on cursor (Split serial worker) h = absurd (false≢true h)
claims_on cursor (Join serial worker) h = absurd (false≢true h)

takes_claims : (cursor chunk : ℕ) (c : Call) → takes cursor chunk c ≡ true → claims_at cursor c ≡ true
takes_claims cursor chunk (Took claimed given) h = (and_parts (eqb claimed cursor) (eqb given chunk) h).0
takes_claims cursor chunk (Exhausted claimed) h = absurd (false≢true h)
takes_claims cursor chunk (Open opened len) h = h
takes_claims cursor chunk (Greet partition) h = h
takes_claims cursor chunk (Look looked left) h = h
takes_claims cursor chunk (Heads partition heads) h = h
takes_claims cursor chunk (Admitted partition heads) h = h
takes_claims cursor chunk (Contended partition heads found) h = h
takes_claims cursor chunk (Split serial worker) h = h
takes_claims cursor chunk (Join serial worker) h = h

pub is_on_claims : (cursor partition : ℕ) → cursor % 64 ≡ partition → (c : Call) → claims_at cursor c ≡ true → is_on partition c ≡ true
is_on_claims cursor partition e c h = eq-eqb (partition_of c) partition (claims_on cursor c h ∙ e)

-- claims at one cursor that end exhausted were told so
told_at_end : (cursor : ℕ) (l : List Call) → AllByRecursion (λ c. claims_at cursor c ≡ true) l → EndsExhausted l → 0 < count_by (exhausts cursor) l
told_at_end cursor [] all ends = absurd ends
told_at_end cursor (Took claimed chunk ∷ l) all ends = omega (arith, count-cons (exhausts cursor) (Took claimed chunk) l, told_at_end cursor l all.1 ends)
told_at_end cursor (Exhausted claimed ∷ []) all ends =
    let one : cond {A = ℕ} (eqb claimed cursor) 1 0 ≡ 1 = cond-true {A = ℕ} (eqb claimed cursor) 1 0 all.0 in omega (arith, count-cons (exhausts cursor) (Exhausted claimed) [], one)
told_at_end cursor (Exhausted claimed ∷ c ∷ l) all ends = absurd ends
told_at_end cursor (Open opened len ∷ l) all ends = absurd ends
told_at_end cursor (Greet partition ∷ l) all ends = absurd ends
told_at_end cursor (Look looked left ∷ l) all ends = absurd ends
told_at_end cursor (Heads partition heads ∷ l) all ends = absurd ends
told_at_end cursor (Admitted partition heads ∷ l) all ends = absurd ends
told_at_end cursor (Contended partition heads found ∷ l) all ends = absurd ends
told_at_end cursor (Split serial worker ∷ l) all ends = absurd ends
told_at_end cursor (Join serial worker ∷ l) all ends = absurd ends

-- claims on the engines take nothing at a cursor beyond them
module _ (engines cursor chunk : ℕ) (beyond : engines ≤ cursor / 64) where
  none_beyond : (c : Call) → IsClaim engines c → takes cursor chunk c ≡ false
  none_beyond (Took claimed given) claim = and_left (eqb claimed cursor) (eqb given chunk) (ne_eqb claimed cursor (λ e. omega (arith, ap (λ n. n / 64) e)))
  none_beyond (Exhausted claimed) claim = refl
  none_beyond (Open opened len) claim = refl
  none_beyond (Greet partition) claim = refl
  none_beyond (Look looked left) claim = refl
  none_beyond (Heads partition heads) claim = refl
  none_beyond (Admitted partition heads) claim = refl
  none_beyond (Contended partition heads found) claim = refl
  none_beyond (Split serial worker) claim = refl
  none_beyond (Join serial worker) claim = refl

  none_claimed : (partition : ℕ) (l : List Call) → ClaimsToTheEnd engines partition l → count_by (takes cursor chunk) l ≡ 0
  none_claimed partition l claims = none_hit (takes cursor chunk) l (all_each (IsClaim engines) (λ c. takes cursor chunk c ≡ false) none_beyond l (recursion_from_All (IsClaim engines) l claims.claims))

  none_looked : (partition engine : ℕ) (looks : List ℕ) (l : List Call) → count_by (takes cursor chunk) (looks_from partition engine looks ++ l) ≡ count_by (takes cursor chunk) l
  none_looked partition engine [] l = refl
  none_looked partition engine (left ∷ looks) l =
      omega (arith, count-cons (takes cursor chunk) (Look (cursor_of engine partition) left) (looks_from partition (engine + 1) looks ++ l), none_looked partition (engine + 1) looks l)

  none_followed : (terms : Terms) → terms.engines ≡ engines → (partition unread heads : ℕ) (l : List Call) → FollowsHeads terms partition unread heads l → count_by (takes cursor chunk) l ≡ 0
  none_followed terms same partition unread heads [] follows = refl
  none_followed terms same partition unread heads (Admitted asked count ∷ l) follows =
      omega (arith, count-cons (takes cursor chunk) (Admitted asked count) l, none_claimed partition l (subst (λ n. ClaimsToTheEnd n partition l) same follows.3))
  none_followed terms same partition unread heads (Contended asked count found ∷ []) follows = refl
  none_followed terms same partition unread heads (Contended asked count found ∷ c ∷ l) follows = absurd follows
  none_followed terms same partition unread heads (Took claimed given ∷ l) follows = absurd follows
  none_followed terms same partition unread heads (Exhausted claimed ∷ l) follows = absurd follows
  none_followed terms same partition unread heads (Open opened len ∷ l) follows = absurd follows
  none_followed terms same partition unread heads (Greet greeted ∷ l) follows = absurd follows
  none_followed terms same partition unread heads (Look looked left ∷ l) follows = absurd follows
  none_followed terms same partition unread heads (Heads counted found ∷ l) follows = absurd follows
  none_followed terms same partition unread heads (Split serial worker ∷ l) follows = absurd follows
  none_followed terms same partition unread heads (Join serial worker ∷ l) follows = absurd follows

  none_helped : (terms : Terms) → terms.engines ≡ engines → (partition : ℕ) (l : List Call) → Helps terms partition l → count_by (takes cursor chunk) l ≡ 0
  none_helped terms same partition l helps =
      ap (count_by (takes cursor chunk)) helps.is
      ∙ (none_looked partition 0 helps.looks (Heads partition helps.heads ∷ helps.rest)
      ∙ omega (arith, count-cons (takes cursor chunk) (Heads partition helps.heads) helps.rest, none_followed terms same partition _ helps.heads helps.rest helps.follows))

-- nothing is taken in lists that take nothing
none_in_all : (hits : Call → Bool) (lists : List (List Call)) → ((worker : ℕ) → worker < length lists → count_by hits (get_or lists worker []) ≡ 0) → count_by hits (flat_map (λ calls. calls) lists) ≡ 0
none_in_all hits [] each = refl
none_in_all hits (calls ∷ lists) each =
    omega (arith, count_by-append hits calls (flat_map (λ c. c) lists), each 0 (omega arith), none_in_all hits lists (λ worker below. each (suc worker) (omega arith)))

module _ (terms : Terms) (epoch : Epoch) (few : terms.partitions ≤ 64) (duty : MeetsDuty terms epoch) where
  masters_told : MastersAreTold terms epoch
  masters_told engine partition some_engine some_partition =
      let worker = partition % terms.engines in
      let cursor = cursor_of engine partition in
      let calls = list_of epoch worker in
      let d = duty.each worker (mod-lt partition (omega arith)) in
      let ends = (d.master partition some_partition refl).each engine some_engine in
      let own = filter (claims_at cursor) (filter (is_on partition) calls) in
      let told = told_at_end cursor own (recursion_from_All (λ c. claims_at cursor c ≡ true) own (filter_passes (claims_at cursor) (filter (is_on partition) calls))) ends in
      let parts = cursor_parts engine partition (omega arith) in
      let same : count_by (exhausts cursor) own ≡ count_by (exhausts cursor) calls =
      count_by-filter (claims_at cursor) (exhausts cursor) (exhausts_claims cursor) (filter (is_on partition) calls)
      ∙ count_by-filter (is_on partition) (exhausts cursor) (λ c h. is_on_claims cursor partition parts.1 c (exhausts_claims cursor c h)) calls in
      subst (λ n. 0 < n) same told

  -- at a cursor beyond the job's nothing is taken
  none_at_partition : (cursor chunk worker : ℕ) → terms.partitions ≤ cursor % 64 → worker < terms.engines → count_by (takes cursor chunk) (list_of epoch worker) ≡ 0
  none_at_partition cursor chunk worker beyond below =
      let d = duty.each worker below in
      ap (count_by (takes cursor chunk)) d.is
      ∙ omega (
        arith,
        count_by-append (takes cursor chunk) d.own d.others,
        none_hit (takes cursor chunk) d.own (all_each (λ c. (partition_of c < terms.partitions) × IsMaster terms worker (partition_of c)) (λ c. takes cursor chunk c ≡ false) (λ c on. not_taken c on.0) d.own (recursion_from_All _ d.own d.on_own)),
        none_hit (takes cursor chunk) d.others (all_each (λ c. (partition_of c < terms.partitions) × (IsMaster terms worker (partition_of c) → ⊥)) (λ c. takes cursor chunk c ≡ false) (λ c on. not_taken c on.0) d.others (recursion_from_All _ d.others d.on_others)),
      )
    where
      not_taken : (c : Call) → partition_of c < terms.partitions → takes cursor chunk c ≡ false
      not_taken c on = false_from_ne_true (takes cursor chunk c) (λ h. omega (arith, claims_on cursor c (takes_claims cursor chunk c h)))

  none_at_engine : (cursor chunk worker : ℕ) → cursor % 64 < terms.partitions → terms.engines ≤ cursor / 64 → worker < terms.engines → count_by (takes cursor chunk) (list_of epoch worker) ≡ 0
  none_at_engine cursor chunk worker some_partition beyond below =
      let d = duty.each worker below in
      let partition = cursor % 64 in
      let calls = list_of epoch worker in
      sym (count_by-filter (is_on partition) (takes cursor chunk) (λ c h. is_on_claims cursor partition refl c (takes_claims cursor chunk c h)) calls)
      ∙ ⊎_elim
      (λ master. none_claimed terms.engines cursor chunk beyond partition (filter (is_on partition) calls) (d.master partition some_partition master))
      (λ other. none_helped terms.engines cursor chunk beyond terms refl partition (filter (is_on partition) calls) (d.helper partition some_partition other))
      (cases_eq (partition % terms.engines) worker)

  none_elsewhere : (cursor chunk : ℕ) → (terms.engines ≤ cursor / 64) ⊎ (terms.partitions ≤ cursor % 64) → count_by (takes cursor chunk) (all_calls epoch) ≡ 0
  none_elsewhere cursor chunk beyond =
      none_in_all (takes cursor chunk) epoch.lists (λ worker below.
      let small : worker < terms.engines = omega (arith, duty.workers) in
      ⊎_elim
      (λ partition. ⊎_elim
      (λ engine. none_at_engine cursor chunk worker partition engine small)
      (λ no_partition. none_at_partition cursor chunk worker no_partition small)
      beyond)
      (λ no_partition. none_at_partition cursor chunk worker no_partition small)
      (cases_lt (cursor % 64) terms.partitions))

  pub duty_takes_each : (story : List Entry) → StandsWhole story → (past : List Entry) (before : ℕ) → story ≡ past ++ epoch_entries terms before epoch → TakesEachOnce terms epoch
  duty_takes_each story whole past before ends cursor chunk =
      let each = epoch_is_taken story whole terms past before epoch ends masters_told in
      let there : Bool = ltb (cursor / 64) terms.engines && ltb (cursor % 64) terms.partitions in
      ⊎_elim
      (λ engine. ⊎_elim
      (λ partition.
      let same = cursor_is cursor in
      let here : there ≡ true = and_from _ _ (lt-ltb _ _ engine) (lt-ltb _ _ partition) in
      subst (λ n. count_by (takes n chunk) (all_calls epoch) ≡ one_below (epoch.lens n) chunk) (sym same) (each (cursor / 64) (cursor % 64) chunk engine partition)
      ∙ ap (λ n. one_below n chunk) (sym (cond-true there (epoch.lens cursor) 0 here)))
      (λ no_partition. nothing there (and_right _ _ (le-ltb _ _ no_partition)) (inr no_partition))
      (cases_lt (cursor % 64) terms.partitions))
      (λ no_engine. nothing there (and_left _ _ (le-ltb _ _ no_engine)) (inl no_engine))
      (cases_lt (cursor / 64) terms.engines)
    where
      nothing : (there : Bool) → there ≡ false → (terms.engines ≤ cursor / 64) ⊎ (terms.partitions ≤ cursor % 64) → count_by (takes cursor chunk) (all_calls epoch) ≡ one_below (cond there (epoch.lens cursor) 0) chunk
      nothing there gone beyond = none_elsewhere cursor chunk beyond ∙ sym (ap (λ n. one_below n chunk) (cond-false there (epoch.lens cursor) 0 gone) ∙ cond-false (ltb chunk 0) 1 0 (le-ltb chunk 0 (omega arith)))
