-- The calls of a legal history, as events of the pure machine, are answered alike.
use Rattle.std.proofs.Common.{◌≡◌, ◌≢◌, ℕ, suc, ◌-◌, ◌/◌, ◌%◌, ◌<◌, ◌≤◌, ◌==◌, ◌&&◌, ◌||◌, not, nat_lt, nat_le, if◌then◌else◌, Bool, true, false, List, [], ◌∷◌, ◌++◌, map, filter, refl, sym, ◌∙◌, ap, subst, arith, eq-eqb}
use Rattle.std.proofs.Math.Nat.{div-add-mod}
use Rattle.std.proofs.Math.Path.{fun_ext}
use Rattle.std.proofs.lemmas.Bool.{and_from, cond-true, cond-false, eqb-true, eqb-false, lt-ltb, ne_eqb}
use Rattle.std.specs.List.{All}
use Rattle.std.proofs.lemmas.List.Elements.{All-head, All-tail}
use Rattle.graph_model.specs.Programs.{Rules}
use Rattle.chunk_object.specs.declared.call.Call.{Call}
use Rattle.chunk_object.specs.declared.call.Call.TheVariants as call
use Rattle.chunk_object.specs.declared.call.Entry.{Entry}
use Rattle.chunk_object.specs.Object.{ChunkObject, put_at, Answers, after}
use Rattle.chunk_object.specs.History.{EachStep, object_step, IsAnswered}
use Rattle.chunk_object.specs.Epochs.{Terms, cursor_of}
use Rattle.chunk_object.specs.Duty.{is_on, partition_of}
use Rattle.phase_core.specs.declared.event.Event.TheVariants.{Claim, Look, Heads, Admit}
use Rattle.phase_core.specs.declared.event.Reply.TheVariants.{Took, Exhausted, Number, Admitted, Contended}
use Rattle.phase_core.specs.Machine.{Machine, is_active, is_cursor, works_at, is_timely, reply, after_reply, stepped}
use Rattle.phase_core.specs.Runs.{event_of, reply_of, replies, worker_of, calls_of, calls_by}
use Rattle.phase_core.proofs.Steps.{timely}
use Rattle.epoch_laws.specs.Turns.{Rights, rights_after, IsTheirs, works, MayClaim, MayAdmit, May, InTurn, calls_of_worker, event_at}

-- a cursor by its parts
pub whole : (cursor : ℕ) → cursor_of (cursor / 64) (cursor % 64) ≡ cursor
whole cursor = div-add-mod cursor 64

-- the machine shows the object at the epoch's cursors, and what the workers were told
pub record Ties (terms : Terms) (m : Machine) (o : ChunkObject) (r : ℕ → ℕ → Rights) : Type 0 where
  pub engines : m.split.engines ≡ terms.engines
  pub parts : m.split.parts ≡ terms.partitions
  pub next : (cursor : ℕ) → IsTheirs terms cursor → m.object.next cursor ≡ o.next cursor
  pub len : (cursor : ℕ) → IsTheirs terms cursor → m.object.len cursor ≡ o.len cursor
  pub heads : (partition : ℕ) → partition < terms.partitions → m.object.heads partition ≡ o.heads partition
  pub admitted : (worker partition : ℕ) → m.admitted worker partition ≡ (r worker partition).admitted
  pub refused : (worker cursor : ℕ) → m.refused worker cursor ≡ (r worker (cursor % 64)).refused cursor
  pub active : (worker : ℕ) → m.finished worker ≡ false

module _ (terms : Terms) (m : Machine) (o : ChunkObject) (r : ℕ → ℕ → Rights) (ties : Ties terms m o r) (worker : ℕ) (there : worker < terms.engines) where
  active : is_active m worker ≡ true
  active = and_from (nat_lt worker m.split.engines) (not (m.finished worker)) (lt-ltb worker m.split.engines (omega (arith, there, ties.engines))) (ap not (ties.active worker))

  theirs_cursor : (cursor : ℕ) → IsTheirs terms cursor → is_cursor m (cursor / 64) (cursor % 64) ≡ true
  theirs_cursor cursor is =
      and_from (nat_lt (cursor / 64) m.split.engines) (nat_lt (cursor % 64) m.split.parts) (lt-ltb (cursor / 64) m.split.engines (omega (arith, is.0, ties.engines)))
      (lt-ltb (cursor % 64) m.split.parts (omega (arith, is.1, ties.parts)))

  works_same : (partition : ℕ) → works_at m worker partition ≡ works terms worker partition (r worker partition)
  works_same partition =
      ap (λ engines. partition % engines == worker || m.admitted worker partition) ties.engines ∙ ap (λ b. partition % terms.engines == worker || b) (ties.admitted worker partition)

  claim_timely : (cursor : ℕ) → MayClaim terms worker cursor (r worker (cursor % 64)) → is_timely m (Claim worker (cursor / 64) (cursor % 64)) ≡ true
  claim_timely cursor may =
      let refusal : m.refused worker (cursor_of (cursor / 64) (cursor % 64)) ≡ false = ap (m.refused worker) (whole cursor) ∙ ties.refused worker cursor ∙ may.not_refused in
      and_from (is_active m worker && is_cursor m (cursor / 64) (cursor % 64) && works_at m worker (cursor % 64)) (not (m.refused worker (cursor_of (cursor / 64) (cursor % 64))))
      (and_from (is_active m worker && is_cursor m (cursor / 64) (cursor % 64)) (works_at m worker (cursor % 64))
      (and_from (is_active m worker) (is_cursor m (cursor / 64) (cursor % 64)) active (theirs_cursor cursor may.theirs))
      (works_same (cursor % 64) ∙ may.works_there))
      (ap not refusal)

  admit_timely : (partition seen : ℕ) → MayAdmit terms worker partition seen (r worker partition) → is_timely m (Admit worker partition seen) ≡ true
  admit_timely partition seen may =
      let first = and_from (is_active m worker) (nat_lt partition m.split.parts) active (lt-ltb partition m.split.parts (omega (arith, may.theirs, ties.parts))) in
      let second = and_from (is_active m worker && nat_lt partition m.split.parts) (not (works_at m worker partition)) first (ap not (works_same partition ∙ may.stranger)) in
      let third = and_from (is_active m worker && nat_lt partition m.split.parts && not (works_at m worker partition)) (nat_le 1 seen) second (at_most 1 seen may.low) in
      and_from (is_active m worker && nat_lt partition m.split.parts && not (works_at m worker partition) && nat_le 1 seen) (nat_le seen 7) third (at_most seen 7 may.high)
    where
      at_most : (a b : ℕ) → a ≤ b → nat_le a b ≡ true
      at_most a b below = grind arith

  -- **The machine's reply is the call's.**
  pub same_reply : (c : Call) → May terms worker (r worker (partition_of c)) c → Answers o c → reply m (event_of worker c) ≡ reply_of c
  same_reply (call.Took cursor chunk) may is =
      let next : m.object.next (cursor_of (cursor / 64) (cursor % 64)) ≡ chunk = ap m.object.next (whole cursor) ∙ ties.next cursor may.theirs ∙ sym is.0 in
      let len : m.object.len (cursor_of (cursor / 64) (cursor % 64)) ≡ o.len cursor = ap m.object.len (whole cursor) ∙ ties.len cursor may.theirs in
      timely m (Claim worker (cursor / 64) (cursor % 64)) (claim_timely cursor may)
      ∙ cond-true (nat_lt (m.object.next (cursor_of (cursor / 64) (cursor % 64))) (m.object.len (cursor_of (cursor / 64) (cursor % 64)))) (Took (m.object.next (cursor_of (cursor / 64) (cursor % 64)))) Exhausted
      (lt-ltb (m.object.next (cursor_of (cursor / 64) (cursor % 64))) (m.object.len (cursor_of (cursor / 64) (cursor % 64))) (omega (arith, next, len, is.1)))
      ∙ ap Took next
  same_reply (call.Exhausted cursor) may is =
      let next : m.object.next (cursor_of (cursor / 64) (cursor % 64)) ≡ o.next cursor = ap m.object.next (whole cursor) ∙ ties.next cursor may.theirs in
      let len : m.object.len (cursor_of (cursor / 64) (cursor % 64)) ≡ o.len cursor = ap m.object.len (whole cursor) ∙ ties.len cursor may.theirs in
      timely m (Claim worker (cursor / 64) (cursor % 64)) (claim_timely cursor may)
      ∙ cond-false (nat_lt (m.object.next (cursor_of (cursor / 64) (cursor % 64))) (m.object.len (cursor_of (cursor / 64) (cursor % 64)))) (Took (m.object.next (cursor_of (cursor / 64) (cursor % 64)))) Exhausted
      (not_less (m.object.next (cursor_of (cursor / 64) (cursor % 64))) (m.object.len (cursor_of (cursor / 64) (cursor % 64))) (omega (arith, next, len, is)))
    where
      not_less : (a b : ℕ) → b ≤ a → nat_lt a b ≡ false
      not_less a b most = grind arith
  same_reply (call.Look cursor left) may is =
      timely m (Look worker (cursor / 64) (cursor % 64)) (and_from (is_active m worker) (is_cursor m (cursor / 64) (cursor % 64)) active (theirs_cursor cursor may))
      ∙ ap (λ k. Number (m.object.len k - m.object.next k)) (whole cursor)
      ∙ ap (λ k. Number (k - m.object.next cursor)) (ties.len cursor may)
      ∙ ap (λ k. Number (o.len cursor - k)) (ties.next cursor may)
      ∙ ap Number (sym is)
  same_reply (call.Heads partition heads) may is =
      timely m (Heads worker partition) (and_from (is_active m worker) (nat_lt partition m.split.parts) active (lt-ltb partition m.split.parts (omega (arith, may, ties.parts))))
      ∙ ap Number (ties.heads partition may ∙ sym is)
  same_reply (call.Admitted partition heads) may is =
      timely m (Admit worker partition heads) (admit_timely partition heads may)
      ∙ cond-true (m.object.heads partition == heads) Admitted (Contended (m.object.heads partition)) (eq-eqb (m.object.heads partition) heads (ties.heads partition may.theirs ∙ sym is))
  same_reply (call.Contended partition heads found) may is =
      timely m (Admit worker partition heads) (admit_timely partition heads may)
      ∙ cond-false (m.object.heads partition == heads) Admitted (Contended (m.object.heads partition))
      (ne_eqb (m.object.heads partition) heads (λ equal. is.1 (is.0 ∙ sym (ties.heads partition may.theirs) ∙ equal)))
      ∙ ap Contended (ties.heads partition may.theirs ∙ sym is.0)
  same_reply (call.Open cursor len) may is = absurd may
  same_reply (call.Greet partition) may is = absurd may
  same_reply (call.Split serial other) may is = absurd may
  same_reply (call.Join serial other) may is = absurd may

-- a function that is given the value it has
put_same : {X : Type 0} (key : ℕ) (f : ℕ → X) → put_at key (f key) f ≡ f
put_same key f = fun_ext (λ i. by_test i (i == key) refl)
  where
    by_test : (i : ℕ) (same : Bool) → i == key ≡ same → (if same then f key else f i) ≡ f i
    by_test i true is = ap f (sym (eqb-true i key is))
    by_test i false is = refl

-- what holds of a function at a place, behind a new value there
pub put_case : {X : Type 0} (P : X → Type 0) (key : ℕ) (v : X) (f : ℕ → X) (i : ℕ) → (i ≡ key → P v) → (i ≢ key → P (f i)) → P (put_at key v f i)
put_case P key v f i here other = by_test (i == key) refl
  where
    by_test : (same : Bool) → i == key ≡ same → P (if same then v else f i)
    by_test true is = here (eqb-true i key is)
    by_test false is = other (eqb-false i key is)

-- the rights of a worker on a partition, and of all others
abbrev pub moved : ℕ → ℕ → Rights → (ℕ → ℕ → Rights) → ℕ → ℕ → Rights
moved worker partition v r = put_at worker (put_at partition v (r worker)) r

unmoved : (worker partition : ℕ) (r : ℕ → ℕ → Rights) → moved worker partition (r worker partition) r ≡ r
unmoved worker partition r = ap (λ (g : ℕ → Rights). put_at worker g r) (put_same partition (r worker)) ∙ put_same worker r

moved_case : (P : Rights → Type 0) (worker partition : ℕ) (v : Rights) (r : ℕ → ℕ → Rights) (y q : ℕ) → (y ≡ worker → q ≡ partition → P v) → ((y ≡ worker → q ≡ partition → ⊥) → P (r y q)) → P (moved worker partition v r y q)
moved_case P worker partition v r y q here other =
    put_case (λ (g : ℕ → Rights). P (g q)) worker (put_at partition v (r worker)) r y
    (λ own. put_case P partition v (r worker) q (λ at. here own at) (λ apart. subst (λ k. P (r k q)) own (other (λ _ at. apart at))))
    (λ apart. other (λ own _. apart own))

module _ (rules : Rules) (terms : Terms) (m : Machine) (o : ChunkObject) (r : ℕ → ℕ → Rights) (ties : Ties terms m o r) (worker : ℕ) where
  -- **After a call the machine shows the object and the rights after it.**
  pub ties_after : (c : Call) → May terms worker (r worker (partition_of c)) c → Answers o c →
      Ties terms (after_reply rules m (event_of worker c) (reply_of c)) (after o c) (moved worker (partition_of c) (rights_after (r worker (partition_of c)) c) r)
  ties_after (call.Took cursor chunk) may is =
      subst (λ k. Ties terms (after_reply rules m (event_of worker (call.Took cursor chunk)) (Took chunk)) (after o (call.Took cursor chunk)) k) (sym (unmoved worker (cursor % 64) r))
      (record {
        engines = ties.engines;
        parts = ties.parts;
        next = λ c theirs.
            ap (λ k. put_at k (suc chunk) m.object.next c) (whole cursor)
            ∙ put_case (λ n. n ≡ put_at cursor (suc chunk) o.next c) cursor (suc chunk) m.object.next c
            (λ here. sym (put_case (λ n. n ≡ suc chunk) cursor (suc chunk) o.next c (λ _. refl) (λ apart. absurd (apart here))))
            (λ apart. ties.next c theirs ∙ sym (put_case (λ n. n ≡ o.next c) cursor (suc chunk) o.next c (λ here. absurd (apart here)) (λ _. refl)));
        len = ties.len;
        heads = ties.heads;
        admitted = ties.admitted;
        refused = ties.refused;
        active = ties.active;
      })
  ties_after (call.Exhausted cursor) may is = record {
    engines = ties.engines;
    parts = ties.parts;
    next = ties.next;
    len = ties.len;
    heads = ties.heads;
    admitted = λ y q. moved_case (λ v. m.admitted y q ≡ v.admitted) worker (cursor % 64) (rights_after (r worker (cursor % 64)) (call.Exhausted cursor)) r y q
        (λ own at. ap (λ k. m.admitted k q) own ∙ ap (m.admitted worker) at ∙ ties.admitted worker (cursor % 64)) (λ _. ties.admitted y q);
    refused = λ y d.
        ap (λ k. put_at worker (put_at k true (m.refused worker)) m.refused y d) (whole cursor)
        ∙ put_case (λ (g : ℕ → Bool). g d ≡ (moved worker (cursor % 64) (rights_after (r worker (cursor % 64)) (call.Exhausted cursor)) r y (d % 64)).refused d) worker
        (put_at cursor true (m.refused worker)) m.refused y
        (λ own. put_case (λ b. b ≡ (moved worker (cursor % 64) (rights_after (r worker (cursor % 64)) (call.Exhausted cursor)) r y (d % 64)).refused d) cursor true (m.refused worker) d
        (λ here. moved_case (λ v. true ≡ v.refused d) worker (cursor % 64) (rights_after (r worker (cursor % 64)) (call.Exhausted cursor)) r y (d % 64)
        (λ _ _. sym (put_case (λ b. b ≡ true) cursor true (r worker (cursor % 64)).refused d (λ _. refl) (λ apart. absurd (apart here))))
        (λ other. absurd (other own (ap (λ k. k % 64) here))))
        (λ apart. moved_case (λ v. m.refused worker d ≡ v.refused d) worker (cursor % 64) (rights_after (r worker (cursor % 64)) (call.Exhausted cursor)) r y (d % 64)
        (λ _ at. ties.refused worker d ∙ ap (λ k. (r worker k).refused d) at
        ∙ sym (put_case (λ b. b ≡ (r worker (cursor % 64)).refused d) cursor true (r worker (cursor % 64)).refused d (λ here. absurd (apart here)) (λ _. refl)))
        (λ _. ties.refused worker d ∙ ap (λ k. (r k (d % 64)).refused d) (sym own))))
        (λ apart. moved_case (λ v. m.refused y d ≡ v.refused d) worker (cursor % 64) (rights_after (r worker (cursor % 64)) (call.Exhausted cursor)) r y (d % 64)
        (λ own _. absurd (apart own)) (λ _. ties.refused y d));
    active = ties.active;
  }
  ties_after (call.Look cursor left) may is = subst (λ k. Ties terms m o k) (sym (unmoved worker (cursor % 64) r)) ties
  ties_after (call.Heads partition heads) may is = subst (λ k. Ties terms m o k) (sym (unmoved worker partition r)) ties
  ties_after (call.Admitted partition heads) may is = record {
    engines = ties.engines;
    parts = ties.parts;
    next = ties.next;
    len = ties.len;
    heads = λ q below.
        put_case (λ n. n ≡ put_at partition (suc heads) o.heads q) partition (suc heads) m.object.heads q
        (λ here. sym (put_case (λ n. n ≡ suc heads) partition (suc heads) o.heads q (λ _. refl) (λ apart. absurd (apart here))))
        (λ apart. ties.heads q below ∙ sym (put_case (λ n. n ≡ o.heads q) partition (suc heads) o.heads q (λ here. absurd (apart here)) (λ _. refl)));
    admitted = λ y q.
        put_case (λ (g : ℕ → Bool). g q ≡ (moved worker partition (rights_after (r worker partition) (call.Admitted partition heads)) r y q).admitted) worker (put_at partition true (m.admitted worker)) m.admitted y
        (λ own. put_case (λ b. b ≡ (moved worker partition (rights_after (r worker partition) (call.Admitted partition heads)) r y q).admitted) partition true (m.admitted worker) q
        (λ at. moved_case (λ v. true ≡ v.admitted) worker partition (rights_after (r worker partition) (call.Admitted partition heads)) r y q (λ _ _. refl) (λ other. absurd (other own at)))
        (λ apart. moved_case (λ v. m.admitted worker q ≡ v.admitted) worker partition (rights_after (r worker partition) (call.Admitted partition heads)) r y q
        (λ _ at. absurd (apart at)) (λ _. ties.admitted worker q ∙ ap (λ k. (r k q).admitted) (sym own))))
        (λ apart. moved_case (λ v. m.admitted y q ≡ v.admitted) worker partition (rights_after (r worker partition) (call.Admitted partition heads)) r y q
        (λ own _. absurd (apart own)) (λ _. ties.admitted y q));
    refused = λ y d. moved_case (λ v. m.refused y d ≡ v.refused d) worker partition (rights_after (r worker partition) (call.Admitted partition heads)) r y (d % 64)
        (λ own at. ap (λ k. m.refused k d) own ∙ ties.refused worker d ∙ ap (λ k. (r worker k).refused d) at) (λ _. ties.refused y d);
    active = ties.active;
  }
  ties_after (call.Contended partition heads found) may is = subst (λ k. Ties terms m o k) (sym (unmoved worker partition r)) ties
  ties_after (call.Open cursor len) may is = absurd may
  ties_after (call.Greet partition) may is = absurd may
  ties_after (call.Split serial other) may is = absurd may
  ties_after (call.Join serial other) may is = absurd may

worker_back : (worker : ℕ) (c : Call) → worker_of (event_of worker c) ≡ worker
worker_back worker (call.Took cursor chunk) = refl
worker_back worker (call.Exhausted cursor) = refl
worker_back worker (call.Look cursor left) = refl
worker_back worker (call.Heads partition heads) = refl
worker_back worker (call.Admitted partition heads) = refl
worker_back worker (call.Contended partition heads found) = refl
worker_back worker (call.Open cursor len) = refl
worker_back worker (call.Greet partition) = refl
worker_back worker (call.Split serial other) = refl
worker_back worker (call.Join serial other) = refl

calls_back : (terms : Terms) (worker : ℕ) (r : Rights) (c : Call) → May terms worker r c → calls_of (event_of worker c) (reply_of c) ≡ c ∷ []
calls_back terms worker r (call.Took cursor chunk) may = ap (λ k. call.Took k chunk ∷ []) (whole cursor)
calls_back terms worker r (call.Exhausted cursor) may = ap (λ k. call.Exhausted k ∷ []) (whole cursor)
calls_back terms worker r (call.Look cursor left) may = ap (λ k. call.Look k left ∷ []) (whole cursor)
calls_back terms worker r (call.Heads partition heads) may = refl
calls_back terms worker r (call.Admitted partition heads) may = refl
calls_back terms worker r (call.Contended partition heads found) may = refl
calls_back terms worker r (call.Open cursor len) may = absurd may
calls_back terms worker r (call.Greet partition) may = absurd may
calls_back terms worker r (call.Split serial other) may = absurd may
calls_back terms worker r (call.Join serial other) may = absurd may

-- the calls of a worker, where the first entry is its own, and where not
pub calls_own : (e : Entry) (h : List Entry) (worker : ℕ) → e.worker ≡ worker → calls_of_worker worker (e ∷ h) ≡ e.call ∷ calls_of_worker worker h
calls_own e h worker own = rw (eq-eqb e.worker worker own) refl

pub calls_other : (e : Entry) (h : List Entry) (worker : ℕ) → e.worker ≢ worker → calls_of_worker worker (e ∷ h) ≡ calls_of_worker worker h
calls_other e h worker other = rw (ne_eqb e.worker worker other) refl

on_own : (c : Call) (calls : List Call) (partition : ℕ) → partition_of c ≡ partition → filter (is_on partition) (c ∷ calls) ≡ c ∷ filter (is_on partition) calls
on_own c calls partition at = rw (eq-eqb (partition_of c) partition at) refl

on_other : (c : Call) (calls : List Call) (partition : ℕ) → partition_of c ≢ partition → filter (is_on partition) (c ∷ calls) ≡ filter (is_on partition) calls
on_other c calls partition apart = rw (ne_eqb (partition_of c) partition apart) refl

module _ (rules : Rules) (terms : Terms) where
  -- each worker's calls on each partition come in their turn
  abbrev pub Turns : (ℕ → ℕ → Rights) → List Entry → Type 0
  Turns r h = (worker partition : ℕ) → worker < terms.engines → partition < terms.partitions → InTurn terms worker (r worker partition) (filter (is_on partition) (calls_of_worker worker h))

  abbrev pub IsOurs : Entry → Type 0
  IsOurs e = (e.worker < terms.engines) × (partition_of e.call < terms.partitions)

  -- **The replies are the same, and each worker's calls are its list.**
  pub same_run : (h : List Entry) (m : Machine) (o : ChunkObject) (r : ℕ → ℕ → Rights) → Ties terms m o r → All IsOurs h → EachStep object_step IsAnswered o h → Turns r h →
      (replies rules m (map event_at h) ≡ map (λ (e : Entry). reply_of e.call) h) × ((worker : ℕ) → calls_by worker rules m (map event_at h) ≡ calls_of_worker worker h)
  same_run [] m o r ties ours legal turns = (refl, λ worker. refl)
  same_run (e ∷ h) m o r ties ours legal turns =
      let c : Call = e.call in
      let x : ℕ = e.worker in
      let p : ℕ = partition_of c in
      let here : IsOurs e = All-head IsOurs e h ours in
      let mine : filter (is_on p) (calls_of_worker x (e ∷ h)) ≡ c ∷ filter (is_on p) (calls_of_worker x h) = ap (filter (is_on p)) (calls_own e h x refl) ∙ on_own c (calls_of_worker x h) p refl in
      let now = subst (InTurn terms x (r x p)) mine (turns x p here.0 here.1) in
      let replied : reply m (event_at e) ≡ reply_of c = same_reply terms m o r ties x here.0 c now.0 legal.0 in
      let next : ℕ → ℕ → Rights = moved x p (rights_after (r x p) c) r in
      let ties_next = subst (λ k. Ties terms (after_reply rules m (event_at e) k) (after o c) next) (sym replied) (ties_after rules terms m o r ties x c now.0 legal.0) in
      let rest = same_run h (stepped rules m (event_at e)) (after o c) next ties_next (All-tail IsOurs e h ours) legal.1
      (λ y q inside within. moved_case (λ v. InTurn terms y v (filter (is_on q) (calls_of_worker y h))) x p (rights_after (r x p) c) r y q
      (λ own at. subst (λ k. InTurn terms k (rights_after (r x p) c) (filter (is_on q) (calls_of_worker k h))) (sym own)
      (subst (λ k. InTurn terms x (rights_after (r x p) c) (filter (is_on k) (calls_of_worker x h))) (sym at) now.1))
      (λ other. subst (InTurn terms y (r y q)) (unchanged y q other (x == y) refl) (turns y q inside within))) in (
        ap (λ k. k ∷ replies rules (stepped rules m (event_at e)) (map event_at h)) replied ∙ ap (λ l. reply_of c ∷ l) rest.0,
        λ worker. of_worker worker replied now.0 (rest.1 worker) (worker == worker_of (event_at e)) refl,
      )
    where
      unchanged : (y q : ℕ) → (y ≡ e.worker → q ≡ partition_of e.call → ⊥) → (own : Bool) → e.worker == y ≡ own → filter (is_on q) (calls_of_worker y (e ∷ h)) ≡ filter (is_on q) (calls_of_worker y h)
      unchanged y q other true is =
          let same : e.worker ≡ y = eqb-true e.worker y is in
          ap (filter (is_on q)) (calls_own e h y same) ∙ on_other e.call (calls_of_worker y h) q (λ at. other (sym same) (sym at))
      unchanged y q other false is = ap (filter (is_on q)) (calls_other e h y (eqb-false e.worker y is))

      of_worker : (worker : ℕ) → reply m (event_at e) ≡ reply_of e.call → May terms e.worker (r e.worker (partition_of e.call)) e.call →
          calls_by worker rules (stepped rules m (event_at e)) (map event_at h) ≡ calls_of_worker worker h → (own : Bool) → worker == worker_of (event_at e) ≡ own →
          (if own then calls_of (event_at e) (reply m (event_at e)) else []) ++ calls_by worker rules (stepped rules m (event_at e)) (map event_at h) ≡ calls_of_worker worker (e ∷ h)
      of_worker worker replied may rest true is =
          let same : e.worker ≡ worker = sym (eqb-true worker (worker_of (event_at e)) is ∙ worker_back e.worker e.call) in
          ap (λ l. l ++ calls_by worker rules (stepped rules m (event_at e)) (map event_at h)) (ap (calls_of (event_at e)) replied ∙ calls_back terms e.worker (r e.worker (partition_of e.call)) e.call may)
          ∙ ap (λ l. e.call ∷ l) rest ∙ sym (calls_own e h worker same)
      of_worker worker replied may rest false is =
          rest ∙ sym (calls_other e h worker (λ same. eqb-false worker (worker_of (event_at e)) is (sym same ∙ sym (worker_back e.worker e.call))))
