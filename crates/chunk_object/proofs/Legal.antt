-- What a legal history says of each cursor: its chunks were taken once each, in order, and no other.
use Rattle.std.proofs.Common.{◌≡◌, ℕ, suc, ◌<◌, ◌≤◌, Bool, true, false, cond, ◌&&◌, eqb, List, [], ◌∷◌, refl, sym, subst, arith}
use Rattle.std.proofs.lemmas.Bool.Decides.{nat_tests}
use Rattle.chunk_object.specs.declared.call.Call.{Call}
use Rattle.chunk_object.specs.declared.call.Call.TheVariants.{Open, Took, Exhausted}
use Rattle.chunk_object.specs.declared.call.Entry.{Entry}
use Rattle.chunk_object.specs.Object.{ChunkObject, unopened, Answers, after}
use Rattle.chunk_object.proofs.Histories.{by}
use Rattle.chunk_object.specs.History.{final, EachStep, object_step, IsAnswered, IsLegal, object_after, count_step, count_from, count_since, opens, exhausts, takes, takes_any, times_taken, refusals, one_below, len_after, opened_len, opened_from, taken_by}

-- what each step of a run keeps between its state and a count, the run keeps
pub run_keeps : {S E A : Type 0} (next : S → E → S) (ok : S → E → Type 0) (step : A → E → A) (R : S → A → Type 0)
    → ((s : S) (a : A) (e : E) → ok s e → R s a → R (next s e) (step a e)) → (s : S) (a : A) (es : List E) → EachStep next ok s es → R s a → R (final next s es) (final step a es)
run_keeps next ok step R keeps s a [] run r = r
run_keeps next ok step R keeps s a (e ∷ es) run r = run_keeps next ok step R keeps (next s e) (step a e) es run.1 (keeps s a e run.0 r)

module _ (cursor chunk : ℕ) where
  take_call : (o : ChunkObject) (k : ℕ) (c : Call) → Answers o c → k ≡ one_below (o.next cursor) chunk
      → cond (opens cursor c) 0 (cond (takes cursor chunk c) (suc k) k) ≡ one_below ((after o c).next cursor) chunk
  take_call o k (Open v len) answered e = grind (arith, nat_tests)
  take_call o k (Took v given) answered e = grind (arith, nat_tests)
  take_call o k _ answered e = e

  -- each chunk below the next was taken once since the cursor was opened, and no other
  pub times_taken_is : (h : List Entry) → IsLegal h → times_taken cursor chunk h ≡ one_below ((object_after h).next cursor) chunk
  times_taken_is h legal =
      run_keeps object_step IsAnswered (count_step (λ e. opens cursor e.call) (λ e. takes cursor chunk e.call)) (λ o k. k ≡ one_below (o.next cursor) chunk)
      (λ o k e. take_call o k e.call) unopened 0 h legal (grind (arith, nat_tests))

-- no more chunks are given than there are, and all were where someone was told that none is left
abbrev pub Full : ℕ → ChunkObject → ℕ → Type 0
Full cursor o k = (o.next cursor ≤ o.len cursor) × (0 < k → o.next cursor ≡ o.len cursor)

module _ (cursor : ℕ) where
  full_call : (o : ChunkObject) (k : ℕ) (c : Call) → Answers o c → Full cursor o k → Full cursor (after o c) (cond (opens cursor c) 0 (cond (exhausts cursor c) (suc k) k))
  full_call o k (Open v len) answered full = grind (arith, nat_tests)
  full_call o k (Took v given) answered full = grind (arith, nat_tests)
  full_call o k (Exhausted v) answered full = grind (arith, nat_tests)
  full_call o k _ answered full = full

  full_is : (h : List Entry) → IsLegal h → Full cursor (object_after h) (refusals cursor h)
  full_is h legal =
      run_keeps object_step IsAnswered (count_step (λ e. opens cursor e.call) (λ e. exhausts cursor e.call)) (Full cursor)
      (λ o k e. full_call o k e.call) unopened 0 h legal (omega arith, λ more. refl)

  pub next_le_len : (h : List Entry) → IsLegal h → (object_after h).next cursor ≤ (object_after h).len cursor
  next_le_len h legal = (full_is h legal).0

  pub next_is_len : (h : List Entry) → IsLegal h → 0 < refusals cursor h → (object_after h).next cursor ≡ (object_after h).len cursor
  next_is_len h legal = (full_is h legal).1

  -- the cursor has as many chunks as it was last opened with
  len_call : (o : ChunkObject) (k : ℕ) (c : Call) → o.len cursor ≡ k → (after o c).len cursor ≡ len_after cursor k c
  len_call o k (Open v len) e = grind (arith, nat_tests)
  len_call o k _ e = e

  len_from : (o : ChunkObject) (k : ℕ) (h : List Entry) → o.len cursor ≡ k → (final object_step o h).len cursor ≡ opened_from cursor k h
  len_from o k [] e = e
  len_from o k (x ∷ h) e = len_from (after o x.call) (len_after cursor k x.call) h (len_call o k x.call e)

  pub len_is : (h : List Entry) → (object_after h).len cursor ≡ opened_len cursor h
  len_is h = len_from unopened 0 h refl

  -- the next chunk is the number of chunks taken since the cursor was opened
  next_call : (o : ChunkObject) (k : ℕ) (c : Call) → Answers o c → o.next cursor ≡ k → (after o c).next cursor ≡ cond (opens cursor c) 0 (cond (takes_any cursor c) (suc k) k)
  next_call o k (Open v len) answered e = grind (arith, nat_tests)
  next_call o k (Took v given) answered e = grind (arith, nat_tests)
  next_call o k _ answered e = e

  pub next_is : (h : List Entry) → IsLegal h → (object_after h).next cursor ≡ count_since (λ e. opens cursor e.call) (λ e. takes_any cursor e.call) h
  next_is h legal =
      run_keeps object_step IsAnswered (count_step (λ e. opens cursor e.call) (λ e. takes_any cursor e.call)) (λ o k. o.next cursor ≡ k)
      (λ o k e. next_call o k e.call) unopened 0 h legal refl

-- one worker's hits are no more than all
count_part : (starts hits : Entry → Bool) (worker j k : ℕ) (h : List Entry) → j ≤ k → count_from starts (by hits worker) j h ≤ count_from starts hits k h
count_part starts hits worker j k [] less = less
count_part starts hits worker j k (e ∷ h) less =
    count_part starts hits worker (count_step starts (by hits worker) j e) (count_step starts hits k e) h (part_step (starts e) (hits e) (eqb e.worker worker) less)
  where
    part_step : (a b c : Bool) → j ≤ k → cond a 0 (cond (b && c) (suc j) j) ≤ cond a 0 (cond b (suc k) k)
    part_step true b c less = omega arith
    part_step false true true less = omega arith
    part_step false true false less = omega arith
    part_step false false c less = less

pub taken_by_le_next : (worker cursor : ℕ) (h : List Entry) → IsLegal h → taken_by worker cursor h ≤ (object_after h).next cursor
taken_by_le_next worker cursor h legal =
    subst (λ n. taken_by worker cursor h ≤ n) (sym (next_is cursor h legal)) (count_part (λ e. opens cursor e.call) (λ e. takes_any cursor e.call) worker 0 0 h (omega arith))
