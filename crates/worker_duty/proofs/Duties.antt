-- Own partitions and then the others are the whole duty.
use Rattle.std.proofs.Common.{◌≡◌, ◌≢◌, ℕ, ◌+◌, ◌%◌, ◌≤◌, ◌<◌, Bool, true, false, not, List, [], ◌++◌, refl, ap, sym, ◌∙◌, subst, arith, append_assoc, eq-eqb, ne_eqb}
use Rattle.std.specs.List.{All, filter}
use Rattle.std.proofs.lemmas.Bool.{eqb-true, false≢true, false_from_ne_true}
use Rattle.std.proofs.lemmas.List.{append-nil}
use Rattle.std.proofs.lemmas.List.Elements.{All-weaker, filter-append}
use Rattle.chunk_object.specs.declared.call.Call.{Call}
use Rattle.chunk_object.specs.Epochs.{Terms}
use Rattle.chunk_object.specs.Duty.{partition_of, is_on, ClaimsToTheEnd, Helps, IsMaster, IsDutiful, BeginsDutiful}
use Rattle.chunk_cursor.specs.declared.view.View.{View}
use Rattle.chunk_cursor.specs.View.{with_calls}
use Rattle.chunk_cursor.proofs.Knowing.{with_calls-append}
use Rattle.phase_model.proofs.Lists.{claims-append, admissions-append}
use Rattle.graph_model.proofs.ListLemmas.{All-front}
use Rattle.worker_duty.specs.declared.acts.Worked.{Worked}
use Rattle.worker_duty.specs.Shares.{DrainsTo, HelpsAt, is_master, OwnTo, OthersTo}
use Rattle.worker_duty.specs.Views.{MayWorkAt, HasWorked}
use Rattle.worker_duty.specs.Working.{IsPiece}
use Rattle.worker_duty.proofs.Sorted.{filter_none, fills_none, fills_all}
use Rattle.worker_duty.proofs.Elsewhere.{work_still}
use Rattle.worker_duty.proofs.Shares.{apart_partitions, drained_on, drained_ends, some_drained, some_helps}

pub master_is : (terms : Terms) (worker partition engines : ℕ) → engines ≡ terms.engines → partition % engines ≡ worker → is_master terms worker partition ≡ true
master_is terms worker partition engines same is = eq-eqb (partition % terms.engines) worker (ap (λ n. partition % n) (sym same) ∙ is)

pub master_not : (terms : Terms) (worker partition engines : ℕ) → engines ≡ terms.engines → partition % engines ≢ worker → is_master terms worker partition ≡ false
master_not terms worker partition engines same not_is = ne_eqb (partition % terms.engines) worker (λ e. not_is (ap (λ n. partition % n) same ∙ e))

pub other_is : (terms : Terms) (worker partition engines : ℕ) → engines ≡ terms.engines → partition % engines ≢ worker → not (is_master terms worker partition) ≡ true
other_is terms worker partition engines same not_is = ap not (master_not terms worker partition engines same not_is)

pub other_not : (terms : Terms) (worker partition engines : ℕ) → engines ≡ terms.engines → partition % engines ≡ worker → not (is_master terms worker partition) ≡ false
other_not terms worker partition engines same is = ap not (master_is terms worker partition engines same is)

module _ (terms : Terms) (small : terms.partitions ≤ 64) (worker : ℕ) where
  -- a partition that is drained is one of the worker's shares
  pub own_share : (engines : ℕ) → engines ≡ terms.engines → (partition : ℕ) → partition < terms.partitions → (calls : List Call) → DrainsTo partition engines calls → All (λ c. is_on partition c ≡ true) calls × ClaimsToTheEnd terms.engines partition calls
  own_share engines same partition below calls drains = (drained_on engines partition (omega arith) calls drains, subst (λ n. ClaimsToTheEnd n partition calls) same (drained_ends engines partition (omega arith) calls drains))

  pub other_share : (partition : ℕ) (calls : List Call) → HelpsAt terms partition calls → All (λ c. is_on partition c ≡ true) calls × Helps terms partition calls
  other_share partition calls helps = (helps.only, helps.helps)

  pub some_own : (partition : ℕ) → partition < terms.partitions → is_master terms worker partition ≡ true → (piece : List Call) × All (λ c. is_on partition c ≡ true) piece × ClaimsToTheEnd terms.engines partition piece
  some_own partition below is = let some = some_drained terms.engines partition (omega arith) in (some.0, (own_share terms.engines refl partition below some.0 some.1).0, (own_share terms.engines refl partition below some.0 some.1).1)

  pub some_other : (partition : ℕ) → partition < terms.partitions → not (is_master terms worker partition) ≡ true → (piece : List Call) × All (λ c. is_on partition c ≡ true) piece × Helps terms partition piece
  some_other partition below is = let some = some_helps partition (omega arith) terms in (some.0, some.1.only, some.1.helps)

  some_others : (calls : List Call) × OthersTo terms worker terms.partitions calls
  some_others = fills_all is_on (λ partition. not (is_master terms worker partition)) (Helps terms) apart_partitions 0 terms.partitions [] (omega arith) some_other (fills_none is_on (λ partition. not (is_master terms worker partition)) (Helps terms))

  abbrev InOwn : Call → Type 0
  InOwn c = (i : ℕ) × (i < terms.partitions) × (is_master terms worker i ≡ true) × (is_on i c ≡ true)

  abbrev InOthers : Call → Type 0
  InOthers c = (i : ℕ) × (i < terms.partitions) × (not (is_master terms worker i) ≡ true) × (is_on i c ≡ true)

  true_not : (b : Bool) → not b ≡ true → b ≡ false
  true_not true is = absurd (false≢true is)
  true_not false is = refl

  on_own : (c : Call) → InOwn c → (partition_of c < terms.partitions) × IsMaster terms worker (partition_of c)
  on_own c at =
      let here : partition_of c ≡ at.0 = eqb-true (partition_of c) at.0 at.3 in
      (subst (λ n. n < terms.partitions) (sym here) at.1, ap (λ n. n % terms.engines) here ∙ eqb-true (at.0 % terms.engines) worker at.2)

  on_others : (c : Call) → InOthers c → (partition_of c < terms.partitions) × (IsMaster terms worker (partition_of c) → ⊥)
  on_others c at =
      let here : partition_of c ≡ at.0 = eqb-true (partition_of c) at.0 at.3 in
      (subst (λ n. n < terms.partitions) (sym here) at.1, λ master. false≢true (sym (true_not (is_master terms worker at.0) at.2) ∙ eq-eqb (at.0 % terms.engines) worker (ap (λ n. n % terms.engines) (sym here) ∙ master)))

  other_apart : (partition : ℕ) → IsMaster terms worker partition → (c : Call) → InOthers c → is_on partition c ≡ false
  other_apart partition master c at = false_from_ne_true (is_on partition c) (λ here. (on_others c at).1 (ap (λ n. n % terms.engines) (eqb-true (partition_of c) partition here) ∙ master))

  own_apart : (partition : ℕ) → (IsMaster terms worker partition → ⊥) → (c : Call) → InOwn c → is_on partition c ≡ false
  own_apart partition other c at = false_from_ne_true (is_on partition c) (λ here. other (ap (λ n. n % terms.engines) (sym (eqb-true (partition_of c) partition here)) ∙ (on_own c at).1))

  pub dutiful : (own others : List Call) → OwnTo terms worker terms.partitions own → OthersTo terms worker terms.partitions others → IsDutiful terms worker (own ++ others)
  dutiful own others owns helps = record {
    own = own;
    others = others;
    is = refl;
    on_own = All-weaker InOwn (λ c. (partition_of c < terms.partitions) × IsMaster terms worker (partition_of c)) on_own own owns.only;
    on_others = All-weaker InOthers (λ c. (partition_of c < terms.partitions) × (IsMaster terms worker (partition_of c) → ⊥)) on_others others helps.only;
    master = λ partition below master.
        let none : filter (is_on partition) others ≡ [] = filter_none (is_on partition) others (All-weaker InOthers (λ c. is_on partition c ≡ false) (other_apart partition master) others helps.only) in
        let same : filter (is_on partition) (own ++ others) ≡ filter (is_on partition) own = filter-append (is_on partition) own others ∙ (ap (λ l. filter (is_on partition) own ++ l) none ∙ append-nil (filter (is_on partition) own)) in
        subst (ClaimsToTheEnd terms.engines partition) (sym same) (owns.each partition below (eq-eqb (partition % terms.engines) worker master));
    helper = λ partition below other.
        let none : filter (is_on partition) own ≡ [] = filter_none (is_on partition) own (All-weaker InOwn (λ c. is_on partition c ≡ false) (own_apart partition other) own owns.only) in
        let same : filter (is_on partition) (own ++ others) ≡ filter (is_on partition) others = filter-append (is_on partition) own others ∙ ap (λ l. l ++ filter (is_on partition) others) none in
        subst (Helps terms partition) (sym same) (helps.each partition below (ap not (ne_eqb (partition % terms.engines) worker other)));
  }

  -- the work was stopped at an own partition
  pub own_stopped : (partitions : ℕ) → partitions ≡ terms.partitions → (old new : View) (worked : Worked) → worked.is_through ≡ false → IsPiece (OwnTo terms worker partitions) old new worked → HasWorked terms worker (worked.is_through ≡ true) old new worked.claims worked.admitted
  own_stopped partitions same old new worked stops own = record {
    calls = own.calls;
    grown = own.grown;
    dutiful = λ is. absurd (false≢true (sym stops ∙ is));
    begins = (own.front.0 ++ some_others.0, subst (IsDutiful terms worker) (append_assoc own.calls own.front.0 some_others.0) (dutiful (own.calls ++ own.front.0) some_others.0 (subst (λ n. OwnTo terms worker n (own.calls ++ own.front.0)) same own.front.1) some_others.1));
    claims_are = own.claims_are;
    admissions_are = own.admissions_are;
  }

  some_owns : (calls : List Call) × OwnTo terms worker terms.partitions calls
  some_owns = fills_all is_on (is_master terms worker) (ClaimsToTheEnd terms.engines) apart_partitions 0 terms.partitions [] (omega arith) some_own (fills_none is_on (is_master terms worker) (ClaimsToTheEnd terms.engines))

  -- a worker that made no call can go on to its whole duty
  pub begins_nothing : BeginsDutiful terms worker []
  begins_nothing = (some_owns.0 ++ some_others.0, dutiful some_owns.0 some_others.0 some_owns.1 some_others.1)

  -- all own partitions, and then the others, or some of them
  pub all_worked : (partitions : ℕ) → partitions ≡ terms.partitions → (old middle new : View) (first then : Worked) → first.is_through ≡ true → first.admitted ≡ 0 → IsPiece (OwnTo terms worker partitions) old middle first → IsPiece (OthersTo terms worker partitions) middle new then
      → HasWorked terms worker (then.is_through ≡ true) old new (first.claims + then.claims) then.admitted
  all_worked partitions same old middle new first then through none own others =
      let owns = subst (λ n. OwnTo terms worker n own.calls) same (own.whole through) in
      let e = claims-append own.calls others.calls in
      let h = admissions-append own.calls others.calls in
      record {
        calls = own.calls ++ others.calls;
        grown = others.grown ∙ (ap (λ v. with_calls v others.calls) own.grown ∙ with_calls-append old own.calls others.calls);
        dutiful = λ is. dutiful own.calls others.calls owns (subst (λ n. OthersTo terms worker n others.calls) same (others.whole is));
        begins = (others.front.0, subst (IsDutiful terms worker) (sym (append_assoc own.calls others.calls others.front.0)) (dutiful own.calls (others.calls ++ others.front.0) owns (subst (λ n. OthersTo terms worker n (others.calls ++ others.front.0)) same others.front.1)));
        claims_are = omega (arith, e, own.claims_are, others.claims_are);
        admissions_are = omega (arith, h, own.admissions_are, others.admissions_are, none);
      }

  -- a piece of the work at one partition leaves another as it was
  pub work_elsewhere : (Whole : List Call → Type 0) (lens : ℕ → ℕ) (p q : ℕ) (old new : View) (worked : Worked) → p < 64 → q < 64 → q ≢ p → ((l : List Call) → Whole l → All (λ c. is_on q c ≡ true) l) → IsPiece Whole old new worked → MayWorkAt terms lens old p → MayWorkAt terms lens new p
  work_elsewhere Whole lens p q old new worked below few ne gives piece may =
      subst (λ v. MayWorkAt terms lens v p) (sym piece.grown)
      (work_still terms lens old p q piece.calls below few ne (All-front (λ c. is_on q c ≡ true) piece.calls piece.front.0 (gives (piece.calls ++ piece.front.0) piece.front.1)) may)

-- the worker of the seat stays
pub worker_stays : (Whole : List Call → Type 0) (old new : View) (worked : Worked) → IsPiece Whole old new worked → new.worker ≡ old.worker
worker_stays Whole old new worked piece = ap (λ (v : View). v.worker) piece.grown
