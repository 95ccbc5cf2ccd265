-- A list that meets the duty comes in its turn.
use Rattle.std.proofs.Common.{◌≡◌, ◌⊎◌, inl, inr, ℕ, ◌+◌, ◌/◌, ◌%◌, ◌<◌, ◌≤◌, ◌==◌, ◌||◌, Bool, true, false, List, [], ◌∷◌, ◌++◌, length, filter, refl, sym, ◌∙◌, ap, subst, arith, eq-eqb}
use Rattle.std.specs.List.{All}
use Rattle.std.proofs.lemmas.Bool.{eqb-true, eqb-false, ne_eqb}
use Rattle.std.proofs.lemmas.List.Elements.{All-head, All-tail, All-append, All-weaker, filter_passes}
use Rattle.chunk_object.specs.declared.call.Call.{Call}
use Rattle.chunk_object.specs.declared.call.Call.TheVariants.{Took, Exhausted, Heads, Admitted, Contended}
use Rattle.chunk_object.specs.Epochs.{Terms, cursor_of}
use Rattle.chunk_object.specs.Duty.{partition_of, is_on, claims_at, IsClaim, EndsExhausted, ClaimsToTheEnd, looks_from, FollowsHeads, Helps, IsMaster, IsDutiful}
use Rattle.chunk_object.proofs.Dutiful.{cursor_parts}
use Rattle.epoch_laws.specs.Turns.{Rights, no_rights, rights_after, works, InTurn}
use Rattle.epoch_laws.proofs.Events.{whole, put_case}

-- what is left of the claims at a cursor: to the end, of which nothing is known yet; or nothing
abbrev Left : Rights → ℕ → List Call → Type 0
Left r cursor calls = (EndsExhausted (filter (claims_at cursor) calls) × (r.refused cursor ≡ false)) ⊎ (filter (claims_at cursor) calls ≡ [])

claims_here : (call : Call) (calls : List Call) (cursor : ℕ) → claims_at cursor call ≡ true → filter (claims_at cursor) (call ∷ calls) ≡ call ∷ filter (claims_at cursor) calls
claims_here call calls cursor test = rw test refl

claims_elsewhere : (call : Call) (calls : List Call) (cursor : ℕ) → claims_at cursor call ≡ false → filter (claims_at cursor) (call ∷ calls) ≡ filter (claims_at cursor) calls
claims_elsewhere call calls cursor test = rw test refl

no_list : {X : Type 0} (x : X) (xs : List X) → (x ∷ xs) ≡ [] → ⊥
no_list x xs same = absurd cc

-- the claim was not the last one
ends_none : (cursor : ℕ) (calls : List Call) → EndsExhausted (Exhausted cursor ∷ calls) → calls ≡ []
ends_none cursor [] ends = refl
ends_none cursor (c ∷ calls) ends = absurd ends

module _ (terms : Terms) (few : terms.partitions ≤ 64) (worker p : ℕ) (inside : p < terms.partitions) where
  -- the cursors of the partition
  own_cursor : (cursor : ℕ) → cursor % 64 ≡ p → cursor_of (cursor / 64) p ≡ cursor
  own_cursor cursor at = ap (cursor_of (cursor / 64)) (sym at) ∙ whole cursor

  abbrev AllLeft : Rights → List Call → Type 0
  AllLeft r calls = (engine : ℕ) → engine < terms.engines → Left r (cursor_of engine p) calls

  claims_turn : (calls : List Call) (r : Rights) → All (λ c. partition_of c ≡ p) calls → All (IsClaim terms.engines) calls → works terms worker p r ≡ true → AllLeft r calls → InTurn terms worker r calls
  claims_turn [] r on claims there left = tt
  claims_turn (Took cursor chunk ∷ calls) r on claims there left =
      let at : cursor % 64 ≡ p = All-head (λ c. partition_of c ≡ p) (Took cursor chunk) calls on in
      let engine : cursor / 64 < terms.engines = All-head (IsClaim terms.engines) (Took cursor chunk) calls claims in
      let here = subst (λ k. Left r k (Took cursor chunk ∷ calls)) (own_cursor cursor at) (left (cursor / 64) engine) in (
        record { theirs = (engine, subst (λ k. k < terms.partitions) (sym at) inside); works_there = subst (λ k. works terms worker k r ≡ true) (sym at) there; not_refused = open_here here },
        claims_turn calls r (All-tail (λ c. partition_of c ≡ p) (Took cursor chunk) calls on) (All-tail (IsClaim terms.engines) (Took cursor chunk) calls claims) there
            (λ e below. go_on (cursor_of e p) (cursor == cursor_of e p) refl (left e below)),
      )
    where
      open_here : Left r cursor (Took cursor chunk ∷ calls) → r.refused cursor ≡ false
      open_here (inl both) = both.1
      open_here (inr none) = absurd (no_list (Took cursor chunk) (filter (claims_at cursor) calls) (sym (claims_here (Took cursor chunk) calls cursor (eq-eqb cursor cursor refl)) ∙ none))

      go_on : (k : ℕ) (same : Bool) → cursor == k ≡ same → Left r k (Took cursor chunk ∷ calls) → Left r k calls
      go_on k true is (inl both) = inl (subst EndsExhausted (claims_here (Took cursor chunk) calls k is) both.0, both.1)
      go_on k true is (inr none) = absurd (no_list (Took cursor chunk) (filter (claims_at k) calls) (sym (claims_here (Took cursor chunk) calls k is) ∙ none))
      go_on k false is (inl both) = inl (subst EndsExhausted (claims_elsewhere (Took cursor chunk) calls k is) both.0, both.1)
      go_on k false is (inr none) = inr (sym (claims_elsewhere (Took cursor chunk) calls k is) ∙ none)
  claims_turn (Exhausted cursor ∷ calls) r on claims there left =
      let at : cursor % 64 ≡ p = All-head (λ c. partition_of c ≡ p) (Exhausted cursor) calls on in
      let engine : cursor / 64 < terms.engines = All-head (IsClaim terms.engines) (Exhausted cursor) calls claims in
      let here = subst (λ k. Left r k (Exhausted cursor ∷ calls)) (own_cursor cursor at) (left (cursor / 64) engine) in (
        record { theirs = (engine, subst (λ k. k < terms.partitions) (sym at) inside); works_there = subst (λ k. works terms worker k r ≡ true) (sym at) there; not_refused = open_here here },
        claims_turn calls (rights_after r (Exhausted cursor)) (All-tail (λ c. partition_of c ≡ p) (Exhausted cursor) calls on) (All-tail (IsClaim terms.engines) (Exhausted cursor) calls claims) there
            (λ e below. go_on (cursor_of e p) (cursor == cursor_of e p) refl (left e below)),
      )
    where
      open_here : Left r cursor (Exhausted cursor ∷ calls) → r.refused cursor ≡ false
      open_here (inl both) = both.1
      open_here (inr none) = absurd (no_list (Exhausted cursor) (filter (claims_at cursor) calls) (sym (claims_here (Exhausted cursor) calls cursor (eq-eqb cursor cursor refl)) ∙ none))

      go_on : (k : ℕ) (same : Bool) → cursor == k ≡ same → Left r k (Exhausted cursor ∷ calls) → Left (rights_after r (Exhausted cursor)) k calls
      go_on k true is (inl both) = inr (ends_none cursor (filter (claims_at k) calls) (subst EndsExhausted (claims_here (Exhausted cursor) calls k is) both.0))
      go_on k true is (inr none) = absurd (no_list (Exhausted cursor) (filter (claims_at k) calls) (sym (claims_here (Exhausted cursor) calls k is) ∙ none))
      go_on k false is (inl both) =
          inl (
            subst EndsExhausted (claims_elsewhere (Exhausted cursor) calls k is) both.0,
            put_case (λ b. b ≡ false) cursor true r.refused k (λ equal. absurd (eqb-false cursor k is (sym equal))) (λ _. both.1),
          )
      go_on k false is (inr none) = inr (sym (claims_elsewhere (Exhausted cursor) calls k is) ∙ none)
  claims_turn (c ∷ calls) r on claims there left = absurd (All-head (IsClaim terms.engines) c calls claims)

  -- claims to the end, from the start
  to_the_end : (calls : List Call) (r : Rights) → All (λ c. partition_of c ≡ p) calls → ClaimsToTheEnd terms.engines p calls → works terms worker p r ≡ true → ((cursor : ℕ) → r.refused cursor ≡ false) → InTurn terms worker r calls
  to_the_end calls r on is there fresh = claims_turn calls r on is.claims there (λ engine below. inl (is.each engine below, fresh (cursor_of engine p)))

  -- looks, and what follows
  looks_turn : (looks : List ℕ) (engine : ℕ) (rest : List Call) (r : Rights) → engine + length looks ≤ terms.engines → InTurn terms worker r rest → InTurn terms worker r (looks_from p engine looks ++ rest)
  looks_turn [] engine rest r most turn = turn
  looks_turn (left ∷ looks) engine rest r most turn =
      let parts = cursor_parts engine p (omega (arith, inside, few)) in
      ((omega (arith, parts.0, most), subst (λ k. k < terms.partitions) (sym parts.1) inside), looks_turn looks (engine + 1) rest r (omega (arith, most)) turn)

  or_none : (b : Bool) → (b || false) ≡ b
  or_none true = refl
  or_none false = refl

  or_all : (b : Bool) → (b || true) ≡ true
  or_all true = refl
  or_all false = refl

  follows_turn : (unread heads : ℕ) (rest : List Call) → (1 ≤ heads) × (heads ≤ 7) → (IsMaster terms worker p → ⊥) → All (λ c. partition_of c ≡ p) rest → FollowsHeads terms p unread heads rest → InTurn terms worker no_rights rest
  follows_turn unread heads [] bounds stranger on follows = tt
  follows_turn unread heads (Admitted asked count ∷ calls) bounds stranger on follows = (
    record {
      theirs = subst (λ k. k < terms.partitions) (sym follows.1) inside;
      stranger = or_none (asked % terms.engines == worker) ∙ ne_eqb (asked % terms.engines) worker (λ equal. stranger (ap (λ k. k % terms.engines) (sym follows.1) ∙ equal));
      low = omega (arith, follows.2, bounds.0);
      high = omega (arith, follows.2, bounds.1);
    },
    to_the_end calls (rights_after no_rights (Admitted asked count)) (All-tail (λ c. partition_of c ≡ p) (Admitted asked count) calls on) follows.3 (or_all (p % terms.engines == worker)) (λ cursor. refl),
  )
  follows_turn unread heads (Contended asked count found ∷ []) bounds stranger on follows = (
    record {
      theirs = subst (λ k. k < terms.partitions) (sym follows.1) inside;
      stranger = or_none (asked % terms.engines == worker) ∙ ne_eqb (asked % terms.engines) worker (λ equal. stranger (ap (λ k. k % terms.engines) (sym follows.1) ∙ equal));
      low = omega (arith, follows.2, bounds.0);
      high = omega (arith, follows.2, bounds.1);
    },
    tt,
  )
  follows_turn unread heads (c ∷ calls) bounds stranger on follows = absurd follows

  -- what stands behind a front of calls on the partition is on it too
  behind : (front : List Call) (c : Call) (rest : List Call) → All (λ c. partition_of c ≡ p) (front ++ c ∷ rest) → All (λ c. partition_of c ≡ p) rest
  behind [] c rest on = All-tail (λ c. partition_of c ≡ p) c rest on
  behind (x ∷ front) c rest on = behind front c rest (All-tail (λ c. partition_of c ≡ p) x (front ++ c ∷ rest) on)

  pub dutiful_turn : (calls : List Call) → IsDutiful terms worker calls → InTurn terms worker no_rights (filter (is_on p) calls)
  dutiful_turn calls duty = by_master (p % terms.engines == worker) refl
    where
      on : All (λ c. partition_of c ≡ p) (filter (is_on p) calls)
      on = All-weaker (λ c. is_on p c ≡ true) (λ c. partition_of c ≡ p) (λ c is. eqb-true (partition_of c) p is) (filter (is_on p) calls) (filter_passes (is_on p) calls)

      helped : (IsMaster terms worker p → ⊥) → Helps terms p (filter (is_on p) calls) → InTurn terms worker no_rights (filter (is_on p) calls)
      helped stranger helps =
          let on_rest = behind (looks_from p 0 helps.looks) (Heads p helps.heads) helps.rest (subst (All (λ c. partition_of c ≡ p)) helps.is on) in
          subst (InTurn terms worker no_rights) (sym helps.is)
          (looks_turn helps.looks 0 (Heads p helps.heads ∷ helps.rest) no_rights (omega (arith, helps.each))
          (inside, follows_turn _ helps.heads helps.rest helps.bounds stranger on_rest helps.follows))

      by_master : (own : Bool) → p % terms.engines == worker ≡ own → InTurn terms worker no_rights (filter (is_on p) calls)
      by_master true is = to_the_end (filter (is_on p) calls) no_rights on (duty.master p inside (eqb-true (p % terms.engines) worker is)) (ap (λ b. b || false) is) (λ cursor. refl)
      by_master false is = helped (eqb-false (p % terms.engines) worker is) (duty.helper p inside (eqb-false (p % terms.engines) worker is))

-- each call of such a list is on a partition of the epoch
pub dutiful_parts : (terms : Terms) (worker : ℕ) (calls : List Call) → IsDutiful terms worker calls → All (λ c. partition_of c < terms.partitions) calls
dutiful_parts terms worker calls duty =
    subst (All (λ c. partition_of c < terms.partitions)) (sym duty.is)
    (All-append (λ c. partition_of c < terms.partitions) duty.own duty.others (λ k d below. (duty.on_own k d below).0) (λ k d below. (duty.on_others k d below).0))
