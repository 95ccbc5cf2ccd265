-- Partitions and their cursors: what belongs to one belongs to no other, and each can be worked on to its end.
use Rattle.std.proofs.Common.{◌≡◌, ◌≢◌, ℕ, zero, suc, ◌+◌, ◌*◌, ◌%◌, ◌<◌, true, List, [], ◌∷◌, ◌++◌, length, replicate, refl, ap, sym, ◌∙◌, subst, arith, append_assoc, eq-eqb}
use Rattle.std.specs.List.{All, sum}
use Rattle.std.proofs.lemmas.Bool.{eqb-true, false≢true}
use Rattle.std.proofs.lemmas.List.{append-nil, length-replicate}
use Rattle.std.proofs.lemmas.List.Sums.{sum_by-cons}
use Rattle.std.proofs.lemmas.List.Elements.{All-nil, All-cons, All-append, All-weaker}
use Rattle.chunk_object.specs.declared.call.Call.{Call}
use Rattle.chunk_object.specs.declared.call.Call.TheVariants.{Open, Greet, Took, Exhausted, Look, Heads, Admitted, Contended, Split, Join}
use Rattle.chunk_object.specs.Epochs.{cursor_of, Terms}
use Rattle.chunk_object.specs.Duty.{partition_of, is_on, claims_at, IsClaim, EndsExhausted, ClaimsToTheEnd, Accepts, looks_from, FollowsHeads}
use Rattle.chunk_object.proofs.Dutiful.{is_on_claims}
use Rattle.chunk_cursor.specs.declared.view.View.{View}
use Rattle.chunk_cursor.specs.View.{with_calls}
use Rattle.chunk_cursor.proofs.Knowing.{with_calls-append}
use Rattle.steal_policy.specs.declared.proposal.Ask.{Ask}
use Rattle.steal_policy.specs.declared.proposal.Proposal.{Proposal}
use Rattle.steal_policy.specs.declared.proposal.Proposal.TheVariants as answer
use Rattle.steal_policy.specs.Proposals.{Tries, IsProposal, Proposes}
use Rattle.phase_model.proofs.Lists.{claims-append, admissions-append}
use Rattle.graph_model.proofs.ListLemmas.{All-front}
use Rattle.worker_duty.specs.declared.acts.Worked.{Worked}
use Rattle.worker_duty.specs.Shares.{DrainsCursor, DrainsTo, HelpsAt}
use Rattle.worker_duty.specs.Views.{ask_of, IsReady}
use Rattle.worker_duty.specs.Working.{IsPiece}
use Rattle.worker_duty.proofs.Sorted.{fills_none, fills_all}
use Rattle.worker_duty.proofs.Elsewhere.{Leaves, ready_still, leaves_claims}
use Rattle.worker_duty.proofs.Counts.{admits_by, taken-proposal, admissions-proposal}
use Rattle.worker_duty.proofs.Parts.{worked_of}

-- a call is on one partition
pub apart_partitions : (i j : ℕ) (c : Call) → is_on i c ≡ true → is_on j c ≡ true → i ≡ j
apart_partitions i j c at also = sym (eqb-true (partition_of c) i at) ∙ eqb-true (partition_of c) j also

-- a claim is at one cursor
claimed_at : (w x : ℕ) (c : Call) → claims_at w c ≡ true → claims_at x c ≡ true → w ≡ x
claimed_at w x (Took claimed chunk) at also = sym (eqb-true claimed w at) ∙ eqb-true claimed x also
claimed_at w x (Exhausted claimed) at also = sym (eqb-true claimed w at) ∙ eqb-true claimed x also
claimed_at w x (Open opened len) at also = absurd (false≢true at)
claimed_at w x (Greet partition) at also = absurd (false≢true at)
claimed_at w x (Look looked left) at also = absurd (false≢true at)
claimed_at w x (Heads partition heads) at also = absurd (false≢true at)
claimed_at w x (Admitted partition heads) at also = absurd (false≢true at)
claimed_at w x (Contended partition heads found) at also = absurd (false≢true at)
claimed_at w x (Split serial worker) at also = absurd (false≢true at)
claimed_at w x (Join serial worker) at also = absurd (false≢true at)

pub apart_engines : (partition i j : ℕ) (c : Call) → claims_at (cursor_of i partition) c ≡ true → claims_at (cursor_of j partition) c ≡ true → i ≡ j
apart_engines partition i j c at also = let e : cursor_of i partition ≡ cursor_of j partition = claimed_at (cursor_of i partition) (cursor_of j partition) c at also in omega (arith, e)

pub cursors_apart : (partition i j : ℕ) → i ≢ j → cursor_of i partition ≢ cursor_of j partition
cursors_apart partition i j ne e = ne (omega (arith, e))

claim_within : (engines engine partition : ℕ) → partition < 64 → engine < engines → (c : Call) → claims_at (cursor_of engine partition) c ≡ true → IsClaim engines c
claim_within engines engine partition small below (Took claimed chunk) at = let e : claimed ≡ cursor_of engine partition = eqb-true claimed (cursor_of engine partition) at in omega (arith, e)
claim_within engines engine partition small below (Exhausted claimed) at = let e : claimed ≡ cursor_of engine partition = eqb-true claimed (cursor_of engine partition) at in omega (arith, e)
claim_within engines engine partition small below (Open opened len) at = absurd (false≢true at)
claim_within engines engine partition small below (Greet greeted) at = absurd (false≢true at)
claim_within engines engine partition small below (Look looked left) at = absurd (false≢true at)
claim_within engines engine partition small below (Heads asked heads) at = absurd (false≢true at)
claim_within engines engine partition small below (Admitted asked heads) at = absurd (false≢true at)
claim_within engines engine partition small below (Contended asked heads found) at = absurd (false≢true at)
claim_within engines engine partition small below (Split serial worker) at = absurd (false≢true at)
claim_within engines engine partition small below (Join serial worker) at = absurd (false≢true at)

module _ (engines partition : ℕ) (small : partition < 64) where
  abbrev ClaimsHere : Call → Type 0
  ClaimsHere c = (engine : ℕ) × (engine < engines) × (true ≡ true) × (claims_at (cursor_of engine partition) c ≡ true)

  here_on : (c : Call) → ClaimsHere c → is_on partition c ≡ true
  here_on c at = is_on_claims (cursor_of at.0 partition) partition (omega arith) c at.3

  here_within : (c : Call) → ClaimsHere c → IsClaim engines c
  here_within c at = claim_within engines at.0 partition small at.1 c at.3

  pub drained_on : (calls : List Call) → DrainsTo partition engines calls → All (λ c. is_on partition c ≡ true) calls
  drained_on calls drains = All-weaker ClaimsHere (λ c. is_on partition c ≡ true) here_on calls drains.only

  pub drained_ends : (calls : List Call) → DrainsTo partition engines calls → ClaimsToTheEnd engines partition calls
  drained_ends calls drains = record {
    claims = All-weaker ClaimsHere (IsClaim engines) here_within calls drains.only;
    each = λ engine below. drains.each engine below refl;
  }

  pub some_drained : (calls : List Call) × DrainsTo partition engines calls
  some_drained = fills_all (λ engine. claims_at (cursor_of engine partition)) (λ engine. true) (λ engine. EndsExhausted) (apart_engines partition) 0 engines [] (omega arith)
      (λ engine below is. (
        Exhausted (cursor_of engine partition) ∷ [],
        All-cons (λ c. claims_at (cursor_of engine partition) c ≡ true) (Exhausted (cursor_of engine partition)) [] (eq-eqb (cursor_of engine partition) (cursor_of engine partition) refl) (All-nil (λ c. claims_at (cursor_of engine partition) c ≡ true)),
        tt,
      ))
      (fills_none (λ engine. claims_at (cursor_of engine partition)) (λ engine. true) (λ engine. EndsExhausted))

-- a cursor that is drained is one engine's share
pub engine_share : (engine partition : ℕ) (calls : List Call) → DrainsCursor (cursor_of engine partition) calls → All (λ c. claims_at (cursor_of engine partition) c ≡ true) calls × EndsExhausted calls
engine_share engine partition calls drains = (drains.only, drains.ends)

pub some_cursor : (partition engine : ℕ) → (calls : List Call) × All (λ c. claims_at (cursor_of engine partition) c ≡ true) calls × EndsExhausted calls
some_cursor partition engine = (
  Exhausted (cursor_of engine partition) ∷ [],
  All-cons (λ c. claims_at (cursor_of engine partition) c ≡ true) (Exhausted (cursor_of engine partition)) [] (eq-eqb (cursor_of engine partition) (cursor_of engine partition) refl) (All-nil (λ c. claims_at (cursor_of engine partition) c ≡ true)),
  tt,
)

-- a piece at one engine leaves the others ready
pub engine_ready : (partition i j len : ℕ) (old new : View) (worked : Worked) → i ≢ j → IsPiece (DrainsCursor (cursor_of i partition)) old new worked → IsReady old (cursor_of j partition) len → IsReady new (cursor_of j partition) len
engine_ready partition i j len old new worked ne piece ready =
    subst (λ v. IsReady v (cursor_of j partition) len) (sym piece.grown)
    (ready_still (cursor_of j partition) len old piece.calls
    (All-weaker (λ c. claims_at (cursor_of i partition) c ≡ true) (Leaves (cursor_of j partition)) (leaves_claims (cursor_of j partition) (cursor_of i partition) (cursors_apart partition i j ne)) piece.calls
    (All-front (λ c. claims_at (cursor_of i partition) c ≡ true) piece.calls piece.front.0 piece.front.1.only))
    ready)

-- The calls of a proposal are on its partition.
module _ (partition : ℕ) (small : partition < 64) where
  abbrev On : Call → Type 0
  On c = is_on partition c ≡ true

  looks_on : (engine : ℕ) (looks : List ℕ) → All On (looks_from partition engine looks)
  looks_on engine [] = All-nil On
  looks_on engine (left ∷ looks) =
      All-cons On (Look (cursor_of engine partition) left) (looks_from partition (engine + 1) looks) (let e : cursor_of engine partition % 64 ≡ partition = omega arith in eq-eqb (cursor_of engine partition % 64) partition e) (looks_on (engine + 1) looks)

  tries_on : (ask : Ask) → ask.partition ≡ partition → (unread heads : ℕ) (reply : Proposal) (calls : List Call) → Tries ask unread heads reply calls → All On calls
  tries_on ask same unread heads answer.Admitted calls tries = subst (All On) (sym tries.1) (All-cons On (Admitted ask.partition heads) [] (eq-eqb ask.partition partition same) (All-nil On))
  tries_on ask same unread heads (answer.Refused bytes count) calls tries = subst (All On) (sym tries.3) (All-nil On)
  tries_on ask same unread heads (answer.Contended seen now) calls tries = subst (All On) (sym tries.3) (All-cons On (Contended ask.partition heads now) [] (eq-eqb ask.partition partition same) (All-nil On))

  pub proposal_on : (terms : Terms) (calls : List Call) (reply : Proposal) → IsProposal (ask_of terms partition) calls reply → All On calls
  proposal_on terms calls reply proposal =
      subst (All On) (sym proposal.is)
      (All-append On (looks_from partition 0 proposal.looks) (Heads partition proposal.heads ∷ proposal.rest) (looks_on 0 proposal.looks)
      (All-cons On (Heads partition proposal.heads) proposal.rest (eq-eqb partition partition refl) (tries_on (ask_of terms partition) refl (sum proposal.looks * terms.chunk_bytes) proposal.heads reply proposal.rest proposal.tries)))

  -- a proposal leaves the cursors as they were
  asks_leave : (w : ℕ) (c : Call) (calls : List Call) → All (Leaves w) calls → Leaves w c → All (Leaves w) (c ∷ calls)
  asks_leave w c calls all leaves = All-cons (Leaves w) c calls leaves all

  looks_leave : (w engine : ℕ) (looks : List ℕ) → All (Leaves w) (looks_from partition engine looks)
  looks_leave w engine [] = All-nil (Leaves w)
  looks_leave w engine (left ∷ looks) = All-cons (Leaves w) (Look (cursor_of engine partition) left) (looks_from partition (engine + 1) looks) (record { calm = refl; served = refl }) (looks_leave w (engine + 1) looks)

  tries_leave : (w : ℕ) (ask : Ask) (unread heads : ℕ) (reply : Proposal) (calls : List Call) → Tries ask unread heads reply calls → All (Leaves w) calls
  tries_leave w ask unread heads answer.Admitted calls tries = subst (All (Leaves w)) (sym tries.1) (All-cons (Leaves w) (Admitted ask.partition heads) [] (record { calm = refl; served = refl }) (All-nil (Leaves w)))
  tries_leave w ask unread heads (answer.Refused bytes count) calls tries = subst (All (Leaves w)) (sym tries.3) (All-nil (Leaves w))
  tries_leave w ask unread heads (answer.Contended seen now) calls tries = subst (All (Leaves w)) (sym tries.3) (All-cons (Leaves w) (Contended ask.partition heads now) [] (record { calm = refl; served = refl }) (All-nil (Leaves w)))

  pub ready_asked : (terms : Terms) (w len : ℕ) (old new : View) (reply : Proposal) → Proposes (ask_of terms partition) old new reply → IsReady old w len → IsReady new w len
  ready_asked terms w len old new reply proposes ready =
      let proposal = proposes.proposal in
      subst (λ v. IsReady v w len) (sym proposes.grown)
      (ready_still w len old proposes.calls
      (subst (All (Leaves w)) (sym proposal.is)
      (All-append (Leaves w) (looks_from partition 0 proposal.looks) (Heads partition proposal.heads ∷ proposal.rest) (looks_leave w 0 proposal.looks)
      (All-cons (Leaves w) (Heads partition proposal.heads) proposal.rest (record { calm = refl; served = refl }) (tries_leave w (ask_of terms partition) (sum proposal.looks * terms.chunk_bytes) proposal.heads reply proposal.rest proposal.tries))))
      ready)

  -- what a helper does after the answer
  follows_quiet : (terms : Terms) (unread heads : ℕ) (reply : Proposal) (calls : List Call) → reply ≢ answer.Admitted → Tries (ask_of terms partition) unread heads reply calls → FollowsHeads terms partition unread heads calls
  follows_quiet terms unread heads answer.Admitted calls other tries = absurd (other refl)
  follows_quiet terms unread heads (answer.Refused bytes count) calls other tries = subst (FollowsHeads terms partition unread heads) (sym tries.3) tries.0
  follows_quiet terms unread heads (answer.Contended seen now) calls other tries = subst (FollowsHeads terms partition unread heads) (sym tries.3) (tries.0, refl, refl)

  helps_quiet : (terms : Terms) (calls : List Call) (reply : Proposal) → reply ≢ answer.Admitted → IsProposal (ask_of terms partition) calls reply → HelpsAt terms partition calls
  helps_quiet terms calls reply other proposal = record {
    helps = record {
      looks = proposal.looks;
      heads = proposal.heads;
      rest = proposal.rest;
      each = proposal.each;
      bounds = proposal.bounds;
      is = proposal.is;
      follows = follows_quiet terms (sum proposal.looks * terms.chunk_bytes) proposal.heads reply proposal.rest other proposal.tries;
    };
    only = proposal_on terms calls reply proposal;
  }

  helps_admitted : (terms : Terms) (calls then : List Call) → IsProposal (ask_of terms partition) calls answer.Admitted → DrainsTo partition terms.engines then → HelpsAt terms partition (calls ++ then)
  helps_admitted terms calls then proposal drains =
      let tries = proposal.tries in
      let rest : calls ++ then ≡ looks_from partition 0 proposal.looks ++ Heads partition proposal.heads ∷ Admitted partition proposal.heads ∷ then =
      ap (λ l. l ++ then) (proposal.is ∙ ap (λ l. looks_from partition 0 proposal.looks ++ Heads partition proposal.heads ∷ l) tries.1) ∙ append_assoc (looks_from partition 0 proposal.looks) (Heads partition proposal.heads ∷ Admitted partition proposal.heads ∷ []) then in
      record {
        helps = record {
          looks = proposal.looks;
          heads = proposal.heads;
          rest = Admitted partition proposal.heads ∷ then;
          each = proposal.each;
          bounds = proposal.bounds;
          is = rest;
          follows = (tries.0, refl, refl, drained_ends terms.engines partition small then drains);
        };
        only = All-append On calls then (proposal_on terms calls answer.Admitted proposal) (drained_on terms.engines partition small then drains);
      }

  -- a proposal that is not admitted is all of the help
  pub help_quiet : (terms : Terms) (old new : View) (reply : Proposal) → reply ≢ answer.Admitted → admits_by reply ≡ 0 → Proposes (ask_of terms partition) old new reply → IsPiece (HelpsAt terms partition) old new (worked_of true 0 0)
  help_quiet terms old new reply other none proposes = record {
    calls = proposes.calls;
    grown = proposes.grown;
    whole = λ is. helps_quiet terms proposes.calls reply other proposes.proposal;
    front = ([], subst (HelpsAt terms partition) (sym (append-nil proposes.calls)) (helps_quiet terms proposes.calls reply other proposes.proposal));
    claims_are = sym (ap length (taken-proposal (ask_of terms partition) proposes.calls reply proposes.proposal));
    admissions_are = sym (admissions-proposal (ask_of terms partition) proposes.calls reply proposes.proposal ∙ none);
  }

  -- after one that is, the partition is drained
  pub help_admitted : (terms : Terms) (engines : ℕ) (old middle new : View) (worked : Worked) → Proposes (ask_of terms partition) old middle answer.Admitted → engines ≡ terms.engines → worked.admitted ≡ 0 → IsPiece (DrainsTo partition engines) middle new worked → IsPiece (HelpsAt terms partition) old new (worked_of worked.is_through worked.claims 1)
  help_admitted terms engines old middle new worked proposes same quiet piece =
      let none = ap length (taken-proposal (ask_of terms partition) proposes.calls answer.Admitted proposes.proposal) in
      let one = admissions-proposal (ask_of terms partition) proposes.calls answer.Admitted proposes.proposal in
      let e = claims-append proposes.calls piece.calls in
      let h = admissions-append proposes.calls piece.calls in
      record {
        calls = proposes.calls ++ piece.calls;
        grown = piece.grown ∙ (ap (λ v. with_calls v piece.calls) proposes.grown ∙ with_calls-append old proposes.calls piece.calls);
        whole = λ is. helps_admitted terms proposes.calls piece.calls proposes.proposal (subst (λ n. DrainsTo partition n piece.calls) same (piece.whole is));
        front = (piece.front.0, subst (HelpsAt terms partition) (sym (append_assoc proposes.calls piece.calls piece.front.0)) (helps_admitted terms proposes.calls (piece.calls ++ piece.front.0) proposes.proposal (subst (λ n. DrainsTo partition n (piece.calls ++ piece.front.0)) same piece.front.1)));
        claims_are = omega (arith, e, none, piece.claims_are);
        admissions_are = omega (arith, h, one, piece.admissions_are, quiet);
      }

  none_left : (n : ℕ) → sum (replicate n 0) ≡ 0
  none_left zero = refl
  none_left (suc n) = let e : sum (0 ∷ replicate n 0) ≡ 0 + sum (replicate n 0) = sum_by-cons (λ (x : ℕ). x) 0 (replicate n 0) in omega (arith, e, none_left n)

  -- where nothing is left, help is refused
  pub some_helps : (terms : Terms) → (calls : List Call) × HelpsAt terms partition calls
  some_helps terms =
      let none : sum (replicate terms.engines 0) * terms.chunk_bytes ≡ 0 = ap (λ n. n * terms.chunk_bytes) (none_left terms.engines) ∙ omega arith in (
        looks_from partition 0 (replicate terms.engines 0) ++ Heads partition 1 ∷ [],
        record {
          helps = record {
            looks = replicate terms.engines 0;
            heads = 1;
            rest = [];
            each = length-replicate terms.engines 0;
            bounds = (omega arith, omega arith);
            is = refl;
            follows = λ pays. refused (terms.set_bytes partition) terms.alpha (subst (λ d. Accepts (terms.set_bytes partition) d 1 terms.alpha) none pays);
          };
          only = All-append On (looks_from partition 0 (replicate terms.engines 0)) (Heads partition 1 ∷ []) (looks_on 0 (replicate terms.engines 0)) (All-cons On (Heads partition 1) [] (eq-eqb partition partition refl) (All-nil On));
        },
      )
    where
      refused : (set_bytes alpha : ℕ) → Accepts set_bytes 0 1 alpha → ⊥
      refused set_bytes alpha pays = omega (arith, pays)
