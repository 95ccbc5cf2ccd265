-- Looks one after another, and what a proposal is made of.
use Rattle.std.proofs.Common.{◌≡◌, ℕ, suc, ◌+◌, ◌*◌, ◌≤◌, List, [], ◌∷◌, ◌++◌, length, refl, ap, sym, ◌∙◌, subst, arith, append_assoc}
use Rattle.std.specs.List.{sum}
use Rattle.std.proofs.lemmas.List.{length_push}
use Rattle.std.proofs.lemmas.List.Sums.{sum_by-append}
use Rattle.chunk_object.specs.declared.call.Call.{Call}
use Rattle.chunk_object.specs.declared.call.Call.TheVariants.{Look, Heads}
use Rattle.chunk_object.specs.History.{most_chunks}
use Rattle.chunk_object.specs.Epochs.{cursor_of}
use Rattle.chunk_object.specs.Duty.{looks_from}
use Rattle.chunk_cursor.specs.declared.view.View.{View}
use Rattle.chunk_cursor.specs.View.{with_call, with_calls, MayAdmit}
use Rattle.chunk_cursor.proofs.Knowing.{with_calls-none, with_calls-append, may_admit_still}
use Rattle.steal_policy.specs.declared.proposal.Ask.{Ask}
use Rattle.steal_policy.specs.declared.proposal.Proposal.{Proposal}
use Rattle.steal_policy.specs.Looks.{HasLooked}
use Rattle.steal_policy.specs.Proposals.{Tries, Proposes}

looks_from-push : (partition engine left : ℕ) (looks : List ℕ) → looks_from partition engine (looks ++ left ∷ []) ≡ looks_from partition engine looks ++ Look (cursor_of (engine + length looks) partition) left ∷ []
looks_from-push partition engine left [] = let e : engine ≡ engine + 0 = omega arith in ap (λ n. Look (cursor_of n partition) left ∷ []) e
looks_from-push partition engine left (first ∷ looks) =
    let e : engine + 1 + length looks ≡ engine + suc (length looks) = omega arith in
    ap (λ l. Look (cursor_of engine partition) first ∷ l)
    (looks_from-push partition (engine + 1) left looks ∙ ap (λ n. looks_from partition (engine + 1) looks ++ Look (cursor_of n partition) left ∷ []) e)

pub looked_none : (partition : ℕ) (v : View) → MayAdmit v partition → HasLooked partition 0 v v 0
looked_none partition v may = record { looks = []; each = refl; calls = sym (with_calls-none v); total = refl; most = omega arith; may = may }

pub looked_more : (partition engine : ℕ) (old v new : View) (left more : ℕ) → HasLooked partition engine old v left → new ≡ with_call v (Look (64 * engine + partition) more) → more ≤ most_chunks → HasLooked partition (engine + 1) old new (left + more)
looked_more partition engine old v new left more looked is few =
    let at : length looked.looks ≡ engine = looked.each in
    let calls : looks_from partition 0 (looked.looks ++ more ∷ []) ≡ looks_from partition 0 looked.looks ++ Look (64 * engine + partition) more ∷ [] =
    looks_from-push partition 0 more looked.looks ∙ ap (λ n. looks_from partition 0 looked.looks ++ Look (64 * n + partition) more ∷ []) (let e : 0 + length looked.looks ≡ engine = omega arith in e) in
    let added : sum (looked.looks ++ more ∷ []) ≡ sum looked.looks + sum (more ∷ []) = sum_by-append (λ (x : ℕ). x) looked.looks (more ∷ []) in
    record {
      looks = looked.looks ++ more ∷ [];
      each = length_push looked.looks more ∙ ap (λ n. n + 1) at;
      calls = is ∙ (ap (λ u. with_call u (Look (64 * engine + partition) more)) looked.calls ∙ (with_calls-append old (looks_from partition 0 looked.looks) (Look (64 * engine + partition) more ∷ []) ∙ ap (with_calls old) (sym calls)));
      total = omega (arith, added, looked.total);
      most = omega (arith, looked.most, few);
      may = subst (λ u. MayAdmit u partition) (sym is) (may_admit_still v (Look (64 * engine + partition) more) partition refl refl looked.may);
    }

-- looks, the helper count, and what follows on it
pub proposed : (ask : Ask) (old v counted new : View) (left heads : ℕ) (rest : List Call) (reply : Proposal) → HasLooked ask.partition ask.engines old v left → counted ≡ with_call v (Heads ask.partition heads) → (1 ≤ heads) × (heads ≤ 7) → new ≡ with_calls counted rest
    → Tries ask (left * ask.chunk_bytes) heads reply rest → Proposes ask old new reply
proposed ask old v counted new left heads rest reply looked count bounds is tries =
    let looks = looks_from ask.partition 0 looked.looks in
    let calls : new ≡ with_calls old (looks ++ Heads ask.partition heads ∷ rest) =
    is
    ∙ (ap (λ u. with_calls u rest) (count ∙ ap (λ u. with_call u (Heads ask.partition heads)) looked.calls)
    ∙ (ap (λ u. with_calls u rest) (with_calls-append old looks (Heads ask.partition heads ∷ []))
    ∙ (with_calls-append old (looks ++ Heads ask.partition heads ∷ []) rest ∙ ap (with_calls old) (append_assoc looks (Heads ask.partition heads ∷ []) rest)))) in
    record {
      calls = looks ++ Heads ask.partition heads ∷ rest;
      grown = calls;
      proposal = record {
        looks = looked.looks;
        heads = heads;
        rest = rest;
        each = looked.each;
        bounds = bounds;
        is = refl;
        tries = subst (λ n. Tries ask (n * ask.chunk_bytes) heads reply rest) looked.total tries;
      };
    }
