-- What lists of calls take and admit.
use Rattle.std.proofs.Common.{◌≡◌, ℕ, ◌+◌, ◌*◌, cond, List, [], ◌∷◌, ◌++◌, length, refl, ap, ◌∙◌, arith}
use Rattle.std.specs.List.{sum}
use Rattle.std.proofs.lemmas.List.{append-nil}
use Rattle.std.proofs.lemmas.List.Sums.{sum_by-cons}
use Rattle.chunk_object.specs.declared.call.Call.{Call}
use Rattle.chunk_object.specs.declared.call.Call.TheVariants.{Took, Look, Heads}
use Rattle.chunk_object.specs.Epochs.{cursor_of}
use Rattle.chunk_object.specs.Duty.{looks_from}
use Rattle.chunk_cursor.specs.declared.view.View.{View}
use Rattle.steal_policy.specs.declared.proposal.Ask.{Ask}
use Rattle.steal_policy.specs.declared.proposal.Proposal.{Proposal}
use Rattle.steal_policy.specs.declared.proposal.Proposal.TheVariants as answer
use Rattle.steal_policy.specs.Proposals.{Tries, IsProposal, Proposes}
use Rattle.phase_model.specs.Taken.{taken_in, taken, claims, is_admission, admissions}
use Rattle.phase_model.proofs.Lists.{taken-append}
use Rattle.worker_duty.specs.Views.{taken_by_seat}
use Rattle.worker_duty.proofs.Elsewhere.{taken-more}

abbrev pub took_all : ℕ → List ℕ → List Call
took_all cursor [] = []
took_all cursor (place ∷ places) = Took cursor place ∷ took_all cursor places

pub took_all-push : (cursor : ℕ) (places : List ℕ) (place : ℕ) → took_all cursor (places ++ place ∷ []) ≡ took_all cursor places ++ Took cursor place ∷ []
took_all-push cursor [] place = refl
took_all-push cursor (first ∷ places) place = ap (λ l. Took cursor first ∷ l) (took_all-push cursor places place)

taken-cons : (c : Call) (calls : List Call) → taken (c ∷ calls) ≡ taken_in c ++ taken calls
taken-cons c calls = taken-append (c ∷ []) calls ∙ ap (λ l. l ++ taken calls) (append-nil (taken_in c))

claims-cons : (c : Call) (calls : List Call) → claims (c ∷ calls) ≡ length (taken_in c ++ taken calls)
claims-cons c calls = ap length (taken-cons c calls)

admissions-cons : (c : Call) (calls : List Call) → admissions (c ∷ calls) ≡ cond (is_admission c) 1 0 + admissions calls
admissions-cons c calls = sum_by-cons _ c calls

pub claims-took : (cursor : ℕ) (places : List ℕ) → claims (took_all cursor places) ≡ length places
claims-took cursor [] = refl
claims-took cursor (place ∷ places) = claims-cons (Took cursor place) (took_all cursor places) ∙ omega (arith, claims-took cursor places)

pub admissions-took : (cursor : ℕ) (places : List ℕ) → admissions (took_all cursor places) ≡ 0
admissions-took cursor [] = refl
admissions-took cursor (place ∷ places) = let e : admissions (Took cursor place ∷ took_all cursor places) ≡ 0 + admissions (took_all cursor places) = admissions-cons (Took cursor place) (took_all cursor places) in omega (arith, e, admissions-took cursor places)

-- looks take and admit nothing
taken-looks : (partition engine : ℕ) (looks : List ℕ) (rest : List Call) → taken (looks_from partition engine looks ++ rest) ≡ taken rest
taken-looks partition engine [] rest = refl
taken-looks partition engine (left ∷ looks) rest = taken-cons (Look (cursor_of engine partition) left) (looks_from partition (engine + 1) looks ++ rest) ∙ taken-looks partition (engine + 1) looks rest

admissions-looks : (partition engine : ℕ) (looks : List ℕ) (rest : List Call) → admissions (looks_from partition engine looks ++ rest) ≡ admissions rest
admissions-looks partition engine [] rest = refl
admissions-looks partition engine (left ∷ looks) rest =
    let e : admissions (Look (cursor_of engine partition) left ∷ (looks_from partition (engine + 1) looks ++ rest)) ≡ 0 + admissions (looks_from partition (engine + 1) looks ++ rest) =
    admissions-cons (Look (cursor_of engine partition) left) (looks_from partition (engine + 1) looks ++ rest) in
    omega (arith, e, admissions-looks partition (engine + 1) looks rest)

-- how often an answer admits
abbrev pub admits_by : Proposal → ℕ
admits_by answer.Admitted = 1
admits_by (answer.Refused unread heads) = 0
admits_by (answer.Contended seen now) = 0

taken-tries : (ask : Ask) (unread heads : ℕ) (reply : Proposal) (calls : List Call) → Tries ask unread heads reply calls → taken calls ≡ []
taken-tries ask unread heads answer.Admitted calls tries = ap taken tries.1
taken-tries ask unread heads (answer.Refused bytes count) calls tries = ap taken tries.3
taken-tries ask unread heads (answer.Contended seen now) calls tries = ap taken tries.3

admissions-tries : (ask : Ask) (unread heads : ℕ) (reply : Proposal) (calls : List Call) → Tries ask unread heads reply calls → admissions calls ≡ admits_by reply
admissions-tries ask unread heads answer.Admitted calls tries = ap admissions tries.1
admissions-tries ask unread heads (answer.Refused bytes count) calls tries = ap admissions tries.3
admissions-tries ask unread heads (answer.Contended seen now) calls tries = ap admissions tries.3

-- a proposal takes no chunk, and admits where it is answered so
pub taken-proposal : (ask : Ask) (calls : List Call) (reply : Proposal) → IsProposal ask calls reply → taken calls ≡ []
taken-proposal ask calls reply proposal =
    ap taken proposal.is
    ∙ (taken-looks ask.partition 0 proposal.looks (Heads ask.partition proposal.heads ∷ proposal.rest)
    ∙ (taken-cons (Heads ask.partition proposal.heads) proposal.rest ∙ taken-tries ask (sum proposal.looks * ask.chunk_bytes) proposal.heads reply proposal.rest proposal.tries))

pub admissions-proposal : (ask : Ask) (calls : List Call) (reply : Proposal) → IsProposal ask calls reply → admissions calls ≡ admits_by reply
admissions-proposal ask calls reply proposal =
    ap admissions proposal.is
    ∙ (admissions-looks ask.partition 0 proposal.looks (Heads ask.partition proposal.heads ∷ proposal.rest)
    ∙ (admissions-cons (Heads ask.partition proposal.heads) proposal.rest ∙ (let e : 0 + admissions proposal.rest ≡ admissions proposal.rest = omega arith in e) ∙ admissions-tries ask (sum proposal.looks * ask.chunk_bytes) proposal.heads reply proposal.rest proposal.tries))

pub taken-proposes : (ask : Ask) (old new : View) (reply : Proposal) → Proposes ask old new reply → taken_by_seat new ≡ taken_by_seat old
taken-proposes ask old new reply proposes =
    ap taken_by_seat proposes.grown
    ∙ (taken-more old proposes.calls ∙ (ap (λ l. taken_by_seat old ++ l) (taken-proposal ask proposes.calls reply proposes.proposal) ∙ append-nil (taken_by_seat old)))
