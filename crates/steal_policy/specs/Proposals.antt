-- What a proposal of help does.
use Rattle.std.specs.Prelude.{◌≡◌, ◌≢◌, ℕ, ◌*◌, ◌≤◌, List, [], ◌∷◌, ◌++◌, length, sum}
use Rattle.chunk_object.specs.declared.call.Call.{Call}
use Rattle.chunk_object.specs.declared.call.Call.TheVariants.{Heads, Admitted, Contended}
use Rattle.chunk_object.specs.Duty.{Accepts, looks_from}
use Rattle.chunk_cursor.specs.declared.view.View.{View}
use Rattle.chunk_cursor.specs.View.{with_calls}
use Rattle.steal_policy.specs.declared.proposal.Ask.{Ask}
use Rattle.steal_policy.specs.declared.proposal.Proposal.{Proposal}
use Rattle.steal_policy.specs.declared.proposal.Proposal.TheVariants as answer

-- what follows on the helper count, and the answer to it: an admit exactly where help pays
abbrev pub Tries : Ask → (unread heads : ℕ) → Proposal → List Call → Type 0
Tries ask unread heads answer.Admitted calls = Accepts ask.set_bytes unread heads ask.alpha × (calls ≡ Admitted ask.partition heads ∷ [])
Tries ask unread heads (answer.Refused bytes count) calls = (Accepts ask.set_bytes unread heads ask.alpha → ⊥) × (bytes ≡ unread) × (count ≡ heads) × (calls ≡ [])
Tries ask unread heads (answer.Contended seen now) calls = Accepts ask.set_bytes unread heads ask.alpha × (seen ≡ heads) × (now ≢ heads) × (calls ≡ Contended ask.partition heads now ∷ [])

-- The calls of a proposal that is answered so: each engine is looked at once, in order, the helper count is read, and the rest follows on these
pub record IsProposal (ask : Ask) (calls : List Call) (reply : Proposal) : Type 0 where
  pub looks : List ℕ
  pub heads : ℕ
  pub rest : List Call
  pub each : length looks ≡ ask.engines
  pub bounds : (1 ≤ heads) × (heads ≤ 7)
  pub is : calls ≡ looks_from ask.partition 0 looks ++ Heads ask.partition heads ∷ rest
  pub tries : Tries ask (sum looks * ask.chunk_bytes) heads reply rest

-- the seat made a proposal, and no other call
pub record Proposes (ask : Ask) (old new : View) (reply : Proposal) : Type 0 where
  pub calls : List Call
  pub grown : new ≡ with_calls old calls
  pub proposal : IsProposal ask calls reply
