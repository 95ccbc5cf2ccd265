-- What the acts of a phase must do at a desk.
use Rattle.std.specs.Prelude.{◌≡◌, ◌≢◌, ℕ, ◌<◌, Bool, true, false, List}
use denote.Ref.{MutBor}
use denote.Param.Members.{Shared}
use Rattle.chunk_object.specs.Epochs.{cursor_of, Terms}
use Rattle.chunk_cursor.specs.Hold.{Hold, TableId}
use Rattle.chunk_cursor.specs.View.{MayAdmit}
use Rattle.steal_policy.specs.declared.proposal.Proposal.{Proposal}
use Rattle.steal_policy.specs.Proposals.{Proposes}
use Rattle.worker_duty.specs.declared.acts.Step.{Step}
use Rattle.worker_duty.specs.declared.acts.Step.TheVariants as step
use Rattle.worker_duty.specs.Views.{taken_by_seat, ask_of, NoneOf, IsReady}
use Rattle.worker_duty.specs.Working.{HasClaimed}

module _ {W : Type 0} (hold : W → Hold) (table : TableId) (terms : Terms) (lens : ℕ → ℕ) (follows : W → W → Type 0) (rests : W → List (ℕ × ℕ) → Type 0) (meets : W → ℕ → List (ℕ × ℕ) → Type 0) (stops : W → List (ℕ × ℕ) → Type 0) where
  -- the desk is at the partition, and its seat may claim there on the engine
  pub record MayServe (desk : W) (engine partition : ℕ) : Type 0 where
    pub table_is : (hold desk).table ≡ table
    pub engine_is : engine < terms.engines
    pub partition_is : partition < terms.partitions
    pub ready : IsReady (hold desk).view (cursor_of engine partition) (lens (cursor_of engine partition))
    pub at : meets desk partition (taken_by_seat (hold desk).view)

  -- one claim was made, and the chunk worked on, or the work was stopped at it
  pub record HasServed (old new : W) (engine partition : ℕ) (result : Step) : Type 0 where
    pub goes_on : follows old new
    pub table_is : (hold new).table ≡ (hold old).table
    pub call : HasClaimed (hold old).view (hold new).view (cursor_of engine partition) result
    pub at : result ≢ step.Stopped → meets new partition (taken_by_seat (hold new).view)
    pub stopped : result ≡ step.Stopped → stops new (taken_by_seat (hold new).view)

  -- the desk rests, and its seat may propose help with the partition
  pub record MayPropose (desk : W) (partition : ℕ) : Type 0 where
    pub table_is : (hold desk).table ≡ table
    pub partition_is : partition < terms.partitions
    pub may : MayAdmit (hold desk).view partition
    pub at_rest : rests desk (taken_by_seat (hold desk).view)

  -- the proposal was made, and nothing else
  pub record HasProposed (old new : W) (partition : ℕ) (reply : Proposal) : Type 0 where
    pub goes_on : follows old new
    pub table_is : (hold new).table ≡ (hold old).table
    pub proposal : Proposes (ask_of terms partition) (hold old).view (hold new).view reply
    pub at_rest : rests new (taken_by_seat (hold old).view)

  -- the desk is at the partition
  pub record MayLeave (desk : W) (partition : ℕ) : Type 0 where
    pub partition_is : partition < terms.partitions
    pub at : meets desk partition (taken_by_seat (hold desk).view)

  -- no call was made, and the desk rests, or the work was stopped
  pub record HasLeft (old new : W) (partition : ℕ) (result : Bool) : Type 0 where
    pub goes_on : follows old new
    pub hold_is : hold new ≡ hold old
    pub at_rest : result ≡ true → rests new (taken_by_seat (hold new).view)
    pub stopped : result ≡ false → stops new (taken_by_seat (hold new).view)

  module _ {S A L : Type 0} (servers : Shared S (MutBor W × (ℕ × (ℕ × Unit {0}))) (Step × (MutBor W × Unit {0}))) (askers : Shared A (MutBor W × (ℕ × Unit {0})) (Proposal × (MutBor W × Unit {0}))) (leavers : Shared L (MutBor W × (ℕ × Unit {0})) (Bool × (MutBor W × Unit {0}))) where
    -- **Each act may be called where it is due, and does what it is to do.** Desks go on step by step, and what holds of a desk at rest holds as its worker comes to a partition of which it took no chunk yet
    pub record AreActs (serve : S) (propose : A) (leave : L) : Type 0 where
      pub may_serve : (p : MutBor W) (engine partition : ℕ) → MayServe p.now engine partition → servers.pre serve (p, (engine, (partition, tt)))
      pub serves : (p q : MutBor W) (engine partition : ℕ) (result : Step) → MayServe p.now engine partition → servers.post serve (p, (engine, (partition, tt))) (result, (q, tt)) → HasServed p.now q.now engine partition result
      pub may_propose : (p : MutBor W) (partition : ℕ) → MayPropose p.now partition → askers.pre propose (p, (partition, tt))
      pub proposes : (p q : MutBor W) (partition : ℕ) (reply : Proposal) → MayPropose p.now partition → askers.post propose (p, (partition, tt)) (reply, (q, tt)) → HasProposed p.now q.now partition reply
      pub may_leave : (p : MutBor W) (partition : ℕ) → MayLeave p.now partition → leavers.pre leave (p, (partition, tt))
      pub leaves : (p q : MutBor W) (partition : ℕ) (result : Bool) → MayLeave p.now partition → leavers.post leave (p, (partition, tt)) (result, (q, tt)) → HasLeft p.now q.now partition result
      pub stays : (desk : W) → follows desk desk
      pub joins : (old middle new : W) → follows old middle → follows middle new → follows old new
      pub enters : (desk : W) (partition : ℕ) (chunks : List (ℕ × ℕ)) → partition < terms.partitions → rests desk chunks → NoneOf partition chunks → meets desk partition chunks
