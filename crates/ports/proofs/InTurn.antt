-- Several objects that have a call each, one after another, until one fails.
use Rattle.std.proofs.Common.{◌≡◌, ◌∙◌, ℕ, ◌+◌, ◌<◌, List, length, get_or, set, refl}
use Rattle.std.proofs.lemmas.List.{length-set}
use Rattle.graph_model.proofs.OneByOne.{DoneBelow, none_done, next_steps, one_done}
use Rattle.ports.specs.Disk.{DiskState}
use Rattle.ports.specs.Devices.{Each, NoneRose}
use Rattle.ports.proofs.Rising.{same_here}

module _ {X : Type 0} (state : X → DiskState) (R : DiskState → DiskState → Type 0) (Q : ℕ → DiskState → DiskState → Type 0) where
  abbrev Steps : X → X → Type 0
  Steps x y = R (state x) (state y)

  abbrev Done : ℕ → X → X → Type 0
  Done k x y = Q k (state x) (state y)

  -- The devices below a number have had their step, and the others no call; no count of faults rose.
  pub record CalmBelow (e : ℕ) (olds mids : List X) : Type 0 where
    pub below : DoneBelow Steps Done e olds mids
    pub calm : NoneRose state olds mids

  pub none_yet : (disks : List X) → Each state R disks disks → CalmBelow 0 disks disks
  none_yet disks same = record { below = none_done Steps Done disks same.each; calm = refl }

  module _ (e : ℕ) (olds mids : List X) (mid new : X) (within : e < length mids) (so_far : CalmBelow e olds mids) (step : R (state (get_or mids e mid)) (state new)) where
    -- a step of the next one, whatever comes of it
    pub each_next : Each state R olds (set mids e new)
    each_next = record { many = length-set mids e new ∙ so_far.below.many; each = next_steps Steps Done e olds mids mid new within so_far.below step }

    -- and where it succeeded
    pub next_done : Q e (state (get_or mids e mid)) (state new) → (state new).faults ≡ (state (get_or mids e mid)).faults → CalmBelow (e + 1) olds (set mids e new)
    next_done now same = record {
      below = one_done Steps Done e olds mids mid new within so_far.below step now;
      calm = same_here (λ (x : X). (state x).faults) olds mids e mid new so_far.calm same;
    }
