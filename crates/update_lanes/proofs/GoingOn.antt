-- Calls of lanes, one after another.
use Rattle.std.proofs.Common.{◌≡◌, ℕ, List, length, get_or, set, sym, ◌∙◌, ap, arith}
use Rattle.std.specs.Prelude.{Result, Ok, Err, IfErr}
use Rattle.std.specs.Result.{IsErrAnd}
use Rattle.std.proofs.Math.Seq.{map-set_same}
use Rattle.ports.specs.Disk.{DiskState, ContinuesUnder}
use Rattle.ports.proofs.Going.{under_same, under_then, each_same, each_then}
use Rattle.ports.proofs.Rising.{one_rose_before, one_rose_after}
use Rattle.ports.specs.Devices.{OneRose, NoneRose}
use Rattle.update_lanes.specs.Lanes.{GoOn}

pub goes_on : {X : Type 0} (state : X → DiskState) (number : ℕ) (old mid new : List X) → GoOn state number old mid → GoOn state number mid new → GoOn state number old new
goes_on state number old mid new first next = each_then state (ContinuesUnder number) (under_then number) old mid new first next

pub stays : {X : Type 0} (state : X → DiskState) (number : ℕ) (lanes : List X) → GoOn state number lanes lanes
stays state number lanes = each_same state (ContinuesUnder number) (under_same number) lanes

-- a count that rose is higher also after further calls
pub rose_before : {X : Type 0} (state : X → DiskState) (number : ℕ) (old mid new : List X) → length mid ≡ length old → OneRose state old mid → GoOn state number mid new → OneRose state old new
rose_before state number old mid new many rose next = one_rose_after (λ x. (state x).faults) old mid new many rose (λ e d below. (next.each e d (omega (arith, many, below))).faults)

-- and one that rose later has risen since an earlier call
pub rose_since : {X : Type 0} (state : X → DiskState) (number : ℕ) (old mid new : List X) → GoOn state number old mid → OneRose state mid new → OneRose state old new
rose_since state number old mid new first rose = one_rose_before (λ x. (state x).faults) old mid new first.many (λ e d below. (first.each e d below).faults) rose

-- and none rose where that of the one lane that was called did not
pub none_rose : {X : Type 0} (state : X → DiskState) (lanes : List X) (e : ℕ) (old new : X) → get_or lanes e new ≡ old → (state new).faults ≡ (state old).faults → NoneRose state lanes (set lanes e new)
none_rose state lanes e old new lane calm = map-set_same (λ x. (state x).faults) lanes e new new (calm ∙ ap (λ x. (state x).faults) (sym lane))

-- what an answer that came through a `?` says
pub err_cause : {T E : Type 0} (r : Result T E) (P Q : E → Type 0) → ((fault : E) → P fault → Q fault) → IsErrAnd r P → IfErr r Q
err_cause (Ok x) P Q means is = tt
err_cause (Err fault) P Q means is = means fault is
