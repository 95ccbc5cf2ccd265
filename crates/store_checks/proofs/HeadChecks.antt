-- The checks of heads, engine by engine.
use Rattle.std.proofs.lemmas.Bool.{eq-eqb, ne_eqb}
use Rattle.std.proofs.Common.{◌≡◌, ◌≢◌, ◌∙◌, if◌then◌else◌, ℕ, suc, ◌+◌, ◌-◌, ◌<◌, Bool, List, [], ◌∷◌, ◌++◌, length, take, map, get_or, Option, Some, None, refl, sym, ap, subst, arith, zero-add}
use Rattle.std.specs.List.{range_with_len}
use Rattle.std.proofs.lemmas.List.{map-append}
use Rattle.store_model.specs.declared.field.Field.{Field}
use Rattle.store_model.specs.declared.field.TheConstants.{FIELDS}
use Rattle.store_model.specs.Damage.{Fault, first_of, first_over, first_bad, at_graph, engines_fault}
use Rattle.store_model.specs.Damage as damage
use Rattle.store_reader.specs.declared.store.Part.TheVariants.{Graph, Values, Lane}
use Rattle.graph_model.proofs.ListLemmas.{range_with_len-more, range_with_len-append}
use Rattle.store_checks.specs.declared.fault.RecoverFault.{RecoverFault}
use Rattle.store_checks.specs.declared.fault.RecoverFault.TheVariants.{NotPrepared, EnginesDiffer, Damaged, DiskFault, Memory}
use Rattle.ports.specs.Disk.{DiskState}
use Rattle.store_model.specs.Kept.{device}
use Rattle.std.specs.Prelude.{⊤}
use Rattle.chunk_file.specs.declared.fault.ChunkFault.{ChunkFault}
use Rattle.chunk_file.specs.declared.fault.ChunkFault.TheVariants.{DiskFault as ReadFailed, Damaged as NoChunk, Memory as NoMemory}
use Rattle.chunk_file.specs.Causes.{HasChunkCause}
use Rattle.store_checks.specs.Causes.{Tell, HasRecoverCause, scan_fault}

-- what is found in the head that was read is found on the device
pub head_found : (test : List ℕ → Field → Bool) (engine : ℕ) (head told : List ℕ) (found answer : Option ℕ) → head ≡ take 65 told → found ≡ first_bad (test head) FIELDS → found ≡ answer → at_graph engine (first_bad (test (take 65 told)) FIELDS) ≡ at_graph engine answer
head_found test engine head told found answer same is so =
    ap (at_graph engine) (ap (λ h. first_bad (test h) FIELDS) (sym same) ∙ sym is ∙ so)

pub first_of-append : (xs ys : List (Option Fault)) → first_of xs ≡ None → first_of (xs ++ ys) ≡ first_of ys
first_of-append [] ys none = refl
first_of-append (None ∷ xs) ys none = first_of-append xs ys none
first_of-append (Some fault ∷ xs) ys none = absurd (cc)

pub first_of-found : (xs ys : List (Option Fault)) (fault : Fault) → first_of xs ≡ Some fault → first_of (xs ++ ys) ≡ Some fault
first_of-found [] ys fault some = absurd (cc)
first_of-found (None ∷ xs) ys fault some = first_of-found xs ys fault some
first_of-found (Some found ∷ xs) ys fault some = some

-- one engine more
pub over_more : (check : ℕ → Option Fault) (k : ℕ) → first_over check k ≡ None → check k ≡ None → first_over check (k + 1) ≡ None
over_more check k none here =
    ap (λ es. first_of (map check es)) (range_with_len-more k)
    ∙ ap first_of (map-append check (range_with_len 0 k) (k ∷ []))
    ∙ first_of-append (map check (range_with_len 0 k)) (check k ∷ []) none
    ∙ ap (λ found. first_of (found ∷ [])) here

pub over_finds : (check : ℕ → Option Fault) (k n : ℕ) (fault : Fault) → first_over check k ≡ None → check k ≡ Some fault → k < n → first_over check n ≡ Some fault
over_finds check k n fault none here below =
    let rest = n - (k + 1) in
    let all : k + suc rest ≡ n = omega arith in
    let start : range_with_len 0 k ++ range_with_len k (suc rest) ≡ range_with_len 0 n =
    ap (λ a. range_with_len 0 k ++ range_with_len a (suc rest)) (sym (zero-add k)) ∙ range_with_len-append 0 k (suc rest) ∙ ap (range_with_len 0) all in
    ap (λ es. first_of (map check es)) (sym start)
    ∙ ap first_of (map-append check (range_with_len 0 k) (range_with_len k (suc rest)))
    ∙ first_of-append (map check (range_with_len 0 k)) (check k ∷ map check (range_with_len (k + 1) rest)) none
    ∙ ap (λ found. first_of (found ∷ map check (range_with_len (k + 1) rest))) here

-- what causes a fault
pub cause_by : (rose rose' : Type 0) (P Q : Fault → Type 0) (fault : RecoverFault) → (rose → rose') → ((f : Fault) → P f → Q f) → HasRecoverCause rose P fault → HasRecoverCause rose' Q fault
cause_by rose rose' P Q NotPrepared f g cause = g damage.NotPrepared cause
cause_by rose rose' P Q (EnginesDiffer held asked) f g cause = g (damage.EnginesDiffer held asked) cause
cause_by rose rose' P Q (Damaged Graph engine place) f g cause = g (damage.GraphDamaged engine place) cause
cause_by rose rose' P Q (Damaged Values engine place) f g cause = g (damage.ValuesDamaged engine place) cause
cause_by rose rose' P Q (Damaged Lane engine place) f g cause = absurd cause
cause_by rose rose' P Q DiskFault f g cause = f cause
cause_by rose rose' P Q Memory f g cause = cause

-- The three checks of heads, one after another.
pub first_check : (a b c : Option Fault) (fault : Fault) → a ≡ Some fault → first_of (a ∷ b ∷ c ∷ []) ≡ Some fault
first_check a b c fault found = ap (λ x. first_of (x ∷ b ∷ c ∷ [])) found

pub second_check : (a b c : Option Fault) (fault : Fault) → a ≡ None → b ≡ Some fault → first_of (a ∷ b ∷ c ∷ []) ≡ Some fault
second_check a b c fault none found = ap (λ x. first_of (x ∷ b ∷ c ∷ [])) none ∙ ap (λ x. first_of (x ∷ c ∷ [])) found

pub third_check : (a b c answer : Option Fault) → a ≡ None → b ≡ None → c ≡ answer → first_of (a ∷ b ∷ c ∷ []) ≡ first_of (answer ∷ [])
third_check a b c answer none none' found = ap (λ x. first_of (x ∷ b ∷ c ∷ [])) none ∙ ap (λ x. first_of (x ∷ c ∷ [])) none' ∙ ap (λ x. first_of (x ∷ [])) found

-- what one of some devices tells
pub tell_at : {X : Type 0} (state : X → DiskState) (disks : List X) (told : List (List ℕ)) (e : ℕ) (x : X) → Tell state disks told → e < length disks → x ≡ get_or disks e x → (state x).bytes ≡ Some (device told e)
tell_at state disks told e x tell within is = subst (λ y. (state y).bytes ≡ Some (device told e)) (sym is) (tell.told e x within)

pub differ : (held asked : ℕ) → held ≢ asked → engines_fault held asked ≡ Some (damage.EnginesDiffer held asked)
differ held asked other = ap (λ b. if b then None else Some (damage.EnginesDiffer held asked)) (ne_eqb held asked other)

pub agree : (held asked : ℕ) → held ≡ asked → engines_fault held asked ≡ None
agree held asked same = ap (λ b. if b then None else Some (damage.EnginesDiffer held asked)) (eq-eqb held asked same)

pub scan_cause : (rose rose' : Type 0) (IsDamaged : ℕ → Type 0) (Q : Fault → Type 0) (engine : ℕ) (fault : ChunkFault) → (rose → rose') → ((at : ℕ) → IsDamaged at → Q (damage.GraphDamaged engine at)) → HasChunkCause rose IsDamaged ⊤ fault → HasRecoverCause rose' Q (scan_fault engine fault)
scan_cause rose rose' IsDamaged Q engine ReadFailed f g cause = f cause
scan_cause rose rose' IsDamaged Q engine (NoChunk at) f g cause = g at cause
scan_cause rose rose' IsDamaged Q engine NoMemory f g cause = cause
