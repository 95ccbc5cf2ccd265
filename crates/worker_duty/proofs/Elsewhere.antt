-- What calls leave as it was for other cursors and partitions.
use Rattle.std.proofs.Common.{◌≡◌, ◌≢◌, ℕ, ◌%◌, ◌<◌, true, false, List, [], ◌∷◌, ◌++◌, map, refl, ap, sym, ◌∙◌, subst, arith, ne_eqb}
use Rattle.std.specs.List.{All}
use Rattle.std.proofs.lemmas.Bool.{eqb-true, false≢true}
use Rattle.std.proofs.lemmas.List.{map-append}
use Rattle.std.proofs.lemmas.List.Elements.{All-nil, All-cons, All-append, All-head, All-tail, All-weaker}
use Rattle.std.proofs.lemmas.List.Concat.{flat_map-cons}
use Rattle.chunk_object.specs.declared.call.Call.{Call}
use Rattle.chunk_object.specs.declared.call.Call.TheVariants.{Open, Greet, Took, Exhausted, Look, Heads, Admitted, Contended, Split, Join}
use Rattle.chunk_object.specs.declared.call.Entry.{Entry}
use Rattle.chunk_object.specs.History.{opens, exhausts, greets, admits}
use Rattle.chunk_object.specs.Epochs.{cursor_of, Terms}
use Rattle.chunk_object.specs.Duty.{is_on, claims_at}
use Rattle.chunk_cursor.specs.declared.view.View.{View}
use Rattle.chunk_cursor.specs.View.{entry, with_call, with_calls, MayAdmit}
use Rattle.chunk_cursor.proofs.Knowing.{with_calls-none, with_calls-append, may_claim_still, opened_len_still, may_admit_still}
use Rattle.phase_model.specs.Taken.{taken_in, taken}
use Rattle.phase_model.proofs.Lists.{taken-append}
use Rattle.worker_duty.specs.Views.{calls_of, taken_by_seat, NoneOf, IsReady, MayWorkAt}

-- the call neither opens the cursor nor is refused there
pub record Leaves (cursor : ℕ) (c : Call) : Type 0 where
  pub calm : opens cursor c ≡ false
  pub served : exhausts cursor c ≡ false

-- the call neither greets the partition nor is an admission there
pub record Passes (partition : ℕ) (c : Call) : Type 0 where
  pub calm : greets partition c ≡ false
  pub none : admits partition c ≡ false

pub one_then : (v : View) (c : Call) (calls : List Call) → with_calls v (c ∷ calls) ≡ with_calls (with_call v c) calls
one_then v c calls = sym (with_calls-append v (c ∷ []) calls)

pub ready_still : (cursor len : ℕ) (v : View) (calls : List Call) → All (Leaves cursor) calls → IsReady v cursor len → IsReady (with_calls v calls) cursor len
ready_still cursor len v [] all ready = subst (λ u. IsReady u cursor len) (sym (with_calls-none v)) ready
ready_still cursor len v (c ∷ calls) all ready =
    let leaves = All-head (Leaves cursor) c calls all in
    subst (λ u. IsReady u cursor len) (sym (one_then v c calls))
    (ready_still cursor len (with_call v c) calls (All-tail (Leaves cursor) c calls all)
    (record { may = may_claim_still v c cursor leaves.calm leaves.served ready.may; opened = opened_len_still v c cursor leaves.calm ∙ ready.opened }))

pub admit_still : (partition : ℕ) (v : View) (calls : List Call) → All (Passes partition) calls → MayAdmit v partition → MayAdmit (with_calls v calls) partition
admit_still partition v [] all may = subst (λ u. MayAdmit u partition) (sym (with_calls-none v)) may
admit_still partition v (c ∷ calls) all may =
    let passes = All-head (Passes partition) c calls all in
    subst (λ u. MayAdmit u partition) (sym (one_then v c calls))
    (admit_still partition (with_call v c) calls (All-tail (Passes partition) c calls all) (may_admit_still v c partition passes.calm passes.none may))

cursor_partition : (engine partition : ℕ) → partition < 64 → cursor_of engine partition % 64 ≡ partition
cursor_partition engine partition small = omega arith

-- a call on another partition
pub leaves_elsewhere : (engine p q : ℕ) → p < 64 → q < 64 → q ≢ p → (c : Call) → is_on q c ≡ true → Leaves (cursor_of engine p) c
leaves_elsewhere engine p q small few ne (Open cursor len) on = let e : 64 ≡ q = eqb-true 64 q on in absurd (omega arith)
leaves_elsewhere engine p q small few ne (Greet partition) on = record { calm = refl; served = refl }
leaves_elsewhere engine p q small few ne (Took cursor chunk) on = record { calm = refl; served = refl }
leaves_elsewhere engine p q small few ne (Exhausted cursor) on =
    let at : cursor % 64 ≡ q = eqb-true (cursor % 64) q on in
    record { calm = refl; served = ne_eqb cursor (cursor_of engine p) (λ e. ne (sym at ∙ (ap (λ n. n % 64) e ∙ cursor_partition engine p small))) }
leaves_elsewhere engine p q small few ne (Look cursor left) on = record { calm = refl; served = refl }
leaves_elsewhere engine p q small few ne (Heads partition heads) on = record { calm = refl; served = refl }
leaves_elsewhere engine p q small few ne (Admitted partition heads) on = record { calm = refl; served = refl }
leaves_elsewhere engine p q small few ne (Contended partition heads found) on = record { calm = refl; served = refl }
leaves_elsewhere engine p q small few ne (Split serial worker) on = record { calm = refl; served = refl }
leaves_elsewhere engine p q small few ne (Join serial worker) on = record { calm = refl; served = refl }

pub passes_elsewhere : (p q : ℕ) → q < 64 → q ≢ p → (c : Call) → is_on q c ≡ true → Passes p c
passes_elsewhere p q few ne (Open cursor len) on = record { calm = refl; none = refl }
passes_elsewhere p q few ne (Greet partition) on = let e : 64 ≡ q = eqb-true 64 q on in absurd (omega arith)
passes_elsewhere p q few ne (Took cursor chunk) on = record { calm = refl; none = refl }
passes_elsewhere p q few ne (Exhausted cursor) on = record { calm = refl; none = refl }
passes_elsewhere p q few ne (Look cursor left) on = record { calm = refl; none = refl }
passes_elsewhere p q few ne (Heads partition heads) on = record { calm = refl; none = refl }
passes_elsewhere p q few ne (Admitted partition heads) on = record { calm = refl; none = ne_eqb partition p (λ e. ne (sym (eqb-true partition q on) ∙ e)) }
passes_elsewhere p q few ne (Contended partition heads found) on = record { calm = refl; none = refl }
passes_elsewhere p q few ne (Split serial worker) on = record { calm = refl; none = refl }
passes_elsewhere p q few ne (Join serial worker) on = record { calm = refl; none = refl }

-- a claim at another cursor
pub leaves_claims : (w x : ℕ) → x ≢ w → (c : Call) → claims_at x c ≡ true → Leaves w c
leaves_claims w x ne (Took claimed chunk) at = record { calm = refl; served = refl }
leaves_claims w x ne (Exhausted claimed) at = record { calm = refl; served = ne_eqb claimed w (λ e. ne (sym (eqb-true claimed x at) ∙ e)) }
leaves_claims w x ne (Open opened len) at = absurd (false≢true at)
leaves_claims w x ne (Greet partition) at = absurd (false≢true at)
leaves_claims w x ne (Look looked left) at = absurd (false≢true at)
leaves_claims w x ne (Heads partition heads) at = absurd (false≢true at)
leaves_claims w x ne (Admitted partition heads) at = absurd (false≢true at)
leaves_claims w x ne (Contended partition heads found) at = absurd (false≢true at)
leaves_claims w x ne (Split serial worker) at = absurd (false≢true at)
leaves_claims w x ne (Join serial worker) at = absurd (false≢true at)

-- the calls of a seat after more calls
entries-calls : (v : View) (calls : List Call) → map (λ (e : Entry). e.call) (map (entry v) calls) ≡ calls
entries-calls v [] = refl
entries-calls v (c ∷ calls) = ap (λ l. c ∷ l) (entries-calls v calls)

pub calls_of-more : (v : View) (calls : List Call) → calls_of (with_calls v calls) ≡ calls_of v ++ calls
calls_of-more v calls = map-append (λ (e : Entry). e.call) v.story (map (entry v) calls) ∙ ap (λ l. calls_of v ++ l) (entries-calls v calls)

pub taken-more : (v : View) (calls : List Call) → taken_by_seat (with_calls v calls) ≡ taken_by_seat v ++ taken calls
taken-more v calls = ap taken (calls_of-more v calls) ∙ taken-append (calls_of v) calls

-- calls on another partition take no chunk of this one
taken_off : (p q : ℕ) → q ≢ p → (c : Call) → is_on q c ≡ true → NoneOf p (taken_in c)
taken_off p q ne (Open cursor len) on = All-nil (λ chunk. chunk.0 % 64 ≢ p)
taken_off p q ne (Greet partition) on = All-nil (λ chunk. chunk.0 % 64 ≢ p)
taken_off p q ne (Took cursor chunk) on = All-cons (λ chunk. chunk.0 % 64 ≢ p) (cursor, chunk) [] (λ e. ne (sym (eqb-true (cursor % 64) q on) ∙ e)) (All-nil (λ chunk. chunk.0 % 64 ≢ p))
taken_off p q ne (Exhausted cursor) on = All-nil (λ chunk. chunk.0 % 64 ≢ p)
taken_off p q ne (Look cursor left) on = All-nil (λ chunk. chunk.0 % 64 ≢ p)
taken_off p q ne (Heads partition heads) on = All-nil (λ chunk. chunk.0 % 64 ≢ p)
taken_off p q ne (Admitted partition heads) on = All-nil (λ chunk. chunk.0 % 64 ≢ p)
taken_off p q ne (Contended partition heads found) on = All-nil (λ chunk. chunk.0 % 64 ≢ p)
taken_off p q ne (Split serial worker) on = All-nil (λ chunk. chunk.0 % 64 ≢ p)
taken_off p q ne (Join serial worker) on = All-nil (λ chunk. chunk.0 % 64 ≢ p)

taken_elsewhere : (p q : ℕ) → q ≢ p → (calls : List Call) → All (λ c. is_on q c ≡ true) calls → NoneOf p (taken calls)
taken_elsewhere p q ne [] all = All-nil (λ chunk. chunk.0 % 64 ≢ p)
taken_elsewhere p q ne (c ∷ calls) all =
    subst (NoneOf p) (sym (flat_map-cons taken_in c calls))
    (All-append (λ chunk. chunk.0 % 64 ≢ p) (taken_in c) (taken calls) (taken_off p q ne c (All-head (λ c. is_on q c ≡ true) c calls all)) (taken_elsewhere p q ne calls (All-tail (λ c. is_on q c ≡ true) c calls all)))

-- calls on other partitions leave all that the duty asks at this one
pub work_still : (terms : Terms) (lens : ℕ → ℕ) (v : View) (p q : ℕ) (calls : List Call) → p < 64 → q < 64 → q ≢ p → All (λ c. is_on q c ≡ true) calls → MayWorkAt terms lens v p → MayWorkAt terms lens (with_calls v calls) p
work_still terms lens v p q calls small few ne all may = record {
  fresh = subst (NoneOf p) (sym (taken-more v calls)) (All-append (λ chunk. chunk.0 % 64 ≢ p) (taken_by_seat v) (taken calls) may.fresh (taken_elsewhere p q ne calls all));
  ready = λ engine below. ready_still (cursor_of engine p) (lens (cursor_of engine p)) v calls (All-weaker _ _ (leaves_elsewhere engine p q small few ne) calls all) (may.ready engine below);
  may = λ other. admit_still p v calls (All-weaker _ _ (passes_elsewhere p q few ne) calls all) (may.may other);
}
