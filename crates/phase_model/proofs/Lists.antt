-- What longer lists take, send and sum up.
use Rattle.std.proofs.Common.{◌≡◌, ℕ, ◌+◌, List, ◌++◌, length, ap, ◌∙◌, length-append, ◌≢◌, eqb, [], ◌∷◌, map, refl, ne_eqb}
use Rattle.std.specs.List.{fold, All}
use Rattle.std.proofs.lemmas.Grind.{flat_map-append}
use Rattle.std.proofs.lemmas.List.Sums.{sum_by-append, fold-append}
use Rattle.std.proofs.lemmas.Bool.{cond-false}
use Rattle.std.proofs.lemmas.List.Elements.{All-head, All-tail}
use Rattle.chunk_object.specs.declared.call.Call.{Call}
use Rattle.graph_model.specs.declared.value.Update.{Update}
use Rattle.phase_model.specs.Taken.{taken_in, taken, records_of, records_taken, claims, admissions}
use Rattle.phase_model.specs.Sums.{values_to, sum_at}
use Rattle.phase_model.proofs.Sent.{values_to-append}

pub taken-append : (xs ys : List Call) → taken (xs ++ ys) ≡ taken xs ++ taken ys
taken-append xs ys = flat_map-append taken_in xs ys

pub records_of-append : {X : Type 0} (records : ℕ → ℕ → List X) (xs ys : List (ℕ × ℕ)) → records_of records (xs ++ ys) ≡ records_of records xs ++ records_of records ys
records_of-append records xs ys = flat_map-append (λ chunk. records chunk.0 chunk.1) xs ys

pub records_taken-append : {X : Type 0} (records : ℕ → ℕ → List X) (xs ys : List Call) → records_taken records (xs ++ ys) ≡ records_taken records xs ++ records_taken records ys
records_taken-append records xs ys = ap (records_of records) (taken-append xs ys) ∙ records_of-append records (taken xs) (taken ys)

pub claims-append : (xs ys : List Call) → claims (xs ++ ys) ≡ claims xs + claims ys
claims-append xs ys = ap length (taken-append xs ys) ∙ length-append (taken xs) (taken ys)

pub admissions-append : (xs ys : List Call) → admissions (xs ++ ys) ≡ admissions xs + admissions ys
admissions-append xs ys = sum_by-append _ xs ys

pub sum_at-append : (add : ℕ → ℕ → ℕ) (unit : ℕ) (xs ys : List Update) (v : ℕ) → sum_at add unit (xs ++ ys) v ≡ fold add (sum_at add unit xs v) (values_to v ys)
sum_at-append add unit xs ys v = ap (fold add unit) (values_to-append v xs ys) ∙ fold-append add unit (values_to v xs) (values_to v ys)

pub values_none : (v : ℕ) (us : List Update) → All (λ (u : Update). u.dst ≢ v) us → values_to v us ≡ []
values_none v [] none = refl
values_none v (u ∷ us) none = ap (map (λ (x : Update). x.value)) (cond-false (eqb u.dst v) _ _ (ne_eqb u.dst v (All-head (λ (x : Update). x.dst ≢ v) u us none))) ∙ values_none v us (All-tail (λ (x : Update). x.dst ≢ v) u us none)
