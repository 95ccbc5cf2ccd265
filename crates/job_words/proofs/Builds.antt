-- A command to which a loop adds one rule for each item of a list.
use Rattle.std.proofs.Common.{◌≡◌, ◌∙◌, ◌+◌, ◌<◌, ℕ, zero, suc, List, [], ◌∷◌, map, length, take, refl, sym, ap, arith, slice_index_or}
use Rattle.clap.specs.Words.{App, Rule, with_rule}
use Rattle.job_words.specs.Reader.{with_rules}

-- the rule of one more item
rule_next : {X : Type 0} (rule : X → Rule) (app : App) (xs : List X) (i : ℕ) (d : X) → i < length xs
    → with_rules app (map rule (take (suc i) xs)) ≡ with_rule (with_rules app (map rule (take i xs))) (rule (slice_index_or xs i d))
rule_next rule app [] i d below = absurd (omega arith)
rule_next rule app (x ∷ xs) zero d below = refl
rule_next rule app (x ∷ xs) (suc i) d below = rule_next rule (with_rule app (rule x)) xs i d (omega arith)

pub rule_more : {X : Type 0} (rule : X → Rule) (app before after : App) (xs : List X) (i : ℕ) (d : X) → i < length xs
    → before ≡ with_rules app (map rule (take i xs)) → after ≡ with_rule before (rule (slice_index_or xs i d))
    → after ≡ with_rules app (map rule (take (i + 1) xs))
rule_more rule app before after xs i d below is_before is_after =
    let next : i + 1 ≡ suc i = omega arith in
    is_after ∙ ap (λ a. with_rule a (rule (slice_index_or xs i d))) is_before ∙ sym (rule_next rule app xs i d below)
    ∙ sym (ap (λ k. with_rules app (map rule (take k xs))) next)
