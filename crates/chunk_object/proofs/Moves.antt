-- Counts in two lists in which what bears on a worker is the same.
use Rattle.std.proofs.Common.{◌≡◌, ℕ, Bool, true, false, ◌&&◌, eqb, List, ap, sym, ◌∙◌, refl}
use Rattle.std.specs.List.{filter}
use Rattle.std.proofs.lemmas.Bool.{and_parts, or_left, or_parts, or_right}
use Rattle.chunk_object.specs.declared.call.Call.{Call}
use Rattle.chunk_object.specs.declared.call.Call.TheVariants.{Open, Greet, Took, Exhausted, Look, Heads, Admitted, Contended, Split, Join}
use Rattle.chunk_object.specs.declared.call.Entry.{Entry}
use Rattle.chunk_object.specs.History.{sets_word, bears_on, count_from, count_since, opens, exhausts, refusals_of, greets, admits, admissions_of, takes_any, taken_by, len_after, opened_from, opened_len}
use Rattle.chunk_object.proofs.Histories.{final-filter, count-filter}

pub opens_sets : (cursor : ℕ) (c : Call) → opens cursor c ≡ true → sets_word c ≡ true
opens_sets cursor (Open opened len) e = refl
opens_sets cursor (Greet partition) e = refl
opens_sets cursor (Took claimed chunk) e = e
opens_sets cursor (Exhausted claimed) e = e
opens_sets cursor (Look looked left) e = e
opens_sets cursor (Heads partition heads) e = e
opens_sets cursor (Admitted partition heads) e = e
opens_sets cursor (Contended partition heads found) e = e
opens_sets cursor (Split serial worker) e = e
opens_sets cursor (Join serial worker) e = e

pub greets_sets : (partition : ℕ) (c : Call) → greets partition c ≡ true → sets_word c ≡ true
greets_sets partition (Open opened len) e = refl
greets_sets partition (Greet greeted) e = refl
greets_sets partition (Took claimed chunk) e = e
greets_sets partition (Exhausted claimed) e = e
greets_sets partition (Look looked left) e = e
greets_sets partition (Heads greeted heads) e = e
greets_sets partition (Admitted greeted heads) e = e
greets_sets partition (Contended greeted heads found) e = e
greets_sets partition (Split serial worker) e = e
greets_sets partition (Join serial worker) e = e

len_skips : (cursor before : ℕ) (c : Call) → sets_word c ≡ false → len_after cursor before c ≡ before
len_skips cursor before (Open opened len) e = absurd (cc)
len_skips cursor before _ e = refl

-- what does not open a cursor does not count for its length
pub len_kept : (cursor worker : ℕ) (l : List Entry) (before : ℕ) → opened_from cursor before (filter (bears_on worker) l) ≡ opened_from cursor before l
len_kept cursor worker l before = final-filter (bears_on worker) (λ k e. len_after cursor k e.call) skips before l
  where
    skips : (k : ℕ) (e : Entry) → bears_on worker e ≡ false → len_after cursor k e.call ≡ k
    skips k e h = len_skips cursor k e.call (or_parts (sets_word e.call) (eqb e.worker worker) h).0

-- counts of what bears on one worker are the same in two lists in which that is the same
module _ (worker : ℕ) (xs ys : List Entry) (same : filter (bears_on worker) xs ≡ filter (bears_on worker) ys) where
  pub count_moves : (starts hits : Entry → Bool) → ((e : Entry) → starts e ≡ true → sets_word e.call ≡ true) → ((e : Entry) → hits e ≡ true → eqb e.worker worker ≡ true)
      → count_since starts hits xs ≡ count_since starts hits ys
  count_moves starts hits from_start from_hit =
      sym (count-filter starts hits (bears_on worker) kept_start kept_hit 0 xs) ∙ (ap (count_from starts hits 0) same ∙ count-filter starts hits (bears_on worker) kept_start kept_hit 0 ys)
    where
      kept_start : (e : Entry) → starts e ≡ true → bears_on worker e ≡ true
      kept_start e h = or_left (sets_word e.call) (eqb e.worker worker) (from_start e h)

      kept_hit : (e : Entry) → hits e ≡ true → bears_on worker e ≡ true
      kept_hit e h = or_right (sets_word e.call) (eqb e.worker worker) (from_hit e h)

  pub refusals_of_moves : (cursor : ℕ) → refusals_of worker cursor xs ≡ refusals_of worker cursor ys
  refusals_of_moves cursor = count_moves (λ e. opens cursor e.call) (λ e. exhausts cursor e.call && eqb e.worker worker) (λ e. opens_sets cursor e.call) (λ e h. (and_parts (exhausts cursor e.call) (eqb e.worker worker) h).1)

  pub admissions_of_moves : (partition : ℕ) → admissions_of worker partition xs ≡ admissions_of worker partition ys
  admissions_of_moves partition = count_moves (λ e. greets partition e.call) (λ e. admits partition e.call && eqb e.worker worker) (λ e. greets_sets partition e.call) (λ e h. (and_parts (admits partition e.call) (eqb e.worker worker) h).1)

  pub taken_by_moves : (cursor : ℕ) → taken_by worker cursor xs ≡ taken_by worker cursor ys
  taken_by_moves cursor = count_moves (λ e. opens cursor e.call) (λ e. takes_any cursor e.call && eqb e.worker worker) (λ e. opens_sets cursor e.call) (λ e h. (and_parts (takes_any cursor e.call) (eqb e.worker worker) h).1)

  pub opened_len_moves : (cursor : ℕ) → opened_len cursor xs ≡ opened_len cursor ys
  opened_len_moves cursor = sym (len_kept cursor worker xs 0) ∙ (ap (opened_from cursor 0) same ∙ len_kept cursor worker ys 0)
