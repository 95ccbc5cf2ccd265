-- A history with one more call.
use Rattle.std.proofs.Common.{◌≡◌, ◌≢◌, ℕ, suc, false, cond, ◌&&◌, eqb, List, [], ◌∷◌, ◌++◌, ap, ◌∙◌, eq-eqb, ne_eqb}
use Rattle.std.proofs.lemmas.Bool.{or_from}
use Rattle.std.specs.List.{filter}
use Rattle.chunk_object.specs.declared.call.Entry.{Entry}
use Rattle.chunk_object.specs.Object.{unopened, after}
use Rattle.chunk_object.specs.History.{unborn, final, object_step, object_after, stage_after, stage_step, stages, entries_of, sets_word, bears_on, opens, exhausts, refusals, refusals_of, greets, admits, admissions_of, no_epoch, epoch_after, epoch_step, epoch_of}
use Rattle.chunk_object.proofs.Histories.{final-push, filter-push, filter_pass, count-push}

module _ (h : List Entry) (e : Entry) where
  pub object_push : object_after (h ++ e ∷ []) ≡ after (object_after h) e.call
  object_push = final-push object_step unopened h e

  pub stages_push : stages (h ++ e ∷ []) ≡ stage_after (stages h) e.call
  stages_push = final-push stage_step (λ serial. unborn) h e

  pub refusals_push : (cursor : ℕ) → refusals cursor (h ++ e ∷ []) ≡ cond (opens cursor e.call) 0 (cond (exhausts cursor e.call) (suc (refusals cursor h)) (refusals cursor h))
  refusals_push cursor = count-push (λ x. opens cursor x.call) (λ x. exhausts cursor x.call) 0 h e

  pub refusals_of_push : (worker cursor : ℕ)
      → refusals_of worker cursor (h ++ e ∷ []) ≡ cond (opens cursor e.call) 0 (cond (exhausts cursor e.call && eqb e.worker worker) (suc (refusals_of worker cursor h)) (refusals_of worker cursor h))
  refusals_of_push worker cursor = count-push (λ x. opens cursor x.call) (λ x. exhausts cursor x.call && eqb x.worker worker) 0 h e

  pub admissions_of_push : (worker partition : ℕ)
      → admissions_of worker partition (h ++ e ∷ [])
      ≡ cond (greets partition e.call) 0 (cond (admits partition e.call && eqb e.worker worker) (suc (admissions_of worker partition h)) (admissions_of worker partition h))
  admissions_of_push worker partition = count-push (λ x. greets partition x.call) (λ x. admits partition x.call && eqb x.worker worker) 0 h e

  pub entries_push : (serial : ℕ) → e.serial ≡ serial → entries_of serial (h ++ e ∷ []) ≡ entries_of serial h ++ e ∷ []
  entries_push serial same = filter-push (λ x. eqb x.serial serial) h e (eq-eqb e.serial serial same)

  pub entries_pass : (serial : ℕ) → e.serial ≢ serial → entries_of serial (h ++ e ∷ []) ≡ entries_of serial h
  entries_pass serial other = filter_pass (λ x. eqb x.serial serial) h e (ne_eqb e.serial serial other)

  pub bears_pass : (worker : ℕ) → sets_word e.call ≡ false → e.worker ≢ worker → filter (bears_on worker) (h ++ e ∷ []) ≡ filter (bears_on worker) h
  bears_pass worker plain other = filter_pass (bears_on worker) h e (or_from (sets_word e.call) (eqb e.worker worker) plain (ne_eqb e.worker worker other))

  pub epoch_push : e.serial ≡ 0 → epoch_of (h ++ e ∷ []) ≡ epoch_after (epoch_of h) e.call
  epoch_push first = ap (final epoch_step no_epoch) (entries_push 0 first) ∙ final-push epoch_step no_epoch (entries_of 0 h) e

  pub epoch_pass : e.serial ≢ 0 → epoch_of (h ++ e ∷ []) ≡ epoch_of h
  epoch_pass other = ap (final epoch_step no_epoch) (entries_pass 0 other)
