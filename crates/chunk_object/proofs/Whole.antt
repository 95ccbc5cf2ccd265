-- What a story says that has the calls of all callers.
use Rattle.std.proofs.Common.{◌≡◌, ℕ, ◌<◌, Bool, true, eqb, List, [], ◌∷◌, refl, ap, sym, ◌∙◌, subst, ⊎_elim, arith, eq-eqb, ne_eqb}
use Rattle.std.specs.List.{All}
use Rattle.std.proofs.lemmas.Bool.{cases_eq, cond-true, cond-false, and_parts}
use Rattle.std.proofs.lemmas.List.Elements.{All-nil, All-cons, All-head, All-tail, All-filter, All-weaker}
use Rattle.chunk_object.specs.declared.call.Entry.{Entry}
use Rattle.chunk_object.specs.History.{entries_of, IsCaller, sets_word, count_since, opens, exhausts, takes, times_taken, refusals, one_below, opened_len, StandsWhole}
use Rattle.chunk_object.proofs.Histories.{by, count_by_worker, total_same}
use Rattle.chunk_object.proofs.Legal.{times_taken_is, next_is_len, len_is}
use Rattle.chunk_object.proofs.Moves.{opens_sets, count_moves, opened_len_moves}

-- what holds of each caller's calls holds of all
pub All-callers : (P : Entry → Type 0) (l : List Entry) → ((serial : ℕ) → All P (entries_of serial l)) → All P l
All-callers P [] each = All-nil P
All-callers P (e ∷ l) each = All-cons P e l head (All-callers P l tail)
  where
    own : entries_of e.serial (e ∷ l) ≡ e ∷ entries_of e.serial l
    own = cond-true (eqb e.serial e.serial) _ _ (eq-eqb e.serial e.serial refl)

    head : P e
    head = All-head P e (entries_of e.serial l) (subst (All P) own (each e.serial))

    tail : (serial : ℕ) → All P (entries_of serial l)
    tail serial = ⊎_elim
        (λ same. All-tail P e (entries_of serial l) (subst (All P) (cond-true (eqb e.serial serial) _ _ (eq-eqb e.serial serial same)) (each serial)))
        (λ ne. subst (All P) (cond-false (eqb e.serial serial) _ _ (ne_eqb e.serial serial ne)) (each serial))
        (cases_eq e.serial serial)

module _ (story : List Entry) (whole : StandsWhole story) where
  pub callers_whole : All IsCaller story
  callers_whole = All-callers IsCaller story (λ serial. subst (All IsCaller) (whole.calls serial) (All-filter (λ e. eqb e.serial serial) IsCaller whole.history whole.is.callers))

  below_nine : (l : List Entry) → All IsCaller l → All (λ e. e.worker < 9) l
  below_nine l callers = All-weaker IsCaller (λ (e : Entry). e.worker < 9) (λ e c. let w = c.0 in omega (arith, w)) l callers

  -- a count since something that opens or greets is the same in the history and in the story
  pub count_whole : (starts hits : Entry → Bool) → ((e : Entry) → starts e ≡ true → sets_word e.call ≡ true) → count_since starts hits whole.history ≡ count_since starts hits story
  count_whole starts hits from_start =
      count_by_worker starts hits 9 0 (λ n. 0) whole.history (below_nine whole.history whole.is.callers) refl
      ∙ (total_same 9 _ _ (λ worker. count_moves worker whole.history story (whole.bears worker) starts (by hits worker) from_start (λ e h. (and_parts (hits e) (eqb e.worker worker) h).1))
      ∙ sym (count_by_worker starts hits 9 0 (λ n. 0) story (below_nine story callers_whole) refl))

  -- where someone was told that none is left, each chunk was taken once since the cursor was opened, and no other
  pub all_taken : (cursor : ℕ) → 0 < refusals cursor story → (chunk : ℕ) → times_taken cursor chunk story ≡ one_below (opened_len cursor story) chunk
  all_taken cursor told chunk =
      let refused : refusals cursor whole.history ≡ refusals cursor story = count_whole (λ e. opens cursor e.call) (λ e. exhausts cursor e.call) (λ e. opens_sets cursor e.call) in
      let taken : times_taken cursor chunk whole.history ≡ times_taken cursor chunk story = count_whole (λ e. opens cursor e.call) (λ e. takes cursor chunk e.call) (λ e. opens_sets cursor e.call) in
      let full = next_is_len cursor whole.history whole.is.legal (subst (λ n. 0 < n) (sym refused) told) in
      sym taken
      ∙ (times_taken_is cursor chunk whole.history whole.is.legal
      ∙ ap (λ n. one_below n chunk) (full ∙ (len_is cursor whole.history ∙ opened_len_moves 0 whole.history story (whole.bears 0) cursor)))
