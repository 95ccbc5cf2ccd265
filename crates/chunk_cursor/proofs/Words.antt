-- The words show the chunk object after each call.
use Rattle.std.proofs.Common.{◌≡◌, ◌≢◌, ℕ, suc, ◌+◌, ◌*◌, ◌<◌, cond, eqb, List, [], ◌∷◌, ◌++◌, get_or, set, refl, ap, sym, ◌∙◌, ⊎_elim, arith, eq-eqb, ne_eqb}
use Rattle.std.proofs.lemmas.Bool.{cases_eq, cond-true, cond-false}
use Rattle.std.proofs.lemmas.List.{length-set, get_or-set_same, get_or-set_other}
use Rattle.chunk_object.specs.declared.call.Call.{Call}
use Rattle.chunk_object.specs.declared.call.Call.TheVariants.{Open, Greet, Took, Exhausted, Look, Heads, Admitted, Contended, Split, Join}
use Rattle.chunk_object.specs.declared.call.Entry.{Entry}
use Rattle.chunk_object.specs.Object.{after}
use Rattle.chunk_object.specs.History.{object_after, opens, exhausts, refusals}
use Rattle.chunk_object.proofs.Histories.{put_at_here, put_at_else}
use Rattle.chunk_object.proofs.Pushes.{object_push, refusals_push}
use Rattle.chunk_cursor.specs.Rule.{half, Shows}

module _ (words : List ℕ) (h : List Entry) (shows : Shows words h) (serial worker : ℕ) where
  abbrev at : Call → Entry
  at c = record { serial = serial; worker = worker; call = c }

  abbrev refused : Call → ℕ → ℕ
  refused c cursor = cond (opens cursor c) 0 (cond (exhausts cursor c) (suc (refusals cursor h)) (refusals cursor h))

  word_is : (c : Call) (cursor x : ℕ) → x ≡ (after (object_after h) c).len cursor * half + ((after (object_after h) c).next cursor + refused c cursor)
      → x ≡ (object_after (h ++ at c ∷ [])).len cursor * half + ((object_after (h ++ at c ∷ [])).next cursor + refusals cursor (h ++ at c ∷ []))
  word_is c cursor x e = e ∙ sym (λ i. (object_push h (at c) i).len cursor * half + ((object_push h (at c) i).next cursor + refusals_push h (at c) cursor i))

  head_is : (c : Call) (p x : ℕ) → x ≡ (after (object_after h) c).heads p → x ≡ (object_after (h ++ at c ∷ [])).heads p
  head_is c p x e = e ∙ sym (ap (λ o. o.heads p) (object_push h (at c)))

  -- the word of a cursor changes
  cursor_shows : (c : Call) (cursor x : ℕ) → cursor < 512 → x ≡ (after (object_after h) c).len cursor * half + ((after (object_after h) c).next cursor + refused c cursor)
      → ((other : ℕ) → other ≢ cursor → (object_after h).len other * half + ((object_after h).next other + refusals other h) ≡ (after (object_after h) c).len other * half + ((after (object_after h) c).next other + refused c other))
      → (object_after h).heads ≡ (after (object_after h) c).heads → Shows (set words cursor x) (h ++ at c ∷ [])
  cursor_shows c cursor x below here else heads = record {
    size = length-set words cursor x ∙ shows.size;
    cursors = λ other small. ⊎_elim
        (λ same. (λ i. get_or (set words cursor x) (same i) 0) ∙ (get_or-set_same words cursor x 0 (omega (arith, shows.size))
        ∙ (word_is c cursor x here ∙ (λ i. (object_after (h ++ at c ∷ [])).len (sym same i) * half + ((object_after (h ++ at c ∷ [])).next (sym same i) + refusals (sym same i) (h ++ at c ∷ []))))))
        (λ ne. word_is c other _ (get_or-set_other words cursor other x 0 ne ∙ (shows.cursors other small ∙ else other ne)))
        (cases_eq other cursor);
    helpers = λ p small. head_is c p _ (get_or-set_other words cursor (512 + p) x 0 (λ e. omega arith) ∙ (shows.helpers p small ∙ ap (λ f. f p) heads));
  }

  -- the word of a partition's helpers changes
  helper_shows : (c : Call) (p x : ℕ) → p < 64 → x ≡ (after (object_after h) c).heads p → ((other : ℕ) → other ≢ p → (object_after h).heads other ≡ (after (object_after h) c).heads other)
      → ((cursor : ℕ) → (object_after h).len cursor * half + ((object_after h).next cursor + refusals cursor h) ≡ (after (object_after h) c).len cursor * half + ((after (object_after h) c).next cursor + refused c cursor))
      → Shows (set words (512 + p) x) (h ++ at c ∷ [])
  helper_shows c p x below here else cursors = record {
    size = length-set words (512 + p) x ∙ shows.size;
    cursors = λ cursor small. word_is c cursor _ (get_or-set_other words (512 + p) cursor x 0 (λ e. omega arith) ∙ (shows.cursors cursor small ∙ cursors cursor));
    helpers = λ other small. head_is c other _ (⊎_elim
        (λ same. (λ i. get_or (set words (512 + p) x) (512 + same i) 0) ∙ (get_or-set_same words (512 + p) x 0 (omega (arith, shows.size)) ∙ (here ∙ ap (after (object_after h) c).heads (sym same))))
        (λ ne. get_or-set_other words (512 + p) (512 + other) x 0 (λ e. ne (omega arith)) ∙ (shows.helpers other small ∙ else other ne))
        (cases_eq other p));
  }

  -- a call that changes nothing
  same_shows : (c : Call) → after (object_after h) c ≡ object_after h → ((cursor : ℕ) → refusals cursor h ≡ refused c cursor) → Shows words (h ++ at c ∷ [])
  same_shows c same refused_same = record {
    size = shows.size;
    cursors = λ cursor small. word_is c cursor _ (shows.cursors cursor small ∙ (λ i. (sym same i).len cursor * half + ((sym same i).next cursor + refused_same cursor i)));
    helpers = λ p small. head_is c p _ (shows.helpers p small ∙ ap (λ o. o.heads p) (sym same));
  }

  pub open_shows : (cursor len : ℕ) → cursor < 512 → Shows (set words cursor (len * half)) (h ++ at (Open cursor len) ∷ [])
  open_shows cursor len below = cursor_shows (Open cursor len) cursor (len * half) below
      (sym (let l = put_at_here cursor len (object_after h).len cursor refl in let n = put_at_here cursor 0 (object_after h).next cursor refl in
      let r : refused (Open cursor len) cursor ≡ 0 = cond-true (eqb cursor cursor) 0 (refusals cursor h) (eq-eqb cursor cursor refl) in
      (λ i. l i * half + (n i + r i)) ∙ omega arith))
      (λ other ne. sym (let l = put_at_else cursor len (object_after h).len other ne in let n = put_at_else cursor 0 (object_after h).next other ne in
      let r : refused (Open cursor len) other ≡ refusals other h = cond-false (eqb cursor other) 0 (refusals other h) (ne_eqb cursor other (λ e. ne (sym e))) in
      (λ i. l i * half + (n i + r i))))
      refl

  pub took_shows : (cursor chunk : ℕ) → cursor < 512 → chunk ≡ (object_after h).next cursor → Shows (set words cursor (get_or words cursor 0 + 1)) (h ++ at (Took cursor chunk) ∷ [])
  took_shows cursor chunk below given = cursor_shows (Took cursor chunk) cursor _ below
      (let n = put_at_here cursor (suc chunk) (object_after h).next cursor refl in omega (arith, shows.cursors cursor below, n, given))
      (λ other ne. sym (let n = put_at_else cursor (suc chunk) (object_after h).next other ne in (λ i. (object_after h).len other * half + (n i + refusals other h))))
      refl

  pub exhausted_shows : (cursor : ℕ) → cursor < 512 → Shows (set words cursor (get_or words cursor 0 + 1)) (h ++ at (Exhausted cursor) ∷ [])
  exhausted_shows cursor below = cursor_shows (Exhausted cursor) cursor _ below
      (let r : refused (Exhausted cursor) cursor ≡ suc (refusals cursor h) = cond-true (eqb cursor cursor) _ _ (eq-eqb cursor cursor refl) in omega (arith, shows.cursors cursor below, r))
      (λ other ne. sym (let r : refused (Exhausted cursor) other ≡ refusals other h = cond-false (eqb cursor other) _ _ (ne_eqb cursor other (λ e. ne (sym e))) in
      (λ i. (object_after h).len other * half + ((object_after h).next other + r i))))
      refl

  pub greet_shows : (p : ℕ) → p < 64 → Shows (set words (512 + p) 1) (h ++ at (Greet p) ∷ [])
  greet_shows p below = helper_shows (Greet p) p 1 below (sym (put_at_here p 1 (object_after h).heads p refl)) (λ other ne. sym (put_at_else p 1 (object_after h).heads other ne)) (λ cursor. refl)

  pub admitted_shows : (p heads : ℕ) → p < 64 → Shows (set words (512 + p) (suc heads)) (h ++ at (Admitted p heads) ∷ [])
  admitted_shows p heads below =
      helper_shows (Admitted p heads) p (suc heads) below (sym (put_at_here p (suc heads) (object_after h).heads p refl)) (λ other ne. sym (put_at_else p (suc heads) (object_after h).heads other ne)) (λ cursor. refl)

  pub look_shows : (cursor left : ℕ) → Shows words (h ++ at (Look cursor left) ∷ [])
  look_shows cursor left = same_shows (Look cursor left) refl (λ other. refl)

  pub heads_shows : (p heads : ℕ) → Shows words (h ++ at (Heads p heads) ∷ [])
  heads_shows p heads = same_shows (Heads p heads) refl (λ cursor. refl)

  pub contended_shows : (p heads found : ℕ) → Shows words (h ++ at (Contended p heads found) ∷ [])
  contended_shows p heads found = same_shows (Contended p heads found) refl (λ cursor. refl)

  pub split_shows : (new by : ℕ) → Shows words (h ++ at (Split new by) ∷ [])
  split_shows new by = same_shows (Split new by) refl (λ cursor. refl)

  pub join_shows : (old by : ℕ) → Shows words (h ++ at (Join old by) ∷ [])
  join_shows old by = same_shows (Join old by) refl (λ cursor. refl)
