-- The work, part by part.
use Rattle.std.proofs.Common.{◌≡◌, ℕ, ◌+◌, ◌≤◌, ◌<◌, Bool, true, false, List, [], ◌++◌, refl, ap, sym, ◌∙◌, subst, arith, append_assoc}
use Rattle.std.specs.List.{All}
use Rattle.std.proofs.lemmas.Bool.{false≢true}
use Rattle.chunk_object.specs.declared.call.Call.{Call}
use Rattle.chunk_cursor.specs.declared.view.View.{View}
use Rattle.chunk_cursor.specs.View.{with_calls}
use Rattle.chunk_cursor.proofs.Knowing.{with_calls-none, with_calls-append}
use Rattle.phase_model.proofs.Lists.{claims-append, admissions-append}
use Rattle.worker_duty.specs.declared.acts.Worked.{Worked}
use Rattle.worker_duty.specs.Slots.{Fills}
use Rattle.worker_duty.specs.Working.{IsPiece}
use Rattle.worker_duty.proofs.Sorted.{fills_none, fills_skip, fills_more, fills_all}

-- what was worked, with these numbers
abbrev pub worked_of : Bool → ℕ → ℕ → Worked
worked_of through took helped = record { is_through = through; claims = took; admitted = helped }

module _ (belongs : ℕ → Call → Bool) (mine : ℕ → Bool) (share : ℕ → List Call → Type 0) where
  abbrev pub PartTo : ℕ → View → View → Bool → ℕ → ℕ → Type 0
  PartTo n old new through took helped = IsPiece (Fills belongs mine share n) old new (worked_of through took helped)

  pub part_none : (v : View) → PartTo 0 v v true 0 0
  part_none v = record {
    calls = [];
    grown = sym (with_calls-none v);
    whole = λ is. fills_none belongs mine share;
    front = ([], fills_none belongs mine share);
    claims_are = refl;
    admissions_are = refl;
  }

  pub part_skip : (n : ℕ) (old new : View) (took helped : ℕ) → mine n ≡ false → PartTo n old new true took helped → PartTo (n + 1) old new true took helped
  part_skip n old new took helped not_mine part = record {
    calls = part.calls;
    grown = part.grown;
    whole = λ is. fills_skip belongs mine share n part.calls not_mine (part.whole is);
    front = (part.front.0, fills_skip belongs mine share n (part.calls ++ part.front.0) not_mine part.front.1);
    claims_are = part.claims_are;
    admissions_are = part.admissions_are;
  }

  module _ (apart : (i j : ℕ) (c : Call) → belongs i c ≡ true → belongs j c ≡ true → i ≡ j) where
    -- one slot more, also where the work was stopped in it
    pub part_more : (Whole : List Call → Type 0) (n : ℕ) (old middle new : View) (took helped new_took new_helped : ℕ) (through : Bool) (more : Worked) → mine n ≡ true → ((l : List Call) → Whole l → All (λ c. belongs n c ≡ true) l × share n l)
        → PartTo n old middle true took helped → IsPiece Whole middle new more → more.is_through ≡ through → new_took ≡ took + more.claims → new_helped ≡ helped + more.admitted → PartTo (n + 1) old new through new_took new_helped
    part_more Whole n old middle new took helped new_took new_helped through more is_mine gives part piece same takes helps = record {
      calls = part.calls ++ piece.calls;
      grown = piece.grown ∙ (ap (λ v. with_calls v piece.calls) part.grown ∙ with_calls-append old part.calls piece.calls);
      whole = λ is. let given = gives piece.calls (piece.whole (same ∙ is)) in fills_more belongs mine share apart n part.calls piece.calls is_mine (part.whole refl) given.0 given.1;
      front = (
        piece.front.0,
        (let given = gives (piece.calls ++ piece.front.0) piece.front.1 in
            subst (Fills belongs mine share (n + 1)) (sym (append_assoc part.calls piece.calls piece.front.0)) (fills_more belongs mine share apart n part.calls (piece.calls ++ piece.front.0) is_mine (part.whole refl) given.0 given.1)),
      );
      claims_are = let e = claims-append part.calls piece.calls in omega (arith, e, part.claims_are, piece.claims_are);
      admissions_are = let e = admissions-append part.calls piece.calls in omega (arith, e, part.admissions_are, piece.admissions_are);
    }

    -- what was stopped can be gone on with through all slots
    pub part_stopped : (k n : ℕ) (old new : View) (took helped : ℕ) → k ≤ n → ((i : ℕ) → i < n → mine i ≡ true → (piece : List Call) × All (λ c. belongs i c ≡ true) piece × share i piece) → PartTo k old new false took helped → PartTo n old new false took helped
    part_stopped k n old new took helped within some part =
        let on = fills_all belongs mine share apart k n (part.calls ++ part.front.0) within some part.front.1 in
        record {
          calls = part.calls;
          grown = part.grown;
          whole = λ is. absurd (false≢true is);
          front = (part.front.0 ++ on.0, subst (Fills belongs mine share n) (append_assoc part.calls part.front.0 on.0) on.1);
          claims_are = part.claims_are;
          admissions_are = part.admissions_are;
        }
