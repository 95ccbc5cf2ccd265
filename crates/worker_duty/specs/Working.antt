-- What a claim and a part of the work come to.
use Rattle.std.specs.Prelude.{◌≡◌, ℕ, true, List, ◌++◌}
use Rattle.chunk_object.specs.declared.call.Call.{Call}
use Rattle.chunk_object.specs.declared.call.Call.TheVariants.{Took, Exhausted}
use Rattle.chunk_cursor.specs.declared.view.View.{View}
use Rattle.chunk_cursor.specs.View.{with_call, with_calls, MayTake}
use Rattle.phase_model.specs.Taken.{claims, admissions}
use Rattle.worker_duty.specs.declared.acts.Step.{Step}
use Rattle.worker_duty.specs.declared.acts.Step.TheVariants as step
use Rattle.worker_duty.specs.declared.acts.Worked.{Worked}

-- the seat took a chunk of the cursor
pub record HasTaken (old new : View) (cursor : ℕ) : Type 0 where
  pub place : ℕ
  pub call : new ≡ with_call old (Took cursor place)
  pub may : MayTake old cursor place

-- the seat made one claim at the cursor: it took a chunk, also where the work was stopped at it, or was told that none is left
abbrev pub HasClaimed : View → View → ℕ → Step → Type 0
HasClaimed old new cursor step.Took = HasTaken old new cursor
HasClaimed old new cursor step.Exhausted = new ≡ with_call old (Exhausted cursor)
HasClaimed old new cursor step.Stopped = HasTaken old new cursor

-- The seat made some calls more: such as are wanted, where the work is through, and else a front of such. Their takes and admissions are counted
pub record IsPiece (Whole : List Call → Type 0) (old new : View) (worked : Worked) : Type 0 where
  pub calls : List Call
  pub grown : new ≡ with_calls old calls
  pub whole : worked.is_through ≡ true → Whole calls
  pub front : (rest : List Call) × Whole (calls ++ rest)
  pub claims_are : worked.claims ≡ claims calls
  pub admissions_are : worked.admitted ≡ admissions calls
