-- What one call of a work does to one desk.
use Rattle.std.specs.Prelude.{◌≡◌, ℕ, ◌<◌, List, length, slice_index_or}
use denote.Ref.{Bor, MutBor}
use denote.Param.Members.{Shared}

module _ {F C T : Type 0} (g : Shared F (Bor C × (MutBor T × Unit {0})) ((Unit {0}) × (MutBor T × Unit {0}))) (work : F) (context : C) where
  -- the work may be called with a `&` to the context and a `&mut` to the desk
  abbrev pub TakesDesk : T → Type 0
  TakesDesk desk = (c : Bor C) (p : MutBor T) → c.now ≡ context → p.now ≡ desk → g.pre work (c, (p, tt))

  -- one call of the work, with the context and the desk `before`, may leave `after` there
  pub record LeavesDesk (before after : T) : Type 0 where
    pub shown : Bor C
    pub shows : shown.now ≡ context
    pub argument : MutBor T
    pub argument_is : argument.now ≡ before
    pub after_call : MutBor T
    pub call : g.post work (shown, (argument, tt)) (tt, (after_call, tt))
    pub left : after_call.now ≡ after

  -- it may be called on each desk
  abbrev pub TakesDesks : List T → Type 0
  TakesDesks desks = (i : ℕ) (p : T) → i < length desks → p ≡ slice_index_or desks i p → TakesDesk p

  -- each desk is what one call of the work on it left
  -- (the equation in front shows a search the term at which to use the rest)
  abbrev pub LeavesDesks : List T → List T → Type 0
  LeavesDesks before after = (i : ℕ) (d : T) → i < length before
      → (slice_index_or after i d ≡ slice_index_or after i d) × LeavesDesk (slice_index_or before i d) (slice_index_or after i d)
