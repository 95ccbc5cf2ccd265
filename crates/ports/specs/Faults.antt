-- How counts of faults go on, and what they say of an answer.
use Rattle.std.specs.Prelude.{ℕ, ◌+◌, ◌-◌, ◌^◌, ◌≤◌, ◌≡◌, ◌⊎◌, min, Result, OnOk, OnErr}

-- One more. A count stands still at 2^64 - 1, the last value of a real object's counter.
abbrev pub next_count : ℕ → ℕ
next_count count = min (count + 1) (2 ^ 64 - 1)

-- the count is higher now, or stands at its last value
abbrev pub Rose : ℕ → ℕ → Type 0
Rose before now = next_count before ≤ now

-- A count never falls, an answer that is no Ok is given only where it rose, and Ok only where it stands as it was: no
-- call that failed is made again, and none is passed over.
pub record HasCause {T E : Type 0} (before now : ℕ) (result : Result T E) : Type 0 where
  pub later : before ≤ now
  pub failed : OnErr result (Rose before now)
  pub calm : OnOk result (now ≡ before)

-- The same of a call that is handed two objects with a count each: one of the two rose, or both stand as they were.
pub record HasCauseOfTwo {T E : Type 0} (before now before' now' : ℕ) (result : Result T E) : Type 0 where
  pub later : before ≤ now
  pub later' : before' ≤ now'
  pub failed : OnErr result (Rose before now ⊎ Rose before' now')
  pub calm : OnOk result ((now ≡ before) × (now' ≡ before'))
