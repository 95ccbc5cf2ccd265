-- What is said of an object that tells its bytes, and asks nothing of one that does not.
use Rattle.std.specs.Prelude.{ℕ, List, Option, Some, None}

-- Both states tell their bytes, and these are so related, or neither tells.
abbrev pub AsTold : (List ℕ → List ℕ → Type 0) → Option (List ℕ) → Option (List ℕ) → Type 0
AsTold related (Some old) (Some new) = related old new
AsTold related None None = Unit {0}
AsTold related (Some old) None = ⊥
AsTold related None (Some new) = ⊥
