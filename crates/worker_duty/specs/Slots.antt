-- Lists whose elements are sorted into slots.
use Rattle.std.specs.Prelude.{◌≡◌, ℕ, ◌<◌, Bool, true, List}
use Rattle.std.specs.List.{All, filter}

-- Each element belongs to one of the slots below n that are mine, and for each of these its elements, in order, are its share
pub record Fills {X : Type 0} (belongs : ℕ → X → Bool) (mine : ℕ → Bool) (share : ℕ → List X → Type 0) (n : ℕ) (xs : List X) : Type 0 where
  pub only : All (λ x. (i : ℕ) × (i < n) × (mine i ≡ true) × (belongs i x ≡ true)) xs
  pub each : (i : ℕ) → i < n → mine i ≡ true → share i (filter (belongs i) xs)
