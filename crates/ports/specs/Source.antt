-- What a read takes from a source.
use Rattle.std.specs.Prelude.{◌≡◌, ℕ, ◌<◌, ◌≤◌, List, [], ◌++◌, length, take, drop}

-- The first so many bytes that were left are at the front of the buffer and are left no more.
pub record Moved (count : ℕ) (into old new : List ℕ) : Type 0 where
  pub there : count ≤ length old
  pub front : take count into ≡ take count old
  pub rest : new ≡ drop count old
  -- none of them, though there is room: nothing was left
  pub end : count ≡ 0 → 0 < length into → old ≡ []

-- these bytes were taken, by any number of reads
abbrev pub Gives : List ℕ → List ℕ → List ℕ → Type 0
Gives bytes old new = old ≡ bytes ++ new
