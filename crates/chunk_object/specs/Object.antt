-- The chunk object as one thread would keep it.
use Rattle.std.specs.Prelude.{◌≡◌, ◌≢◌, ℕ, suc, ◌-◌, ◌<◌, ◌≤◌, ◌==◌, if◌then◌else◌}
use Rattle.chunk_object.specs.declared.call.Call.{Call}
use Rattle.chunk_object.specs.declared.call.Call.TheVariants.{Open, Greet, Took, Exhausted, Look, Heads, Admitted, Contended}

-- For each cursor the next chunk and the number of chunks, and for each partition the number of those who work on it
pub record ChunkObject : Type 0 where
  pub next : ℕ → ℕ
  pub len : ℕ → ℕ
  pub heads : ℕ → ℕ

abbrev pub unopened : ChunkObject
unopened = record { next = λ cursor. 0; len = λ cursor. 0; heads = λ partition. 0 }

-- the function, but this value at the key
abbrev pub put_at : {X : Type 0} → ℕ → X → (ℕ → X) → ℕ → X
put_at key value f i = (if i == key then value else f i)

-- the reply in the call is the object's at this point
abbrev pub Answers : ChunkObject → Call → Type 0
Answers o (Took cursor chunk) = (chunk ≡ o.next cursor) × (chunk < o.len cursor)
Answers o (Exhausted cursor) = o.len cursor ≤ o.next cursor
Answers o (Look cursor left) = left ≡ o.len cursor - o.next cursor
Answers o (Heads partition heads) = heads ≡ o.heads partition
Answers o (Admitted partition heads) = heads ≡ o.heads partition
Answers o (Contended partition heads found) = (found ≡ o.heads partition) × (found ≢ heads)
Answers o _ = Unit {0}

-- the object after the call
abbrev pub after : ChunkObject → Call → ChunkObject
after o (Open cursor len) = record { next = put_at cursor 0 o.next; len = put_at cursor len o.len; heads = o.heads }
after o (Greet partition) = record { next = o.next; len = o.len; heads = put_at partition 1 o.heads }
after o (Took cursor chunk) = record { next = put_at cursor (suc chunk) o.next; len = o.len; heads = o.heads }
after o (Admitted partition heads) = record { next = o.next; len = o.len; heads = put_at partition (suc heads) o.heads }
after o _ = o
