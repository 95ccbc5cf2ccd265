-- The words that a text is drawn with: those of ChaCha8, four double rounds, in order.
use Rattle.std.specs.Prelude.{ℕ, List, ◌++◌, replicate}
use Rattle.std.specs.Int.{w64, to_be_bytes}
use Rattle.rand_chacha.specs.ChaCha.{key_of, word_at}

-- the number's eight bytes, the highest first, and 24 zero bytes
unfoldable pub text_key : ℕ → List ℕ
text_key rng = key_of (to_be_bytes w64 rng ++ replicate 24 0)

-- the word at a place of stream 0
unfoldable pub word_of : List ℕ → ℕ → ℕ
word_of key place = word_at 4 key 0 place

-- What contracts see of words to be drawn.
pub record Drawn : Type 0 where
  pub key : List ℕ
  -- the place of the next word
  pub place : ℕ
