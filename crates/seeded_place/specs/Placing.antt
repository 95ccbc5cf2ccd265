-- Where the chunks of a stream go: the engine of each is a word of ChaCha8, modulo the engines.
use Rattle.std.specs.Prelude.{◌≡◌, ℕ, ◌+◌, ◌*◌, ◌%◌, ◌==◌, List, ◌++◌, map, filter, replicate}
use Rattle.std.specs.Int.{w64, to_be_bytes}
use Rattle.std.specs.List.{enumerate_from}
use Rattle.rand_chacha.specs.ChaCha.{key_of, word_at}

-- the seed's eight bytes, the highest first, and 24 zero bytes
unfoldable pub placing_key : ℕ → List ℕ
placing_key seed = key_of (to_be_bytes w64 seed ++ replicate 24 0)

-- the engine of the k-th chunk of a stream, from 0: the k-th word, after four double rounds
unfoldable pub engine_of : ℕ → ℕ → ℕ → ℕ → ℕ
engine_of seed stream engines k = word_at 4 (placing_key seed) stream k % engines

-- the stream of the chunks of edges
abbrev pub edge_stream : ℕ
edge_stream = 0

-- the stream of the chunks of updates that a worker makes in an epoch
abbrev pub update_stream : ℕ → ℕ → ℕ
update_stream epoch worker = 1 + 8 * epoch + worker

-- the items of a stream, each beside its engine
abbrev pub placed : {X : Type 0} → ℕ → ℕ → ℕ → List X → List (ℕ × X)
placed {X} seed stream engines items =
    map (λ (numbered : ℕ × X). (engine_of seed stream engines numbered.0, numbered.1)) (enumerate_from 0 items)

-- those of one engine, in order
abbrev pub on_engine : {X : Type 0} → ℕ → List (ℕ × X) → List X
on_engine {X} engine pairs = map (λ (pair : ℕ × X). pair.1) (filter (λ (pair : ℕ × X). pair.0 == engine) pairs)

-- What contracts see of a placer.
pub record Placing : Type 0 where
  pub key : List ℕ
  pub stream : ℕ
  pub engines : ℕ
  -- the place of the next word
  pub place : ℕ

-- it has placed k chunks of this stream, and the next one is the k-th from 0
abbrev pub HasPlaced : (seed stream engines k : ℕ) → Placing → Type 0
HasPlaced seed stream engines k placer =
    placer ≡ record { key = placing_key seed; stream = stream; engines = engines; place = k }
