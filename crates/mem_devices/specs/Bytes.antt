-- A write, also where the bytes end before its place.
use Rattle.std.specs.Prelude.{ℕ, ◌+◌, ◌-◌, List, ◌++◌, length, take, drop, replicate}

-- a piece over the bytes at a place, behind zero bytes where they end before it
abbrev pub overlay : ℕ → List ℕ → List ℕ → List ℕ
overlay at piece bytes = take at bytes ++ replicate (at - length bytes) 0 ++ piece ++ drop (at + length piece) bytes
