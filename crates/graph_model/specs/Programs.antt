-- The programs, as rules over whole numbers.
use Rattle.std.specs.Prelude.{ℕ, ◌+◌, ◌-◌, ◌*◌, ◌/◌, ◌^◌, Bool, true, false, ◌==◌, if◌then◌else◌, Option, Some, None, min}
use Rattle.graph_model.specs.declared.value.Value.{Value}
use Rattle.graph_model.specs.declared.job.Program.{Program}
use Rattle.graph_model.specs.declared.job.Program.TheVariants.{Bfs, Labels, Sssp, Degrees, PageRank}

-- a number that was not reached
abbrev pub NONE : ℕ
NONE = 2 ^ 64 - 1

-- no sum is greater
abbrev pub CAP : ℕ
CAP = 2 ^ 60

-- the capped sum
abbrev pub plus : ℕ → ℕ → ℕ
plus a b = min (a + b) CAP

-- What a program does:
-- start v out      the value of vertex v, with so many edges out of it, in round 0
-- send value w     what an edge of weight w sends from a vertex of that value, if it sends
-- unit, merge      how what was sent to one vertex becomes a sum
-- fold             merge, where one update more is taken into a sum
-- next value sum   the value of the next round
-- counts           start uses the number of edges
-- rounds           the fixed number of rounds, if there is one
-- absorbs          an update that was merged in the last round has no effect when it comes again
pub record Rules : Type 0 where
  pub start : ℕ → ℕ → Value
  pub send : Value → ℕ → Option ℕ
  pub unit : ℕ
  pub merge : ℕ → ℕ → ℕ
  pub fold : ℕ → ℕ → ℕ
  pub next : Value → ℕ → Value
  pub counts : Bool
  pub rounds : Option ℕ
  pub absorbs : Bool

-- nothing is reached in round 0 but the root
abbrev pub from_root : ℕ → ℕ → ℕ → Value
from_root root v out = record { main = if v == root then 0 else NONE; side = 0 }

abbrev pub keep_least : Value → ℕ → Value
keep_least value sum = record { main = min value.main sum; side = value.side }

-- what was reached sends its number and a step
abbrev pub send_further : Value → ℕ → Option ℕ
send_further value step = if value.main == NONE then None else Some (plus value.main step)

abbrev pub bfs : ℕ → Rules
bfs root = record {
  start = from_root root;
  send = λ value weight. send_further value 1;
  unit = NONE;
  merge = min;
  fold = min;
  next = keep_least;
  counts = false;
  rounds = None;
  absorbs = true;
}

abbrev pub labels : Rules
labels = record {
  start = λ v out. record { main = v; side = 0 };
  send = λ value weight. Some value.main;
  unit = NONE;
  merge = min;
  fold = min;
  next = keep_least;
  counts = false;
  rounds = None;
  absorbs = true;
}

abbrev pub sssp : ℕ → Rules
sssp root = record {
  start = from_root root;
  send = send_further;
  unit = NONE;
  merge = min;
  fold = min;
  next = keep_least;
  counts = false;
  rounds = None;
  absorbs = true;
}

abbrev pub degrees : Rules
degrees = record {
  start = λ v out. record { main = 0; side = out };
  send = λ value weight. Some 1;
  unit = 0;
  merge = plus;
  fold = plus;
  next = λ value sum. record { main = sum; side = value.side };
  counts = true;
  rounds = Some 1;
  absorbs = false;
}

abbrev pub pagerank : ℕ → Rules
pagerank rounds = record {
  start = λ v out. record { main = 1000000; side = out };
  send = λ value weight. if value.side == 0 then None else Some (value.main / value.side);
  unit = 0;
  merge = plus;
  fold = plus;
  next = λ value sum. record { main = 150000 + 85 * sum / 100; side = value.side };
  counts = true;
  rounds = Some rounds;
  absorbs = false;
}

abbrev pub rules_of : Program → Rules
rules_of (Bfs root) = bfs root
rules_of Labels = labels
rules_of (Sssp root) = sssp root
rules_of Degrees = degrees
rules_of (PageRank rounds) = pagerank rounds

-- each line gives an edge in both directions
abbrev pub takes_both_directions : Program → Bool
takes_both_directions Labels = true
takes_both_directions _ = false

-- the answer shows both numbers of a value
abbrev pub shows_side : Program → Bool
shows_side Degrees = true
shows_side _ = false
