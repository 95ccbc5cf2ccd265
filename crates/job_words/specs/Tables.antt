-- The tables of the command line: what may be given to which command, under which name and in which range. One more
-- positional word, option, flag, program or command is one more row.
use Rattle.std.specs.Prelude.{ℕ, ◌^◌, ◌-◌, List, [], ◌∷◌, Bool, Option, Some, None, codes}
use Rattle.std.specs.List.{list_any}
use Rattle.std.specs.Str.{bytes_eq}
use Rattle.graph_model.specs.declared.job.Program.{Program}
use Rattle.graph_model.specs.declared.job.Program.TheVariants.{Bfs, Labels, Sssp, Degrees, PageRank}

-- the bytes of a word
abbrev pub Text : Type 0
Text = List ℕ

-- The names of the commands.
abbrev pub run : Text
run = codes "run"

abbrev pub bench : Text
bench = codes "bench"

abbrev pub resume : Text
resume = codes "resume"

abbrev pub drop : Text
drop = codes "drop"

abbrev pub is_among : Text → List Text → Bool
is_among command commands = list_any (λ other. bytes_eq other command) commands

-- Positional words, in order, each with the commands that have it.
pub record PositionRow : Type 0 where
  pub name : Text
  pub commands : List Text

abbrev pub command_word : PositionRow
command_word = record { name = codes "command"; commands = run ∷ bench ∷ resume ∷ drop ∷ [] }

abbrev pub program_word : PositionRow
program_word = record { name = codes "program"; commands = run ∷ bench ∷ [] }

abbrev pub argument_word : PositionRow
argument_word = record { name = codes "argument"; commands = run ∷ bench ∷ [] }

abbrev pub positions : List PositionRow
positions = command_word ∷ program_word ∷ argument_word ∷ []

-- Options, each with a number: its range, what it is where it is not given (None where it must be given), and the
-- commands that have it.
pub record OptionRow : Type 0 where
  pub name : Text
  pub least : ℕ
  pub greatest : ℕ
  pub default : Option ℕ
  pub commands : List Text

abbrev option_row : Text → ℕ → ℕ → Option ℕ → List Text → OptionRow
option_row name least greatest default commands =
    record { name = name; least = least; greatest = greatest; default = default; commands = commands }

abbrev pub vertices_option : OptionRow
vertices_option = option_row (codes "vertices") 0 67108864 None (run ∷ [])

abbrev pub engines_option : OptionRow
engines_option = option_row (codes "engines") 1 8 (Some 1) (run ∷ bench ∷ resume ∷ drop ∷ [])

abbrev pub most_option : OptionRow
most_option = option_row (codes "most") 1 67108864 (Some 2097152) (run ∷ bench ∷ [])

abbrev pub chunk_option : OptionRow
chunk_option = option_row (codes "chunk") 1 65536 (Some 4096) (run ∷ bench ∷ [])

abbrev pub seed_option : OptionRow
seed_option = option_row (codes "seed") 0 (2 ^ 64 - 1) (Some 1) (run ∷ bench ∷ [])

abbrev pub alpha_option : OptionRow
alpha_option = option_row (codes "alpha") 0 10000 (Some 100) (run ∷ bench ∷ [])

abbrev pub limit_option : OptionRow
limit_option = option_row (codes "limit") 1 1000000 (Some 100000) (run ∷ bench ∷ [])

abbrev pub scale_option : OptionRow
scale_option = option_row (codes "scale") 0 22 None (bench ∷ [])

abbrev pub edges_option : OptionRow
edges_option = option_row (codes "edges") 0 268435456 None (bench ∷ [])

abbrev pub rng_option : OptionRow
rng_option = option_row (codes "rng") 0 (2 ^ 64 - 1) (Some 1) (bench ∷ [])

abbrev pub options : List OptionRow
options = vertices_option ∷ engines_option ∷ most_option ∷ chunk_option ∷ seed_option ∷ alpha_option ∷ limit_option
    ∷ scale_option ∷ edges_option ∷ rng_option ∷ []

-- Flags, each with the commands that have it.
pub record FlagRow : Type 0 where
  pub name : Text
  pub commands : List Text

abbrev pub report_flag : FlagRow
report_flag = record { name = codes "report"; commands = run ∷ resume ∷ [] }

abbrev pub flags : List FlagRow
flags = report_flag ∷ []

-- Programs, each with its argument.
-- `absent`                   it has none
-- `vertex`                   a number below the number of vertices
-- `between least greatest`   a number of this range
pub data Argument : Type 0 where
  absent : Argument
  vertex : Argument
  between : ℕ → ℕ → Argument

pub record ProgramRow : Type 0 where
  pub name : Text
  pub argument : Argument
  pub program : ℕ → Program

abbrev program_row : Text → Argument → (ℕ → Program) → ProgramRow
program_row name argument program = record { name = name; argument = argument; program = program }

abbrev pub programs : List ProgramRow
programs =
    program_row (codes "bfs") vertex Bfs
    ∷ program_row (codes "labels") absent (λ _. Labels)
    ∷ program_row (codes "sssp") vertex Sssp
    ∷ program_row (codes "degrees") absent (λ _. Degrees)
    ∷ program_row (codes "pagerank") (between 1 100000) PageRank
    ∷ []
