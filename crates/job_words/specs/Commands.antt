-- What a command line means: the command, with the ranges, the defaults and the cap on partitions.
use Rattle.std.specs.Prelude.{◌≡◌, ◌<◌, ◌≤◌, ℕ, ◌+◌, ◌^◌, List, [], ◌∷◌, Bool, ◌&&◌, ◌||◌, nat_le, length, find, if◌then◌else◌, Option, Some, None, is_some, is_none, option_and_then, slice_get}
use Rattle.std.specs.Int.{IsInRange}
use Rattle.std.specs.List.{list_all}
use Rattle.std.specs.Option.{option_map}
use Rattle.std.specs.Str.{bytes_eq}
use Rattle.graph_model.specs.declared.job.Job.{Job}
use Rattle.graph_model.specs.declared.job.Program.{Program}
use Rattle.graph_model.specs.EdgeText.{number}
use Rattle.graph_model.specs.Jobs.{IsWellFormedJob, parts_of}
use Rattle.graph_model.specs.Partitions.{MAX_PARTS}
use Rattle.job_words.specs.declared.command.Command.{Command}
use Rattle.job_words.specs.declared.command.Command.TheVariants.{Run, Bench, Resume, Discard}
use Rattle.job_words.specs.Tables.{Text, PositionRow, OptionRow, FlagRow, ProgramRow, Argument, absent, vertex, between, positions, options, flags, programs, command_word, program_word, argument_word, run, bench, resume, drop, vertices_option, engines_option, most_option, chunk_option, seed_option, alpha_option, limit_option, scale_option, edges_option, rng_option, report_flag, is_among}
use Rattle.job_words.specs.Reading.{given_of, texts_of}

-- the text of each name that was given
abbrev pub Texts : Type 0
Texts = Text → Option Text

-- `value.and_then(next)`
abbrev pub and_then : {X Y : Type 0} → Option X → (X → Option Y) → Option Y
and_then value next = option_and_then next value

-- A number, in decimal digits alone.
abbrev pub number_between : ℕ → ℕ → Text → Option ℕ
number_between least greatest text =
    and_then (number (greatest + 1) text) (λ found. if nat_le least found then Some found else None)

-- The number of an option, and whether a flag was given.
abbrev pub option_given : OptionRow → Option Text → Option ℕ
option_given row None = row.default
option_given row (Some text) = number_between row.least row.greatest text

abbrev pub option_in : OptionRow → Texts → Option ℕ
option_in row texts = option_given row (texts row.name)

abbrev pub flag_in : FlagRow → Texts → Bool
flag_in row texts = is_some (texts row.name)

-- The program, with its argument.
abbrev pub argument_given : Argument → ℕ → Option Text → Option ℕ
argument_given absent vertices None = Some 0
argument_given absent vertices (Some text) = None
argument_given vertex vertices None = None
argument_given vertex vertices (Some text) = number vertices text
argument_given (between least greatest) vertices None = None
argument_given (between least greatest) vertices (Some text) = number_between least greatest text

abbrev pub program_named : Text → Option ProgramRow
program_named name = find (λ (row : ProgramRow). bytes_eq row.name name) programs

-- the program of a name, for a graph of so many vertices and the text of an argument
abbrev pub program_of : Text → ℕ → Option Text → Option Program
program_of name vertices argument =
    and_then (program_named name) (λ row. option_map row.program (argument_given row.argument vertices argument))

abbrev pub program_in : ℕ → Texts → Option Program
program_in vertices texts =
    and_then (texts program_word.name) (λ name. program_of name vertices (texts argument_word.name))

-- A job, which has no more partitions than there may be.
abbrev pub few_parts : Job → Option Job
few_parts job = if nat_le (parts_of job) MAX_PARTS then Some job else None

abbrev pub job_in : ℕ → Texts → Option Job
job_in vertices texts =
    and_then (program_in vertices texts) (λ program.
    and_then (option_in engines_option texts) (λ engines.
    and_then (option_in most_option texts) (λ most.
    and_then (option_in chunk_option texts) (λ chunk.
    and_then (option_in seed_option texts) (λ seed.
    and_then (option_in alpha_option texts) (λ alpha.
    and_then (option_in limit_option texts) (λ limit.
    few_parts (record {
      program = program;
      vertices = vertices;
      engines = engines;
      most = most;
      chunk = chunk;
      seed = seed;
      alpha = alpha;
      limit = limit;
      format = 2;
      keep = 1;
    }))))))))

-- The commands.
abbrev pub run_in : Texts → Option Command
run_in texts =
    and_then (option_in vertices_option texts) (λ vertices.
    option_map (λ job. Run job (flag_in report_flag texts)) (job_in vertices texts))

abbrev pub bench_in : Texts → Option Command
bench_in texts =
    and_then (option_in scale_option texts) (λ scale.
    and_then (option_in edges_option texts) (λ edges.
    and_then (option_in rng_option texts) (λ rng.
    option_map (λ job. Bench job scale edges rng) (job_in (2 ^ scale) texts))))

abbrev pub resume_in : Texts → Option Command
resume_in texts = option_map (λ engines. Resume engines (flag_in report_flag texts)) (option_in engines_option texts)

abbrev pub discard_in : Texts → Option Command
discard_in texts = option_map (λ engines. Discard engines) (option_in engines_option texts)

pub record CommandRow : Type 0 where
  pub name : Text
  pub command : Texts → Option Command

abbrev command_row : Text → (Texts → Option Command) → CommandRow
command_row name command = record { name = name; command = command }

abbrev pub commands : List CommandRow
commands = command_row run run_in ∷ command_row bench bench_in ∷ command_row resume resume_in ∷ command_row drop discard_in ∷ []

abbrev pub command_named : Text → Option CommandRow
command_named name = find (λ (row : CommandRow). bytes_eq row.name name) commands

-- nothing was given that the command has not
abbrev pub has_or_lacks : Text → Texts → List Text → Text → Bool
has_or_lacks command texts commands name = is_among command commands || is_none (texts name)

abbrev pub gives_only : Text → Texts → Bool
gives_only command texts =
    list_all (λ (row : PositionRow). has_or_lacks command texts row.commands row.name) positions
    && (list_all (λ (row : OptionRow). has_or_lacks command texts row.commands row.name) options
    && list_all (λ (row : FlagRow). has_or_lacks command texts row.commands row.name) flags)

abbrev pub command_in : Texts → Option Command
command_in texts =
    and_then (texts command_word.name) (λ name.
    and_then (command_named name) (λ row.
    if gives_only name texts then row.command texts else None))

-- no option and no flag was given twice
abbrev pub is_once : List Text → Bool
is_once texts = nat_le (length texts) 1

abbrev pub gives_once : (Text → List Text) → Bool
gives_once texts =
    list_all (λ (row : OptionRow). is_once (texts row.name)) options
    && list_all (λ (row : FlagRow). is_once (texts row.name)) flags

-- the command of the texts that each name was given
abbrev pub command_by : (Text → List Text) → Option Command
command_by texts = if gives_once texts then command_in (λ name. slice_get (texts name) 0) else None

-- **The command that the words of a command line mean; None where they are refused.**
abbrev pub command_of : List Text → Option Command
command_of words = and_then (given_of words) (λ given. command_by (λ name. texts_of name given))

-- the engines of a command; no command has none
abbrev pub engines_of : Option Command → ℕ
engines_of (Some (Run job report)) = job.engines
engines_of (Some (Bench job scale edges rng)) = job.engines
engines_of (Some (Resume engines report)) = engines
engines_of (Some (Discard engines)) = engines
engines_of None = 0

-- What holds of each command that words mean.
pub record IsNewJob (job : Job) : Type 0 where
  pub well_formed : IsWellFormedJob job
  pub format : job.format ≡ 2

pub record IsBenchOf (job : Job) (scale edges rng : ℕ) : Type 0 where
  pub new : IsNewJob job
  pub scale_fits : scale ≤ 22
  pub vertices : job.vertices ≡ 2 ^ scale
  pub edges_fit : edges ≤ 268435456
  pub rng_fits : rng < 2 ^ 64

abbrev pub IsInRanges : Command → Type 0
IsInRanges (Run job report) = IsNewJob job
IsInRanges (Bench job scale edges rng) = IsBenchOf job scale edges rng
IsInRanges (Resume engines report) = IsInRange 1 8 engines
IsInRanges (Discard engines) = IsInRange 1 8 engines
