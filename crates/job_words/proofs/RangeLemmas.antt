-- What a command line means is in its ranges.
use Rattle.std.proofs.Common.{◌≡◌, ◌∙◌, ◌^◌, ◌+◌, ◌<◌, ◌≤◌, Bool, true, false, cond, ℕ, List, [], ◌∷◌, Option, Some, None, nat_le, find, slice_get, refl, sym, subst, arith, ltb-true, leb-true}
use Rattle.std.specs.List.{AllByRecursion}
use Rattle.std.specs.Int.{IsInRange}
use Rattle.std.specs.Option.{ForSome, option_map}
use Rattle.std.specs.Str.{bytes_eq}
use Rattle.graph_model.specs.declared.job.Job.{Job}
use Rattle.graph_model.specs.declared.job.Program.{Program}
use Rattle.graph_model.specs.EdgeText.{number}
use Rattle.graph_model.specs.Jobs.{IsWellFormedProgram, parts_of}
use Rattle.job_words.specs.declared.command.Command.{Command}
use Rattle.job_words.specs.declared.command.Command.TheVariants.{Run, Bench, Resume, Discard}
use Rattle.job_words.specs.Tables.{Text, vertex, between, ProgramRow, OptionRow, programs, engines_option, most_option, chunk_option, seed_option, alpha_option, limit_option, scale_option, edges_option, rng_option, vertices_option, command_word, program_word, argument_word}
use Rattle.graph_model.specs.Partitions.{MAX_PARTS}
use Rattle.std.proofs.Math.Nat.{pow-le-pow_right}
use Rattle.job_words.specs.Reading.{given_of, texts_of}
use Rattle.job_words.specs.Commands.{CommandRow, IsInRanges, IsNewJob, Texts, and_then, argument_given, bench_in, command_by, command_in, command_named, command_of, commands, discard_in, engines_of, gives_once, gives_only, resume_in, run_in, job_in, number_between, option_given, option_in, program_in, program_named, program_of}
use Rattle.std.specs.Prelude.{IfOk, Result}
use Rattle.std.specs.Option.{ok_or}
use Rattle.std.proofs.lemmas.Bool.{and_parts}
use Rattle.clap.specs.declared.parser.matches.ArgMatches.{ArgMatches}
use Rattle.job_words.specs.declared.command.WordFault.{WordFault}
use Rattle.job_words.specs.declared.command.WordFault.TheVariants.{Usage}
use Rattle.job_words.specs.Reader.{IsReadAs, texts_in}
use Rattle.job_words.proofs.GivenLemmas.{command_read}

-- ---- a value that is there

none_is_not : {X : Type 0} (x : X) → None ≡ Some x → ⊥
none_is_not x e = cc

-- the two steps of a value
some_of : {X Y : Type 0} (o : Option X) (f : X → Option Y) (y : Y) → and_then o f ≡ Some y → (x : X) × (o ≡ Some x) × (f x ≡ Some y)
some_of None f y e = absurd (none_is_not y e)
some_of (Some x) f y e = (x, refl, e)

mapped_of : {X Y : Type 0} (f : X → Y) (o : Option X) (y : Y) → option_map f o ≡ Some y → (x : X) × (o ≡ Some x) × (f x ≡ y)
mapped_of f None y e = absurd (none_is_not y e)
mapped_of f (Some x) y e = (x, refl, cc)

tested_of : {X : Type 0} (b : Bool) (x y : X) → cond b (Some x) None ≡ Some y → (b ≡ true) × (x ≡ y)
tested_of true x y e = (refl, cc)
tested_of false x y e = absurd (none_is_not y e)

-- ---- numbers

pub number_is_below : (bound : ℕ) (text : Text) (n : ℕ) → number bound text ≡ Some n → n < bound
unfolding number
number_is_below bound text n e =
    let test = tested_of _ _ n e in
    let parts = and_parts _ _ (and_parts _ _ test.0).1 in
    subst (λ (k : ℕ). k < bound) test.1 (ltb-true _ bound parts.1)

number_is_between : (least greatest : ℕ) (text : Text) (n : ℕ) → number_between least greatest text ≡ Some n → IsInRange least greatest n
number_is_between least greatest text n e =
    let found = some_of (number (greatest + 1) text) (λ k. cond (nat_le least k) (Some k) None) n e in
    let small : found.0 < greatest + 1 = number_is_below (greatest + 1) text found.0 found.1 in
    let test = tested_of (nat_le least found.0) found.0 n found.2 in
    let large : least ≤ found.0 = leb-true least found.0 test.0 in
    subst (λ (k : ℕ). IsInRange least greatest k) test.1 (large, omega arith)

option_is_between : (row : OptionRow) (text : Option Text) (n : ℕ) → ForSome row.default (IsInRange row.least row.greatest)
    → option_given row text ≡ Some n → IsInRange row.least row.greatest n
option_is_between row None n default e = by_default row.default default e
  where
    by_default : (o : Option ℕ) → ForSome o (IsInRange row.least row.greatest) → o ≡ Some n → IsInRange row.least row.greatest n
    by_default o default e = default n e
option_is_between row (Some text) n default e = number_is_between row.least row.greatest text n e

-- ---- programs

found_has : {X : Type 0} (P : X → Type 0) (p : X → Bool) (rows : List X) (row : X) → AllByRecursion P rows → find p rows ≡ Some row → P row
found_has P p [] row all e = absurd (none_is_not row e)
found_has P p (first ∷ rows) row all e = by_test (p first) all.0 (found_has P p rows row all.1) e
  where
    by_test : (b : Bool) → P first → (find p rows ≡ Some row → P row) → cond b (Some first) (find p rows) ≡ Some row → P row
    by_test true here later e = let same : first ≡ row = cc in subst P same here
    by_test false here later e = later e

-- the argument of a row makes a well-formed program
abbrev IsSoundRow : ProgramRow → Type 0
IsSoundRow row = (vertices n : ℕ) (text : Option Text) → argument_given row.argument vertices text ≡ Some n → IsWellFormedProgram vertices (row.program n)

vertex_below : (vertices n : ℕ) (text : Option Text) → argument_given vertex vertices text ≡ Some n → n < vertices
vertex_below vertices n None e = absurd (none_is_not n e)
vertex_below vertices n (Some text) e = number_is_below vertices text n e

rounds_between : (vertices n : ℕ) (text : Option Text) → argument_given (between 1 100000) vertices text ≡ Some n → IsInRange 1 100000 n
rounds_between vertices n None e = absurd (none_is_not n e)
rounds_between vertices n (Some text) e = number_is_between 1 100000 text n e

sound_rows : AllByRecursion IsSoundRow programs
sound_rows = (vertex_below, (λ vertices n text e. tt, (vertex_below, (λ vertices n text e. tt, (rounds_between, tt)))))

program_is_sound : (vertices : ℕ) (texts : Texts) (program : Program) → program_in vertices texts ≡ Some program → IsWellFormedProgram vertices program
program_is_sound vertices texts program e =
    let name = some_of (texts program_word.name) (λ name. program_of name vertices (texts argument_word.name)) program e in
    let row = some_of (program_named name.0) (λ row. option_map row.program (argument_given row.argument vertices (texts argument_word.name))) program name.2 in
    let made = mapped_of row.0.program (argument_given row.0.argument vertices (texts argument_word.name)) program row.2 in
    let sound = found_has IsSoundRow (λ (r : ProgramRow). bytes_eq r.name name.0) programs row.0 sound_rows row.1 in
    subst (IsWellFormedProgram vertices) made.2 (sound vertices made.0 (texts argument_word.name) made.1)

-- ---- jobs

abbrev InRow : OptionRow → ℕ → Type 0
InRow row n = IsInRange row.least row.greatest n

in_row : (row : OptionRow) (texts : Texts) (n : ℕ) → ForSome row.default (InRow row) → option_in row texts ≡ Some n → InRow row n
in_row row texts n default e = option_is_between row (texts row.name) n default e

default_in : (row : OptionRow) (d : ℕ) → row.default ≡ Some d → InRow row d → ForSome row.default (InRow row)
default_in row d is in_range k e = let same : Some d ≡ Some k = sym is ∙ e in let values : d ≡ k = cc in subst (InRow row) values in_range

no_default_in : (row : OptionRow) → row.default ≡ None → ForSome row.default (InRow row)
no_default_in row none k e = absurd (none_is_not k (sym none ∙ e))

abbrev job_made : Program → ℕ → ℕ → ℕ → ℕ → ℕ → ℕ → ℕ → Job
job_made program vertices engines most chunk seed alpha limit = record {
  program = program;
  vertices = vertices;
  engines = engines;
  most = most;
  chunk = chunk;
  seed = seed;
  alpha = alpha;
  limit = limit;
  format = 2;
  keep = 1;
}

-- a job on the graph of so many vertices
record IsNewJobOn (vertices : ℕ) (job : Job) : Type 0 where
  new : IsNewJob job
  vertices_are : job.vertices ≡ vertices

job_is_new : (vertices : ℕ) (texts : Texts) (job : Job) → vertices ≤ 67108864 → job_in vertices texts ≡ Some job → IsNewJobOn vertices job
job_is_new vertices texts job few e =
    let program = some_of (program_in vertices texts) _ job e in
    let engines = some_of (option_in engines_option texts) _ job program.2 in
    let most = some_of (option_in most_option texts) _ job engines.2 in
    let chunk = some_of (option_in chunk_option texts) _ job most.2 in
    let seed = some_of (option_in seed_option texts) _ job chunk.2 in
    let alpha = some_of (option_in alpha_option texts) _ job seed.2 in
    let limit = some_of (option_in limit_option texts) _ job alpha.2 in
    let made = tested_of (nat_le (parts_of (job_made program.0 vertices engines.0 most.0 chunk.0 seed.0 alpha.0 limit.0)) MAX_PARTS) _ job limit.2 in
    let seed_in = in_row seed_option texts seed.0 (default_in seed_option 1 refl (omega arith, omega arith)) seed.1 in
    let alpha_in = in_row alpha_option texts alpha.0 (default_in alpha_option 100 refl (omega arith, omega arith)) alpha.1 in
    subst (IsNewJobOn vertices) made.1 (record {
      new = record {
        well_formed = record {
          program = program_is_sound vertices texts program.0 program.1;
          vertices = few;
          engines = in_row engines_option texts engines.0 (default_in engines_option 1 refl (omega arith, omega arith)) engines.1;
          most = in_row most_option texts most.0 (default_in most_option 2097152 refl (omega arith, omega arith)) most.1;
          chunk = in_row chunk_option texts chunk.0 (default_in chunk_option 4096 refl (omega arith, omega arith)) chunk.1;
          seed = omega (arith, seed_in.1);
          alpha = alpha_in.1;
          limit = in_row limit_option texts limit.0 (default_in limit_option 100000 refl (omega arith, omega arith)) limit.1;
          format = (omega arith, omega arith);
          keep = refl;
          few_parts = leb-true _ _ made.0;
        };
        format = refl;
      };
      vertices_are = refl;
    })

-- ---- commands

guarded_of : {X : Type 0} (b : Bool) (o : Option X) (y : X) → cond b o None ≡ Some y → o ≡ Some y
guarded_of true o y e = e
guarded_of false o y e = absurd (none_is_not y e)

abbrev IsSoundCommand : CommandRow → Type 0
IsSoundCommand row = (texts : Texts) (command : Command) → row.command texts ≡ Some command → IsInRanges command

run_is_sound : (texts : Texts) (command : Command) → run_in texts ≡ Some command → IsInRanges command
run_is_sound texts command e =
    let vertices = some_of (option_in vertices_option texts) _ command e in
    let in_range = in_row vertices_option texts vertices.0 (no_default_in vertices_option refl) vertices.1 in
    let job = mapped_of _ (job_in vertices.0 texts) command vertices.2 in
    subst IsInRanges job.2 (job_is_new vertices.0 texts job.0 in_range.1 job.1).new

bench_is_sound : (texts : Texts) (command : Command) → bench_in texts ≡ Some command → IsInRanges command
bench_is_sound texts command e =
    let scale = some_of (option_in scale_option texts) _ command e in
    let edges = some_of (option_in edges_option texts) _ command scale.2 in
    let rng = some_of (option_in rng_option texts) _ command edges.2 in
    let scale_fits = in_row scale_option texts scale.0 (no_default_in scale_option refl) scale.1 in
    let edges_fit = in_row edges_option texts edges.0 (no_default_in edges_option refl) edges.1 in
    let rng_fits = in_row rng_option texts rng.0 (default_in rng_option 1 refl (omega arith, omega arith)) rng.1 in
    let power : 2 ^ scale.0 ≤ 2 ^ 22 = pow-le-pow_right (omega arith) scale_fits.1 in
    let job = mapped_of _ (job_in (2 ^ scale.0) texts) command rng.2 in
    let made = job_is_new (2 ^ scale.0) texts job.0 (omega arith) job.1 in
    subst IsInRanges job.2 (record {
      new = made.new;
      scale_fits = scale_fits.1;
      vertices = made.vertices_are;
      edges_fit = edges_fit.1;
      rng_fits = omega (arith, rng_fits.1);
    })

engines_fit : (texts : Texts) (engines : ℕ) → option_in engines_option texts ≡ Some engines → IsInRange 1 8 engines
engines_fit texts engines e = in_row engines_option texts engines (default_in engines_option 1 refl (omega arith, omega arith)) e

resume_is_sound : (texts : Texts) (command : Command) → resume_in texts ≡ Some command → IsInRanges command
resume_is_sound texts command e =
    let engines = mapped_of _ (option_in engines_option texts) command e in subst IsInRanges engines.2 (engines_fit texts engines.0 engines.1)

discard_is_sound : (texts : Texts) (command : Command) → discard_in texts ≡ Some command → IsInRanges command
discard_is_sound texts command e =
    let engines = mapped_of _ (option_in engines_option texts) command e in subst IsInRanges engines.2 (engines_fit texts engines.0 engines.1)

sound_commands : AllByRecursion IsSoundCommand commands
sound_commands = (run_is_sound, (bench_is_sound, (resume_is_sound, (discard_is_sound, tt))))

command_is_sound : (texts : Texts) (command : Command) → command_in texts ≡ Some command → IsInRanges command
command_is_sound texts command e =
    let name = some_of (texts command_word.name) _ command e in
    let row = some_of (command_named name.0) _ command name.2 in
    let sound = found_has IsSoundCommand (λ (r : CommandRow). bytes_eq r.name name.0) commands row.0 sound_commands row.1 in
    sound texts command (guarded_of (gives_only name.0 texts) (row.0.command texts) command row.2)

-- a command that words mean is in its ranges
meant_is_sound : (words : List Text) (command : Command) → command_of words ≡ Some command → IsInRanges command
meant_is_sound words command e =
    let given = some_of (given_of words) _ command e in
    let texts : Text → List Text = λ name. texts_of name given.0 in
    command_is_sound (λ name. slice_get (texts name) 0) command (guarded_of (gives_once texts) (command_in (λ name. slice_get (texts name) 0)) command given.2)

-- ---- what `job_of` answers

by_answer : (words : List Text) (o : Option Command) (r : Result Command WordFault) → command_of words ≡ o → r ≡ ok_or o Usage → IfOk r IsInRanges
by_answer words None r is answer = subst (λ (x : Result Command WordFault). IfOk x IsInRanges) (sym answer) tt
by_answer words (Some command) r is answer = subst (λ (x : Result Command WordFault). IfOk x IsInRanges) (sym answer) (meant_is_sound words command is)

pub answers_in_ranges : (words : List Text) (m : ArgMatches) (o : Option Command) (r : Result Command WordFault) → IsReadAs words m
    → o ≡ command_by (texts_in m) → r ≡ ok_or o Usage → IfOk r IsInRanges
answers_in_ranges words m o r read is answer = by_answer words o r (command_read words m read ∙ sym is) answer

-- a command in its ranges has few engines
pub few_engines : (command : Command) → IsInRanges command → engines_of (Some command) ≤ 8
few_engines (Run job report) in_ranges = in_ranges.well_formed.engines.1
few_engines (Bench job scale edges rng) in_ranges = in_ranges.new.well_formed.engines.1
few_engines (Resume engines report) in_ranges = in_ranges.1
few_engines (Discard engines) in_ranges = in_ranges.1
