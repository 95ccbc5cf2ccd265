-- The head of a graph device of a job, field by field: it is well formed, and says the job.
use Rattle.std.proofs.Common.{◌≡◌, ◌∙◌, ℕ, ◌^◌, ◌<◌, ◌≤◌, ◌==◌, ◌&&◌, ◌||◌, not, nat_le, Bool, true, false, if◌then◌else◌, List, [], ◌∷◌, ◌++◌, Some, None, refl, sym, ap, subst, arith}
use Rattle.std.specs.Int.{to_be_bytes, from_be_bytes, w16, w64}
use Rattle.std.proofs.lemmas.Nat.{from_be_bytes-to_be_bytes_8}
use Rattle.std.proofs.lemmas.Bool.{eq-eqb, le-leb, lt-ltb}
use Rattle.graph_model.specs.declared.job.Job.{Job}
use Rattle.graph_model.specs.declared.job.Program.{Program}
use Rattle.graph_model.specs.declared.job.Program.TheVariants as program
use Rattle.graph_model.specs.Partitions.{part_count}
use Rattle.graph_model.specs.Jobs.{IsWellFormedJob, IsWellFormedProgram, most_vertices, parts_of}
use Rattle.store_model.specs.declared.field.Field.{Field}
use Rattle.store_model.specs.declared.field.Field.TheVariants.{Format, Engines, Engine, Program as ProgramField, Zero, Keep, Argument, Vertices, Most, Chunk as ChunkSize, Seed, Alpha, Limit, Mark}
use Rattle.store_model.specs.Heads.{head, front, program_number, argument}
use Rattle.store_model.specs.Damage.{value_of, parts_in, within, is_argument, is_good, is_same, first_bad, place_of}
use Rattle.store_checks.specs.Jobs.{SaysJob}

-- a head whose keep has these two bytes
plain : (first second : ℕ) → Job → (e : ℕ) → List ℕ
plain first second job e =
    (165 ∷ job.format ∷ job.engines ∷ e ∷ program_number job.program ∷ 0 ∷ first ∷ second ∷ [])
    ++ to_be_bytes w64 (argument job.program)
    ++ to_be_bytes w64 job.vertices
    ++ to_be_bytes w64 job.most
    ++ to_be_bytes w64 job.chunk
    ++ to_be_bytes w64 job.seed
    ++ to_be_bytes w64 job.alpha
    ++ to_be_bytes w64 job.limit
    ++ 71 ∷ []

-- the number in each field
abbrev number_of : Job → (e keep : ℕ) → Field → ℕ
number_of job e keep Format = job.format
number_of job e keep Engines = job.engines
number_of job e keep Engine = e
number_of job e keep ProgramField = program_number job.program
number_of job e keep Zero = 0
number_of job e keep Keep = keep
number_of job e keep Argument = argument job.program
number_of job e keep Vertices = job.vertices
number_of job e keep Most = job.most
number_of job e keep ChunkSize = job.chunk
number_of job e keep Seed = job.seed
number_of job e keep Alpha = job.alpha
number_of job e keep Limit = job.limit
number_of job e keep Mark = 71

small_argument : (vertices : ℕ) (p : Program) → vertices ≤ 67108864 → IsWellFormedProgram vertices p → argument p < 2 ^ 64
small_argument vertices (program.Bfs root) few well = omega (arith, few, well)
small_argument vertices program.Labels few well = omega arith
small_argument vertices (program.Sssp root) few well = omega (arith, few, well)
small_argument vertices program.Degrees few well = omega arith
small_argument vertices (program.PageRank rounds) few well = omega (arith, well.1)

pub few_vertices : (job : Job) → IsWellFormedJob job → job.vertices ≤ 67108864
few_vertices job well = by_format (job.format == 1) refl
  where
    by_format : (first : Bool) → (job.format == 1) ≡ first → job.vertices ≤ 67108864
    by_format true is = let few : job.vertices ≤ 4194304 = subst (λ b. job.vertices ≤ (if b then 4194304 else 67108864)) is well.vertices in omega (arith, few)
    by_format false is = subst (λ b. job.vertices ≤ (if b then 4194304 else 67108864)) is well.vertices

plain_says : (first second keep : ℕ) (job : Job) (e : ℕ) → IsWellFormedJob job → from_be_bytes w16 (first ∷ second ∷ []) ≡ keep → (f : Field) → value_of f (plain first second job e) ≡ number_of job e keep f
unfolding plain
plain_says first second keep job e well is Format = refl
plain_says first second keep job e well is Engines = refl
plain_says first second keep job e well is Engine = refl
plain_says first second keep job e well is ProgramField = refl
plain_says first second keep job e well is Zero = refl
plain_says first second keep job e well is Keep = is
plain_says first second keep job e well is Argument = from_be_bytes-to_be_bytes_8 (argument job.program) (small_argument job.vertices job.program (few_vertices job well) well.program)
plain_says first second keep job e well is Vertices = from_be_bytes-to_be_bytes_8 job.vertices (omega (arith, few_vertices job well))
plain_says first second keep job e well is Most = from_be_bytes-to_be_bytes_8 job.most (omega (arith, well.most.1))
plain_says first second keep job e well is ChunkSize = from_be_bytes-to_be_bytes_8 job.chunk (omega (arith, well.chunk.1))
plain_says first second keep job e well is Seed = from_be_bytes-to_be_bytes_8 job.seed well.seed
plain_says first second keep job e well is Alpha = from_be_bytes-to_be_bytes_8 job.alpha (omega (arith, well.alpha))
plain_says first second keep job e well is Limit = from_be_bytes-to_be_bytes_8 job.limit (omega (arith, well.limit.1))
plain_says first second keep job e well is Mark = refl

plain_1 : (job : Job) (e : ℕ) → (job.format == 1) ≡ true → head 165 job e ≡ plain 0 0 job e
unfolding plain front
plain_1 job e is = rw is refl

plain_2 : (job : Job) (e : ℕ) → (job.format == 1) ≡ false → job.keep ≡ 1 → head 165 job e ≡ plain 0 1 job e
unfolding plain front
plain_2 job e is keep = rw (is, keep) refl

abbrev pub keep_in : Job → ℕ
keep_in job = if job.format == 1 then 0 else 1

-- **The number in each field of a job's head.**
pub head_says : (job : Job) (e : ℕ) → IsWellFormedJob job → (f : Field) → value_of f (head 165 job e) ≡ number_of job e (keep_in job) f
head_says job e well f = by_format (job.format == 1) refl
  where
    by_format : (first : Bool) → (job.format == 1) ≡ first → value_of f (head 165 job e) ≡ number_of job e (keep_in job) f
    by_format true is =
        ap (value_of f) (plain_1 job e is) ∙ plain_says 0 0 0 job e well refl f
        ∙ sym (ap (λ b. number_of job e (if b then 0 else 1) f) is)
    by_format false is =
        ap (value_of f) (plain_2 job e is well.keep) ∙ plain_says 0 1 1 job e well refl f
        ∙ sym (ap (λ b. number_of job e (if b then 0 else 1) f) is)

-- Each field is well formed.
inside : (low high x : ℕ) → low ≤ x → x ≤ high → within low high x ≡ true
inside low high x from to = ap (λ b. b && nat_le x high) (le-leb low x from) ∙ le-leb x high to

few_programs : (p : Program) → program_number p ≤ 4
few_programs (program.Bfs root) = omega arith
few_programs program.Labels = omega arith
few_programs (program.Sssp root) = omega arith
few_programs program.Degrees = omega arith
few_programs (program.PageRank rounds) = omega arith

good_argument : (vertices : ℕ) (p : Program) → IsWellFormedProgram vertices p → is_argument (program_number p) vertices (argument p) ≡ true
good_argument vertices (program.Bfs root) well = lt-ltb root vertices well
good_argument vertices program.Labels well = refl
good_argument vertices (program.Sssp root) well = lt-ltb root vertices well
good_argument vertices program.Degrees well = refl
good_argument vertices (program.PageRank rounds) well = inside 1 100000 rounds well.0 well.1

pub parts_said : (job : Job) (e : ℕ) → IsWellFormedJob job → parts_in (head 165 job e) ≡ parts_of job
parts_said job e well =
    ap (λ v. part_count v (value_of Engines (head 165 job e)) (value_of Most (head 165 job e))) (head_says job e well Vertices)
    ∙ ap (λ n. part_count job.vertices n (value_of Most (head 165 job e))) (head_says job e well Engines)
    ∙ ap (λ m. part_count job.vertices job.engines m) (head_says job e well Most)

zeros : (first : Bool) → (not first || ((if first then 0 else 1) == 0)) ≡ true
zeros true = refl
zeros false = refl

kept_by : (first : Bool) → (first || ((if first then 0 else 1) == 1)) ≡ true
kept_by true = refl
kept_by false = refl

pub field_is_good : (job : Job) (e : ℕ) → IsWellFormedJob job → (f : Field) → is_good e (head 165 job e) f ≡ true
field_is_good job e well Format = ap (within 1 2) (head_says job e well Format) ∙ inside 1 2 job.format well.format.0 well.format.1
field_is_good job e well Engines = ap (within 1 8) (head_says job e well Engines) ∙ inside 1 8 job.engines well.engines.0 well.engines.1
field_is_good job e well Engine = eq-eqb (value_of Engine (head 165 job e)) e (head_says job e well Engine)
field_is_good job e well ProgramField = ap (λ n. nat_le n 4) (head_says job e well ProgramField) ∙ le-leb (program_number job.program) 4 (few_programs job.program)
field_is_good job e well Zero =
    ap (λ n. (n == 0) && (not (value_of Format (head 165 job e) == 1) || (value_of Keep (head 165 job e) == 0))) (head_says job e well Zero)
    ∙ ap (λ n. not (n == 1) || (value_of Keep (head 165 job e) == 0)) (head_says job e well Format)
    ∙ ap (λ n. not (job.format == 1) || (n == 0)) (head_says job e well Keep)
    ∙ zeros (job.format == 1)
field_is_good job e well Keep =
    ap (λ n. (n == 1) || (value_of Keep (head 165 job e) == 1)) (head_says job e well Format)
    ∙ ap (λ n. (job.format == 1) || (n == 1)) (head_says job e well Keep)
    ∙ kept_by (job.format == 1)
field_is_good job e well Argument =
    ap (λ n. is_argument n (value_of Vertices (head 165 job e)) (value_of Argument (head 165 job e))) (head_says job e well ProgramField)
    ∙ ap (λ n. is_argument (program_number job.program) n (value_of Argument (head 165 job e))) (head_says job e well Vertices)
    ∙ ap (λ n. is_argument (program_number job.program) job.vertices n) (head_says job e well Argument)
    ∙ good_argument job.vertices job.program well.program
field_is_good job e well Vertices =
    ap (λ n. nat_le n (most_vertices (value_of Format (head 165 job e)))) (head_says job e well Vertices)
    ∙ ap (λ n. nat_le job.vertices (most_vertices n)) (head_says job e well Format)
    ∙ le-leb job.vertices (most_vertices job.format) well.vertices
field_is_good job e well Most =
    ap (λ n. within 1 67108864 n && nat_le (parts_in (head 165 job e)) 64) (head_says job e well Most)
    ∙ ap (λ n. within 1 67108864 job.most && nat_le n 64) (parts_said job e well)
    ∙ ap (λ b. b && nat_le (parts_of job) 64) (inside 1 67108864 job.most well.most.0 well.most.1)
    ∙ le-leb (parts_of job) 64 well.few_parts
field_is_good job e well ChunkSize = ap (within 1 65536) (head_says job e well ChunkSize) ∙ inside 1 65536 job.chunk well.chunk.0 well.chunk.1
field_is_good job e well Seed = refl
field_is_good job e well Alpha = ap (λ n. nat_le n 10000) (head_says job e well Alpha) ∙ le-leb job.alpha 10000 well.alpha
field_is_good job e well Limit = ap (within 1 1000000) (head_says job e well Limit) ∙ inside 1 1000000 job.limit well.limit.0 well.limit.1
field_is_good job e well Mark = ap (λ n. n == 71) (head_says job e well Mark)

-- And is as in the first head.
same_number : (job : Job) (d e : ℕ) → IsWellFormedJob job → (f : Field) → number_of job e (keep_in job) f ≡ number_of job d (keep_in job) f → (value_of f (head 165 job e) == value_of f (head 165 job d)) ≡ true
same_number job d e well f same =
    eq-eqb (value_of f (head 165 job e)) (value_of f (head 165 job d)) (head_says job e well f ∙ same ∙ sym (head_says job d well f))

pub field_is_same : (job : Job) (d e : ℕ) → IsWellFormedJob job → (f : Field) → is_same (head 165 job d) (head 165 job e) f ≡ true
field_is_same job d e well Format = same_number job d e well Format refl
field_is_same job d e well Engines = same_number job d e well Engines refl
field_is_same job d e well Engine = refl
field_is_same job d e well ProgramField = same_number job d e well ProgramField refl
field_is_same job d e well Zero = same_number job d e well Zero refl
field_is_same job d e well Keep = same_number job d e well Keep refl
field_is_same job d e well Argument = same_number job d e well Argument refl
field_is_same job d e well Vertices = same_number job d e well Vertices refl
field_is_same job d e well Most = same_number job d e well Most refl
field_is_same job d e well ChunkSize = same_number job d e well ChunkSize refl
field_is_same job d e well Seed = same_number job d e well Seed refl
field_is_same job d e well Alpha = same_number job d e well Alpha refl
field_is_same job d e well Limit = same_number job d e well Limit refl
field_is_same job d e well Mark = same_number job d e well Mark refl

-- **No field fails.**
pub none_bad : (test : Field → Bool) (fields : List Field) → ((f : Field) → test f ≡ true) → first_bad test fields ≡ None
none_bad test [] all = refl
none_bad test (field ∷ fields) all = ap (λ b. if b then first_bad test fields else Some (place_of field)) (all field) ∙ none_bad test fields all

-- **It says the job, and no other.**
same_program : (p q : Program) → program_number p ≡ program_number q → argument p ≡ argument q → p ≡ q
same_program (program.Bfs r) (program.Bfs s) n a = ap program.Bfs a
same_program (program.Bfs r) program.Labels n a = absurd (omega (arith, n))
same_program (program.Bfs r) (program.Sssp s) n a = absurd (omega (arith, n))
same_program (program.Bfs r) program.Degrees n a = absurd (omega (arith, n))
same_program (program.Bfs r) (program.PageRank s) n a = absurd (omega (arith, n))
same_program program.Labels (program.Bfs s) n a = absurd (omega (arith, n))
same_program program.Labels program.Labels n a = refl
same_program program.Labels (program.Sssp s) n a = absurd (omega (arith, n))
same_program program.Labels program.Degrees n a = absurd (omega (arith, n))
same_program program.Labels (program.PageRank s) n a = absurd (omega (arith, n))
same_program (program.Sssp r) (program.Bfs s) n a = absurd (omega (arith, n))
same_program (program.Sssp r) program.Labels n a = absurd (omega (arith, n))
same_program (program.Sssp r) (program.Sssp s) n a = ap program.Sssp a
same_program (program.Sssp r) program.Degrees n a = absurd (omega (arith, n))
same_program (program.Sssp r) (program.PageRank s) n a = absurd (omega (arith, n))
same_program program.Degrees (program.Bfs s) n a = absurd (omega (arith, n))
same_program program.Degrees program.Labels n a = absurd (omega (arith, n))
same_program program.Degrees (program.Sssp s) n a = absurd (omega (arith, n))
same_program program.Degrees program.Degrees n a = refl
same_program program.Degrees (program.PageRank s) n a = absurd (omega (arith, n))
same_program (program.PageRank r) (program.Bfs s) n a = absurd (omega (arith, n))
same_program (program.PageRank r) program.Labels n a = absurd (omega (arith, n))
same_program (program.PageRank r) (program.Sssp s) n a = absurd (omega (arith, n))
same_program (program.PageRank r) program.Degrees n a = absurd (omega (arith, n))
same_program (program.PageRank r) (program.PageRank s) n a = ap program.PageRank a

made_job : Program → (vertices engines most chunk seed alpha limit format keep : ℕ) → Job
made_job p vertices engines most chunk seed alpha limit format keep =
    record { program = p; vertices = vertices; engines = engines; most = most; chunk = chunk; seed = seed; alpha = alpha; limit = limit; format = format; keep = keep }

pub same_job : (job found : Job) (e : ℕ) → IsWellFormedJob job → SaysJob (head 165 job e) found → found ≡ job
unfolding made_job
same_job job found e well says =
    ap (λ p. made_job p found.vertices found.engines found.most found.chunk found.seed found.alpha found.limit found.format found.keep)
    (same_program found.program job.program (says.program ∙ head_says job e well ProgramField) (says.argument_is ∙ head_says job e well Argument))
    ∙ ap (λ n. made_job job.program n found.engines found.most found.chunk found.seed found.alpha found.limit found.format found.keep) (says.vertices ∙ head_says job e well Vertices)
    ∙ ap (λ n. made_job job.program job.vertices n found.most found.chunk found.seed found.alpha found.limit found.format found.keep) (says.engines ∙ head_says job e well Engines)
    ∙ ap (λ n. made_job job.program job.vertices job.engines n found.chunk found.seed found.alpha found.limit found.format found.keep) (says.most ∙ head_says job e well Most)
    ∙ ap (λ n. made_job job.program job.vertices job.engines job.most n found.seed found.alpha found.limit found.format found.keep) (says.chunk ∙ head_says job e well ChunkSize)
    ∙ ap (λ n. made_job job.program job.vertices job.engines job.most job.chunk n found.alpha found.limit found.format found.keep) (says.seed ∙ head_says job e well Seed)
    ∙ ap (λ n. made_job job.program job.vertices job.engines job.most job.chunk job.seed n found.limit found.format found.keep) (says.alpha ∙ head_says job e well Alpha)
    ∙ ap (λ n. made_job job.program job.vertices job.engines job.most job.chunk job.seed job.alpha n found.format found.keep) (says.limit ∙ head_says job e well Limit)
    ∙ ap (λ n. made_job job.program job.vertices job.engines job.most job.chunk job.seed job.alpha job.limit n found.keep) (says.format ∙ head_says job e well Format)
    ∙ ap (λ n. made_job job.program job.vertices job.engines job.most job.chunk job.seed job.alpha job.limit job.format n) (says.keep ∙ sym well.keep)
