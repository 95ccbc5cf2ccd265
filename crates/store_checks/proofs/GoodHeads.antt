-- What is known of a head whose fields are all well formed.
use Rattle.std.proofs.Common.{◌≡◌, ◌∙◌, ℕ, zero, suc, ◌^◌, ◌<◌, ◌≤◌, ◌==◌, ◌||◌, nat_le, nat_lt, Bool, true, false, if◌then◌else◌, List, [], ◌∷◌, length, get_or, Option, Some, None, refl, sym, ap, arith, lit<}
use Rattle.std.proofs.lemmas.Bool.{leb-true, ltb-true, eqb-true, and_parts}
use Rattle.graph_model.specs.declared.job.Job.{Job}
use Rattle.graph_model.specs.Jobs.{IsWellFormedJob, IsWellFormedProgram, most_vertices}
use Rattle.store_model.specs.declared.field.Field.{Field}
use Rattle.store_model.specs.declared.field.Field.TheVariants.{Format, Engines, Engine, Program, Argument, Vertices, Most, Chunk, Alpha, Limit}
use Rattle.store_model.specs.declared.field.TheConstants.{FIELDS}
use Rattle.partitioner.proofs.Made.{most_of_all}
use Rattle.store_checks.specs.Jobs.{SaysJob}
use Rattle.store_model.specs.Damage.{first_bad, is_good, is_argument, value_of, place_of, parts_in, within}

pub some_none : (x : ℕ) → ◌≡◌ {A = Option ℕ} (Some x) None → ⊥
some_none x same = cc

-- if the first of some fields fails, so does one of them
head_passes : (test : Field → Bool) (field : Field) (fields : List Field) (found : Bool) → test field ≡ found → first_bad test (field ∷ fields) ≡ None → (test field ≡ true) × (first_bad test fields ≡ None)
head_passes test field fields true is none = (is, sym (ap (λ b. if b then first_bad test fields else Some (place_of field)) is) ∙ none)
head_passes test field fields false is none = absurd (some_none (place_of field) (sym (ap (λ b. if b then first_bad test fields else Some (place_of field)) is) ∙ none))

good_at : (test : Field → Bool) (fields : List Field) → first_bad test fields ≡ None → (i : ℕ) (d : Field) → i < length fields → test (get_or fields i d) ≡ true
good_at test [] none i d less = absurd (omega arith)
good_at test (field ∷ fields) none zero d less = (head_passes test field fields (test field) refl none).0
good_at test (field ∷ fields) none (suc k) d less = good_at test fields (head_passes test field fields (test field) refl none).1 k d (omega arith)

within_is : (low high x : ℕ) → within low high x ≡ true → (low ≤ x) × (x ≤ high)
within_is low high x is = let parts = and_parts (nat_le low x) (nat_le x high) is in (leb-true low x parts.0, leb-true x high parts.1)

pub record GoodHead (head : List ℕ) : Type 0 where
  pub format : (1 ≤ value_of Format head) × (value_of Format head ≤ 2)
  pub engines : (1 ≤ value_of Engines head) × (value_of Engines head ≤ 8)
  pub program : value_of Program head ≤ 4
  pub argument : is_argument (value_of Program head) (value_of Vertices head) (value_of Argument head) ≡ true
  pub vertices : value_of Vertices head ≤ most_vertices (value_of Format head)
  pub most : (1 ≤ value_of Most head) × (value_of Most head ≤ 67108864)
  pub parts : parts_in head ≤ 64
  pub chunk : (1 ≤ value_of Chunk head) × (value_of Chunk head ≤ 65536)
  pub alpha : value_of Alpha head ≤ 10000
  pub limit : (1 ≤ value_of Limit head) × (value_of Limit head ≤ 1000000)

pub good_head : (e : ℕ) (head : List ℕ) → first_bad (is_good e head) FIELDS ≡ None → GoodHead head
good_head e head none =
    let at = good_at (is_good e head) FIELDS none in
    let most = and_parts (within 1 67108864 (value_of Most head)) (nat_le (parts_in head) 64) (at 8 Format (lit< tt)) in
    record {
      format = within_is 1 2 (value_of Format head) (at 0 Format (lit< tt));
      engines = within_is 1 8 (value_of Engines head) (at 1 Format (lit< tt));
      program = leb-true (value_of Program head) 4 (at 3 Format (lit< tt));
      argument = at 6 Format (lit< tt);
      vertices = leb-true (value_of Vertices head) (most_vertices (value_of Format head)) (at 7 Format (lit< tt));
      most = within_is 1 67108864 (value_of Most head) most.0;
      parts = leb-true (parts_in head) 64 most.1;
      chunk = within_is 1 65536 (value_of Chunk head) (at 9 Format (lit< tt));
      alpha = leb-true (value_of Alpha head) 10000 (at 11 Format (lit< tt));
      limit = within_is 1 1000000 (value_of Limit head) (at 12 Format (lit< tt));
    }

pub few_vertices : (head : List ℕ) → GoodHead head → value_of Vertices head ≤ 67108864
few_vertices head good = omega (arith, good.vertices, most_of_all (value_of Format head == 1))

-- an argument is a small number
argument_by : (program vertices x : ℕ) → vertices ≤ 67108864 → (root : Bool) → (program == 0 || program == 2) ≡ root → (rounds : Bool) → (program == 4) ≡ rounds → is_argument program vertices x ≡ true → x < 2 ^ 32
argument_by program vertices x few true root rounds is good =
    let below = ltb-true x vertices (sym (ap (λ b. if b then nat_lt x vertices else if program == 4 then within 1 100000 x else x == 0) root) ∙ good) in
    omega arith
argument_by program vertices x few false root true is good =
    let inside = within_is 1 100000 x (sym (ap (λ b. if b then nat_lt x vertices else if program == 4 then within 1 100000 x else x == 0) root ∙ ap (λ b. if b then within 1 100000 x else x == 0) is) ∙ good) in
    omega arith
argument_by program vertices x few false root false is good =
    let none = eqb-true x 0 (sym (ap (λ b. if b then nat_lt x vertices else if program == 4 then within 1 100000 x else x == 0) root ∙ ap (λ b. if b then within 1 100000 x else x == 0) is) ∙ good) in
    omega arith

pub small_argument : (head : List ℕ) → GoodHead head → value_of Argument head < 2 ^ 32
small_argument head good =
    argument_by (value_of Program head) (value_of Vertices head) (value_of Argument head) (few_vertices head good)
    (value_of Program head == 0 || value_of Program head == 2) refl (value_of Program head == 4) refl good.argument

pub formed_by : (head : List ℕ) (job : Job) → GoodHead head → SaysJob head job → IsWellFormedProgram job.vertices job.program → job.seed < 2 ^ 64 → IsWellFormedJob job
formed_by head job good says program seed = record {
  program = program;
  vertices = rw (says.vertices, says.format) good.vertices;
  engines = rw says.engines good.engines;
  most = rw says.most good.most;
  chunk = rw says.chunk good.chunk;
  seed = seed;
  alpha = rw says.alpha good.alpha;
  limit = rw says.limit good.limit;
  format = rw says.format good.format;
  keep = says.keep;
  few_parts = rw (says.vertices, says.engines, says.most) good.parts;
}

-- the number of an engine has one byte
pub small_engine : (e : ℕ) (head : List ℕ) → ((i : ℕ) → get_or head i 0 < 256) → first_bad (is_good e head) FIELDS ≡ None → e < 256
small_engine e head bytes none = omega (arith, bytes 3, eqb-true (value_of Engine head) e (good_at (is_good e head) FIELDS none 2 Format (lit< tt)))
