use Rattle.std.proofs.Common.{◌≡◌, ◌<◌, ◌≤◌, ◌^◌, ◌∙◌, true, refl, sym, subst, arith}
use Rattle.store_model.specs.declared.field.Field.TheVariants.{Program, Vertices}
use Rattle.store_model.specs.Damage.{value_of, is_argument}
use Rattle.store_checks.proofs.GoodHeads.{good_head, few_vertices, small_argument, formed_by}
use Rattle.store_checks.proofs.fields.job_of.Goals as goal

pub program_of-program-requires-clause-number : goal.program_of-program-requires-clause-number
program_of-program-requires-clause-number c =
    let good = good_head 0 c.args.head.now c.requires.good in
    subst (λ n. n ≤ 4) (sym c.value_of.ensures) good.program

pub program_of-program-requires-clause-value : goal.program_of-program-requires-clause-value
program_of-program-requires-clause-value c =
    let good = good_head 0 c.args.head.now c.requires.good in
    subst (λ n. n < 2 ^ 32) (sym c.value_of-2.ensures) (small_argument c.args.head.now good)

pub overflow_cast-result : goal.overflow_cast-result
overflow_cast-result c =
    let good = good_head 0 c.args.head.now c.requires.good in
    let small : c.value_of-3.result ≤ 67108864 = subst (λ n. n ≤ 67108864) (sym c.value_of-3.ensures) (few_vertices c.args.head.now good) in
    omega arith

pub overflow_cast-result-2 : goal.overflow_cast-result-2
overflow_cast-result-2 c =
    let good = good_head 0 c.args.head.now c.requires.good in
    let small : c.value_of-4.result ≤ 8 = subst (λ n. n ≤ 8) (sym c.value_of-4.ensures) (good.engines.1) in
    omega arith

pub overflow_cast-result-3 : goal.overflow_cast-result-3
overflow_cast-result-3 c =
    let good = good_head 0 c.args.head.now c.requires.good in
    let small : c.value_of-5.result ≤ 67108864 = subst (λ n. n ≤ 67108864) (sym c.value_of-5.ensures) (good.most.1) in
    omega arith

pub overflow_cast-result-4 : goal.overflow_cast-result-4
overflow_cast-result-4 c =
    let good = good_head 0 c.args.head.now c.requires.good in
    let small : c.value_of-6.result ≤ 65536 = subst (λ n. n ≤ 65536) (sym c.value_of-6.ensures) (good.chunk.1) in
    omega arith

pub overflow_cast-result-5 : goal.overflow_cast-result-5
overflow_cast-result-5 c =
    let good = good_head 0 c.args.head.now c.requires.good in
    let small : c.value_of-8.result ≤ 10000 = subst (λ n. n ≤ 10000) (sym c.value_of-8.ensures) (good.alpha) in
    omega arith

pub overflow_cast-result-6 : goal.overflow_cast-result-6
overflow_cast-result-6 c =
    let good = good_head 0 c.args.head.now c.requires.good in
    let small : c.value_of-9.result ≤ 1000000 = subst (λ n. n ≤ 1000000) (sym c.value_of-9.ensures) (good.limit.1) in
    omega arith

pub overflow_cast-result-7 : goal.overflow_cast-result-7
overflow_cast-result-7 c =
    let good = good_head 0 c.args.head.now c.requires.good in
    let small : c.value_of-10.result ≤ 2 = subst (λ n. n ≤ 2) (sym c.value_of-10.ensures) (good.format.1) in
    omega arith

pub returns-clause-says : goal.returns-clause-says
returns-clause-says c =
    let head = c.args.head.now in
    let good = good_head 0 head c.requires.good in
    let argued : is_argument c.value_of.result (value_of Vertices head) c.value_of-2.result ≡ true =
    subst (λ n. is_argument n (value_of Vertices head) c.value_of-2.result ≡ true) (sym c.value_of.ensures)
    (subst (λ n. is_argument (value_of Program head) (value_of Vertices head) n ≡ true) (sym c.value_of-2.ensures) good.argument) in
    record {
      program = c.program_of-program.ensures.number ∙ c.value_of.ensures;
      argument_is = c.program_of-program.ensures.argument (value_of Vertices head) argued ∙ c.value_of-2.ensures;
      vertices = c.value_of-3.ensures;
      engines = c.value_of-4.ensures;
      most = c.value_of-5.ensures;
      chunk = c.value_of-6.ensures;
      seed = c.value_of-7.ensures;
      alpha = c.value_of-8.ensures;
      limit = c.value_of-9.ensures;
      format = c.value_of-10.ensures;
      keep = refl;
    }

pub returns-clause-formed : goal.returns-clause-formed
returns-clause-formed c =
    let head = c.args.head.now in
    let good = good_head 0 head c.requires.good in
    let argued : is_argument c.value_of.result c.value_of-3.result c.value_of-2.result ≡ true =
    subst (λ n. is_argument n c.value_of-3.result c.value_of-2.result ≡ true) (sym c.value_of.ensures)
    (subst (λ n. is_argument (value_of Program head) n c.value_of-2.result ≡ true) (sym c.value_of-3.ensures)
    (subst (λ n. is_argument (value_of Program head) (value_of Vertices head) n ≡ true) (sym c.value_of-2.ensures) good.argument)) in
    formed_by head _ good (returns-clause-says c) (c.program_of-program.ensures.formed c.value_of-3.result argued) c.value_of-7.type_inv
