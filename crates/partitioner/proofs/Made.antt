-- A split that was made is one, and the numbers of its partitions are unique.
use Rattle.std.proofs.Common.{◌≡◌, ℕ, ◌*◌, ◌^◌, ◌<◌, ◌≤◌, ◌==◌, if◌then◌else◌, Bool, true, false, max, refl, sym, ◌∙◌, ap, subst, arith}
use Rattle.std.specs.Int.{IsInRange, div_ceil}
use Rattle.graph_model.specs.Partitions.{IsPartCount, MAX_PARTS, ceil_div, part_count}
use Rattle.graph_model.proofs.SplitLemmas.{part_count_is, ceil_div-div_ceil, one-le-product}
use Rattle.partitioner.specs.declared.split.Split.{Split}
use Rattle.graph_model.specs.declared.job.Job.{Job}
use Rattle.graph_model.specs.Jobs.{IsWellFormedJob, most_vertices, parts_of}
use Rattle.partitioner.specs.Splits.{IsSplit, IsSplitBy, IsSplitOf, split_for}

-- there is one least number
pub part_count-unique : (n engines most parts : ℕ) → 1 ≤ engines → 1 ≤ most → IsPartCount n engines most parts → parts ≡ part_count n engines most
part_count-unique n engines most parts some_engine some_vertex is =
    let computed = part_count_is n engines most some_engine some_vertex in
    let below : parts ≤ part_count n engines most = is.least (part_count n engines most) computed.enough in
    let above : part_count n engines most ≤ parts = computed.least parts is.enough in
    omega arith

-- what the code computes is that number
pub part_count-computed : (n engines most quotient turns : ℕ) → 1 ≤ engines → 1 ≤ most → quotient ≡ div_ceil n (engines * most) → turns ≡ max quotient 1 → engines * turns ≡ part_count n engines most
part_count-computed n engines most quotient turns some_engine some_vertex rounded_up at_least =
    let divisor : 1 ≤ engines * most = one-le-product engines most some_engine some_vertex in
    let same : quotient ≡ ceil_div n (engines * most) = rounded_up ∙ sym (ceil_div-div_ceil n (engines * most) divisor) in
    let turns_are : turns ≡ max 1 (ceil_div n (engines * most)) = omega arith in
    ap (λ k. engines * k) turns_are

-- the partitions of a split are at least one
pub some_part : (split : Split) → IsSplit split → 1 ≤ split.parts
some_part split is =
    let product = one-le-product split.engines (max 1 (ceil_div split.vertices (split.engines * max 1 split.span))) is.engines.0 (omega arith) in
    subst (λ k. 1 ≤ k) (sym is.parts) product

-- the same partitions are the fewest for the most vertices that one of them has, or 1
least_for_span : (n engines most parts : ℕ) → 1 ≤ engines → 1 ≤ most → IsPartCount n engines most parts → IsPartCount n engines (max 1 (ceil_div n parts)) parts
least_for_span n engines most parts some_engine some_vertex is =
    let span_small = is.enough.small in
    record {
      enough = record { turns = is.enough.turns; positive = is.enough.positive; multiple = is.enough.multiple; small = omega arith };
      least = λ other enough.
          let small : ceil_div n other ≤ most = omega (arith, enough.small, span_small, some_vertex) in
          is.least other (record { turns = enough.turns; positive = enough.positive; multiple = enough.multiple; small = small });
    }

-- a split that `Split::of` answers meets what is asked of one
pub made-is_split : (vertices engines most : ℕ) (split : Split) → vertices < 2 ^ 32 → IsInRange 1 8 engines → 1 ≤ most → IsSplitBy vertices engines most split → IsSplit split
made-is_split vertices engines most split fits some_engine some_vertex by =
    let span = ceil_div vertices split.parts in
    let least = least_for_span vertices engines most split.parts some_engine.0 some_vertex by.parts in
    let parts : split.parts ≡ part_count vertices engines (max 1 span) = part_count-unique vertices engines (max 1 span) split.parts some_engine.0 (omega arith) least in
    record {
      vertices = subst (λ k. k < 2 ^ 32) (sym by.all_vertices) fits;
      engines = subst (IsInRange 1 8) (sym by.all_engines) some_engine;
      parts = rw (by.all_vertices, by.all_engines, by.span) parts;
      few = by.few;
      span = rw by.all_vertices by.span;
    }

-- and each split that meets it is the one that `Split::of` answers for the most vertices that its span says
pub is_split-made : (split : Split) → IsSplit split → IsSplitBy split.vertices split.engines (max 1 split.span) split
is_split-made split is = record {
  all_vertices = refl;
  all_engines = refl;
  parts = subst (IsPartCount split.vertices split.engines (max 1 split.span)) (sym is.parts) (part_count_is split.vertices split.engines (max 1 split.span) is.engines.0 (omega arith));
  few = is.few;
  span = is.span;
}

pub most_of_all : (is_first : Bool) → (if is_first then 4194304 else 67108864) ≤ 67108864
most_of_all true = omega arith
most_of_all false = omega arith

-- the split of a job is one
pub job-is_split : (job : Job) (split : Split) → IsWellFormedJob job → IsSplitOf job split → IsSplit split
job-is_split job split well of_job =
    let few : job.vertices ≤ most_vertices job.format = well.vertices in
    let vertices_fit : job.vertices < 2 ^ 32 = omega (arith, most_of_all (job.format == 1), few) in
    let by : IsSplitBy job.vertices job.engines job.most split = record {
      all_vertices = of_job.vertices;
      all_engines = of_job.engines;
      parts = subst (IsPartCount job.vertices job.engines job.most) (sym of_job.parts) (part_count_is job.vertices job.engines job.most well.engines.0 well.most.0);
      few = subst (λ k. k ≤ MAX_PARTS) (sym of_job.parts) well.few_parts;
      span = subst (λ k. split.span ≡ ceil_div job.vertices k) (sym of_job.parts) of_job.span;
    } in
    made-is_split job.vertices job.engines job.most split vertices_fit well.engines well.most.0 by

-- what `Split::of` answers for a job is the job's split
pub made-of_job : (job : Job) (split : Split) → IsWellFormedJob job → IsSplitBy job.vertices job.engines job.most split → IsSplitOf job split
made-of_job job split well by =
    let parts = part_count-unique job.vertices job.engines job.most split.parts well.engines.0 well.most.0 by.parts in
    record {
      vertices = by.all_vertices;
      engines = by.all_engines;
      parts = parts;
      span = subst (λ k. split.span ≡ ceil_div job.vertices k) parts by.span;
    }

-- a job has one split
pub split_is : (job : Job) (split : Split) → IsSplitOf job split → split ≡ split_for job
split_is job split of_job =
    let with_vertices : ℕ → Split = λ v. record { vertices = v; engines = split.engines; parts = split.parts; span = split.span } in
    let with_engines : ℕ → Split = λ v. record { vertices = job.vertices; engines = v; parts = split.parts; span = split.span } in
    let with_parts : ℕ → Split = λ v. record { vertices = job.vertices; engines = job.engines; parts = v; span = split.span } in
    let with_span : ℕ → Split = λ v. record { vertices = job.vertices; engines = job.engines; parts = parts_of job; span = v } in
    ap with_vertices of_job.vertices ∙ ap with_engines of_job.engines ∙ ap with_parts of_job.parts ∙ ap with_span of_job.span

-- and it is of that job
pub is_split_for : (job : Job) → IsSplitOf job (split_for job)
is_split_for job = record { vertices = refl; engines = refl; parts = refl; span = refl }

-- a job has partitions, and each vertex is in one
pub some_parts : (job : Job) → IsWellFormedJob job → 1 ≤ parts_of job
some_parts job well = one-le-product job.engines (max 1 (ceil_div job.vertices (job.engines * job.most))) well.engines.0 (omega arith)
