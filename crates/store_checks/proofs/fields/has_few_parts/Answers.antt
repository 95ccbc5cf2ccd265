use Rattle.std.proofs.Common.{◌≡◌, ◌*◌, ◌<◌, arith}
use Rattle.graph_model.specs.Partitions.{part_count}
use Rattle.partitioner.proofs.Made.{part_count-computed}
use Rattle.store_checks.proofs.FieldTests.{few_for_each}
use Rattle.store_checks.proofs.fields.has_few_parts.Goals as goal

pub returns-else-engines-eq0 : goal.returns-else-engines-eq0
returns-else-engines-eq0 c =
    let a = c.args in
    let some : 0 < a.engines = omega arith in
    let parts : a.engines * c.max.result ≡ part_count a.vertices a.engines a.most =
    part_count-computed a.vertices a.engines a.most c.div_ceil.result c.max.result (omega arith) (omega arith) c.div_ceil.ensures c.max.ensures in
    few_for_each a.engines c.max.result (part_count a.vertices a.engines a.most) some parts
