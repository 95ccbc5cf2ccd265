use Rattle.std.proofs.Common.{◌≡◌, ◌*◌, length, drop, ◌++◌, ap, ◌∙◌, sym, subst, arith, length-append, length-take}
use Rattle.std.specs.List.{All}
use Rattle.std.proofs.lemmas.List.{take_at}
use Rattle.std.proofs.lemmas.Bool.{true≢false}
use Rattle.chunk_model.specs.ChunkBytes.{chunk_bytes, StandsAt, Belongs}
use Rattle.chunk_model.proofs.OnDevice.{one_chunk}
use Rattle.chunk_file.specs.Chunks.{IsChunkIn}
use Rattle.chunk_file.proofs.Heads.{head_tells, reads_chunk}
use Rattle.chunk_file.proofs.Homes.{belong_by_test, test_by_belong}
use Rattle.chunk_file.proofs.chunk.get_chunk.Goals as goal
use Rattle.chunk_file.proofs.chunk.get_chunk.Goals.{then-bytes-lt-HEAD_SIZE-via-then-bytes-lt-HEAD_SIZE, then-bytes-lt-HEAD_SIZE-via-else-bytes-lt-HEAD_SIZE+then-u32_at-partition, then-count-eq0-via-then-count-eq0, then-count-eq0-via-else-count-eq0+then-count-into, then-count-eq0-via-else-count-eq0+else-count-into+then-bytes-width}

pub returns-then-bytes-lt-HEAD_SIZE-clause-none : goal.returns-then-bytes-lt-HEAD_SIZE-clause-none
returns-then-bytes-lt-HEAD_SIZE-clause-none g c records is =
    let layout = g.R.Record.layout c.args.format in
    let laws = g.met.R.Record.lawful c.args.format in
    let tells = head_tells layout laws c.args.partition c.args.bytes.now records (omega arith) is.are.counted is.stands in
    elim c.then-bytes-lt-HEAD_SIZE.branch [
      | then-bytes-lt-HEAD_SIZE-via-then-bytes-lt-HEAD_SIZE w ↦ absurd (omega (arith, tells.long))
      | then-bytes-lt-HEAD_SIZE-via-else-bytes-lt-HEAD_SIZE+then-u32_at-partition w ↦ w.if-u32_at-partition.true (w.u32_at.ensures ∙ tells.partition)
    ]

pub returns-then-count-eq0-clause-none : goal.returns-then-count-eq0-clause-none
returns-then-count-eq0-clause-none g c records is =
    let layout = g.R.Record.layout c.args.format in
    let laws = g.met.R.Record.lawful c.args.format in
    let tells = head_tells layout laws c.args.partition c.args.bytes.now records (omega arith) is.are.counted is.stands in
    let many : c.u32_at-count.result ≡ length records = c.u32_at-count.ensures ∙ tells.count in
    elim c.then-count-eq0.branch [
      | then-count-eq0-via-then-count-eq0 w ↦ absurd (omega (arith, many, is.are.some, w.if-count-eq0.true))
      | then-count-eq0-via-else-count-eq0+then-count-into w ↦ absurd (omega (arith, many, is.are.few, w.if-count-into.true))
      | then-count-eq0-via-else-count-eq0+else-count-into+then-bytes-width w ↦
          absurd (omega (arith, tells.long, w.if-bytes-width.true, ap (λ k. k * c.u32_at-count.result) c.width-width.ensures, ap (λ k. layout.width * k) many))
    ]

pub returns-then-not-get_records-clause-none : goal.returns-then-not-get_records-clause-none
returns-then-not-get_records-clause-none g c records is =
    let layout = g.R.Record.layout c.args.format in
    let laws = g.met.R.Record.lawful c.args.format in
    let split = c.args.split.now in
    let read = c.get_records.new.into in
    let many : length read ≡ c.u32_at-count.result =
    omega (arith, c.get_records.auto.into, length-take c.u32_at-count.result c.args.into.now, c.if-count-into.false) in
    let stands : StandsAt 0 (chunk_bytes layout c.args.partition read) c.args.bytes.now =
    reads_chunk layout c.args.partition c.u32_at-count.result c.width-width.result c.args.bytes.now read (λ k. omega (arith, c.type_inv.bytes k))
    c.width-width.ensures many (omega (arith, c.if-bytes-width.false)) (sym c.if-u32_at-partition.false ∙ c.u32_at.ensures) c.u32_at-count.ensures c.get_records.ensures.written in
    let same = one_chunk layout laws c.args.partition c.args.partition 0 c.args.bytes.now read records (omega arith) (omega arith)
    (omega (arith, many)) is.are.counted c.get_records.ensures.room is.are.held stands is.stands in
    let test = test_by_belong layout laws split.vertices split.parts split.span c.args.partition _ _ c.requires.split.span (omega arith)
    c.range-first.ensures.first c.range-first.ensures.end read
    (subst (All (Belongs layout split.vertices split.span c.args.partition)) (sym same.1) is.are.belong) in
    true≢false (sym test ∙ sym c.get_records.ensures.belong ∙ c.if-not-get_records.true)

pub returns-clause-found : goal.returns-clause-found
returns-clause-found g c =
    let layout = g.R.Record.layout c.args.format in
    let laws = g.met.R.Record.lawful c.args.format in
    let split = c.args.split.now in
    let read = c.get_records.new.into in
    let rest = drop c.u32_at-count.result c.args.into.now in
    let many : length read ≡ c.u32_at-count.result =
    omega (arith, c.get_records.auto.into, length-take c.u32_at-count.result c.args.into.now, c.if-count-into.false) in
    let stands : StandsAt 0 (chunk_bytes layout c.args.partition read) c.args.bytes.now =
    reads_chunk layout c.args.partition c.u32_at-count.result c.width-width.result c.args.bytes.now read (λ k. omega (arith, c.type_inv.bytes k))
    c.width-width.ensures many (omega (arith, c.if-bytes-width.false)) (sym c.if-u32_at-partition.false ∙ c.u32_at.ensures) c.u32_at-count.ensures c.get_records.ensures.written in
    let belong = belong_by_test layout laws split.vertices split.parts split.span c.args.partition _ _ c.requires.split.span
    c.range-first.ensures.first c.range-first.ensures.end read
    (sym c.get_records.ensures.belong ∙ c.if-not-get_records.false) in
    record {
      within = omega (arith, many, length-append read rest);
      chunk = subst (λ rs. IsChunkIn layout split (length (read ++ rest)) c.args.partition 0 c.args.bytes.now rs) (sym (take_at read rest c.u32_at-count.result many))
          (record {
            stands = stands;
            are = record {
              some = omega (arith, many, c.if-count-eq0.false);
              few = omega (arith, length-append read rest);
              counted = omega (arith, many);
              held = c.get_records.ensures.room;
              belong = belong;
            };
          });
    }
