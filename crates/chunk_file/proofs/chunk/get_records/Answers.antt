use Rattle.std.proofs.Common.{◌≡◌, ℕ, ◌+◌, ◌-◌, ◌*◌, ◌<◌, ◌≤◌, true, length, take, drop, ap, ◌∙◌, sym, arith, mul-le-mul_left}
use Rattle.std.specs.Prelude.{◌&&◌}
use Rattle.std.specs.List.{list_all}
use Rattle.chunk_file.specs.Chunks.{is_in}
use Rattle.chunk_file.proofs.Pieces.{next_piece, next_written, next_each, next_test}
use Rattle.chunk_file.proofs.chunk.get_records.Goals as goal
use Rattle.chunk_file.proofs.chunk.get_records.Goals.{then-belong, else-belong}

one_fits : (width count i start : ℕ) → i < count → start ≡ width * i → start + width ≤ width * count
one_fits width count i start within at =
    let product : width * (i + 1) ≤ width * count = mul-le-mul_left width (omega arith) in
    omega (arith, product)

pub records-preserved : goal.records-preserved
records-preserved g c =
    let layout = g.R.Record.layout c.args.format in
    let laws = g.met.R.Record.lawful c.args.format in
    let i : ℕ = c.records.place-index in
    let start : ℕ = c.records.start in
    let within : i < length c.records.into = omega arith in
    let width : c.width-width.result ≡ layout.width = c.width-width.ensures in
    let size : start + c.width-width.result - start ≡ layout.width = omega (arith, width) in
    let test = is_in layout c.args.vertices c.args.first c.args.end in
    let fits : start + layout.width ≤ length c.args.bytes.now =
    omega (arith, one_fits layout.width (length c.records.into) i start within c.records.invariant.at, c.requires.size, ap (λ k. layout.width * k) c.records.auto.into) in
    let piece = next_piece layout laws c.args.bytes.now (λ k. omega (arith, c.type_inv.bytes k)) start c.get-item.result fits
    (c.get-item.ensures ∙ ap (λ k. layout.read (take k (drop start c.args.bytes.now))) size) in
    let both : c.if-belong.belong ≡ (c.records.belong && c.belongs-here.result) =
    elim c.if-belong.branch [ then-belong w ↦ w.belong-is ∙ ap (λ b. b && c.belongs-here.result) (sym w.if-belong.true) | else-belong w ↦ w.belong-is ∙ w.if-belong.false ∙ ap (λ b. b && c.belongs-here.result) (sym w.if-belong.false) ] in
    record {
      at = omega (arith, c.records.invariant.at, width);
      written =
          next_written layout c.args.bytes.now start i c.records.into c.get-item.result within piece.0 c.records.invariant.written
          ∙ ap (λ w. take (start + w) c.args.bytes.now) (sym width);
      room = next_each (λ r. layout.holds r ≡ true) i c.records.into c.get-item.result within piece.1 c.records.invariant.room;
      belong =
          both
          ∙ ap (λ b. b && c.belongs-here.result) c.records.invariant.belong
          ∙ ap (λ b. list_all test (take i c.records.into) && b) (c.belongs-here.ensures c.args.format)
          ∙ sym (next_test test i c.records.into c.get-item.result within);
    }
