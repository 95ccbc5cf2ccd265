use Rattle.std.proofs.Common.{◌≡◌, ◌∙◌, refl, ℕ, ◌+◌, ◌*◌, ◌<◌, length, drop, ap, sym, subst, inl, arith}
use Rattle.std.specs.Prelude.{IfSome}
use Rattle.ports.specs.Faults.{Rose}
use Rattle.ports.proofs.Rising.{count_rose_before}
use Rattle.chunk_file.specs.Causes.{HasChunkCause}
use Rattle.chunk_file.proofs.Faulty.{handed_on}
use Rattle.chunk_file.specs.Places.{total_of, on_graph}
use Rattle.chunk_file.specs.Scans.{Scanned, IsNext, NoEdgeChunk, StopsAt}
use Rattle.chunk_file.proofs.Heads.{as_told_of_any, as_told_of_three}
use Rattle.chunk_file.proofs.Lists.{total-more}
use Rattle.chunk_file.proofs.Scanning.{scanned_none, scanned_more, stops_at}
use Rattle.chunk_file.proofs.whole.scan_chunks.Goals as goal

pub chunks-init : goal.chunks-init
chunks-init g c = record {
  from = omega arith;
  few = c.requires.few;
  later = omega arith;
  calm = refl;
  scanned = as_told_of_any (λ told. Scanned c.args.format c.args.split.now (length c.args.edges.now) c.args.engine told c.args.into.now c.args.into.now (drop 65 told))
      (g.D.Disk.state c.args.disk.now).bytes
      (λ told. scanned_none c.args.format c.args.split.now (length c.args.edges.now) c.args.engine told c.args.into.now);
}

pub returns-in-Err-clause-cause : goal.returns-in-Err-clause-cause
returns-in-Err-clause-cause g c =
    let disk = (g.met.D.Disk g.world.𝓛 g.world.𝓜 g.world.𝓡 ((λ s x. x), (λ x. x), (λ x. x), λ x. x)).lawful c.args.disk.now in
    let told = (g.D.Disk.state c.args.disk.now).bytes in
    let size = (g.D.Disk.state c.args.disk.now).size in
    let most = length c.args.edges.now in
    let first = g.D.M.Meter.faults c.args.meter.now in
    let before = g.D.M.Meter.faults c.chunks.meter in
    let now = g.D.M.Meter.faults c.next_chunk.new.meter in
    let stops : ℕ → Type 0 = λ at. IfSome told (StopsAt c.args.format c.args.split.now most c.args.engine c.args.into.now c.chunks.into at) in
    let none : Type 0 = IfSome told (NoEdgeChunk c.args.format c.args.split.now most c.chunks.at) in
    let cause : HasChunkCause (Rose before now) (λ at. (at ≡ c.chunks.at) × none) ⊥ c.in-Err.fault =
    subst (λ m. HasChunkCause (Rose before now) (λ at. (at ≡ c.chunks.at) × IfSome told (NoEdgeChunk c.args.format c.args.split.now m c.chunks.at)) ⊥ c.in-Err.fault)
    c.chunks.auto.edges c.in-Err.ensures.cause in
    handed_on (Rose before now) (Rose first now) (λ at. (at ≡ c.chunks.at) × none) stops
    (count_rose_before first before now c.chunks.invariant.later)
    (λ at damage. subst stops (sym damage.0)
    (as_told_of_three (λ bytes. Scanned c.args.format c.args.split.now most c.args.engine bytes c.args.into.now c.chunks.into (drop c.chunks.at bytes))
    (λ bytes. size ≡ length bytes) (NoEdgeChunk c.args.format c.args.split.now most c.chunks.at)
    (StopsAt c.args.format c.args.split.now most c.args.engine c.args.into.now c.chunks.into c.chunks.at)
    told c.chunks.invariant.scanned disk.sized damage.1
    (λ bytes scanned sized absent. stops_at c.args.format c.args.split.now most c.args.engine c.chunks.at size bytes c.args.into.now c.chunks.into
    scanned sized (omega (arith, c.chunks-test.true, c.size-size.ensures)) (inl absent))))
    c.in-Err.fault cause

pub chunks-preserved : goal.chunks-preserved
chunks-preserved g c =
    let disk = (g.met.D.Disk g.world.𝓛 g.world.𝓜 g.world.𝓡 ((λ s x. x), (λ x. x), (λ x. x), λ x. x)).lawful c.args.disk.now in
    let told = (g.D.Disk.state c.args.disk.now).bytes in
    let size = (g.D.Disk.state c.args.disk.now).size in
    let most = length c.args.edges.now in
    let partition = c.in-Ok.found.partition in
    let found : IfSome told (λ bytes. IsNext c.args.format c.args.split.now most c.chunks.at bytes partition c.in-Ok.found.size) =
    subst (λ m. IfSome told (λ bytes. IsNext c.args.format c.args.split.now m c.chunks.at bytes partition c.in-Ok.found.size)) c.chunks.auto.edges c.in-Ok.ensures.found in
    let place : 64 * c.args.engine + partition < length c.chunks.into = omega (arith, c.total.ensures.lists, c.requires.engine, c.in-Ok.ensures.partition, c.requires.split.few) in
    record {
      from = omega (arith, c.chunks.invariant.from);
      few = omega (
        arith,
        ap total_of c.in_ok-add.ensures.ok,
        total-more c.chunks.into (64 * c.args.engine + partition) (on_graph c.chunks.at) place,
        c.total.ensures.total,
        c.if-total-ge-MOST_PLACES.false,
      );
      later = omega (arith, c.chunks.invariant.later, c.in-Ok.ensures.later);
      calm = c.in-Ok.ensures.calm (λ is. absurd cc) ∙ c.chunks.invariant.calm;
      scanned =
          as_told_of_three (λ bytes. Scanned c.args.format c.args.split.now most c.args.engine bytes c.args.into.now c.chunks.into (drop c.chunks.at bytes))
          (λ bytes. size ≡ length bytes) (λ bytes. IsNext c.args.format c.args.split.now most c.chunks.at bytes partition c.in-Ok.found.size)
          (λ bytes. Scanned c.args.format c.args.split.now most c.args.engine bytes c.args.into.now c.add.new.self (drop (c.chunks.at + c.in-Ok.found.size) bytes))
          told c.chunks.invariant.scanned disk.sized found
          (λ bytes scanned sized next. scanned_more c.args.format c.args.split.now most c.args.engine c.chunks.at partition c.in-Ok.found.size bytes
          c.args.into.now c.chunks.into c.add.new.self (omega (arith, c.requires.split.few)) c.requires.engine c.total.ensures.lists
          c.chunks.invariant.from (omega (arith, c.chunks-test.true, c.size-size.ensures, sized)) scanned next c.in_ok-add.ensures.ok);
    }
