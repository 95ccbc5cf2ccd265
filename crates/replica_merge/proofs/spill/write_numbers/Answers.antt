-- A piece more, and a piece that failed.
use Rattle.std.proofs.Common.{ℕ, ◌+◌, ◌-◌, ◌++◌, List, take, drop, Ok, Err, subst, arith, length-take, length-drop, length-append}
use Rattle.ports.specs.declared.faults.Failed.{Failed}
use Rattle.ports.specs.Disk.{DiskState}
use Rattle.replica_merge.specs.Appending.{HasAppended}
use Rattle.replica_merge.specs.Numbers.{bytes_of_numbers}
use Rattle.replica_merge.proofs.AppendLemmas.{appended_then, appended_in_part}
use Rattle.replica_merge.proofs.NumberLemmas.{bytes_of_numbers-piece, length-bytes_of_numbers}
use Rattle.replica_merge.proofs.spill.write_numbers.Goals as goal

pub write_piece-requires-clause-end : goal.write_piece-requires-clause-end
write_piece-requires-clause-end g c κs lives =
    omega (
      arith,
      c.loop-done.invariant.so_far.grown,
      length-bytes_of_numbers (take c.loop-done.done c.args.numbers.now),
      length-take c.loop-done.done c.args.numbers.now,
      length-take (c.loop-done.done + c.min-count.result - c.loop-done.done) (drop c.loop-done.done c.args.numbers.now),
    )

pub returns-in_err-write_piece-clause-appended : goal.returns-in_err-write_piece-clause-appended
returns-in_err-write_piece-clause-appended g c =
    let disks = g.met.D.Disk g.world.𝓛 g.world.𝓜 g.world.𝓡 ((λ s x. x), (λ x. x), (λ x. x), λ x. x) in
    let numbers : List ℕ = c.args.numbers.now in
    let done : ℕ = c.loop-done.done in
    let count : ℕ = c.min-count.result in
    let front : List ℕ = bytes_of_numbers (take done numbers) in
    let piece : List ℕ = bytes_of_numbers (take (done + count - done) (drop done numbers)) in
    let old : DiskState = g.D.Disk.state c.args.disk.now in
    let mid : DiskState = g.D.Disk.state c.loop-done.disk in
    let new : DiskState = g.D.Disk.state c.write_piece.new.disk in
    appended_in_part c.args.beat.now (front ++ piece) (bytes_of_numbers numbers) old new c.in_err-write_piece.field-0.0 c.from_residual.result
    (omega (
      arith,
      length-append front piece,
      length-bytes_of_numbers numbers,
      length-bytes_of_numbers (take done numbers),
      length-bytes_of_numbers (take (done + count - done) (drop done numbers)),
      length-take done numbers,
      length-take (done + count - done) (drop done numbers),
      length-drop done numbers,
    ))
    c.from_residual.ensures.0
    (appended_then c.args.beat.now front piece old mid new tt (Err c.in_err-write_piece.field-0.0) (disks.lawful c.loop-done.disk)
    c.loop-done.invariant.so_far c.in_err-write_piece.ensures)

pub loop-done-preserved : goal.loop-done-preserved
loop-done-preserved g c =
    let disks = g.met.D.Disk g.world.𝓛 g.world.𝓜 g.world.𝓡 ((λ s x. x), (λ x. x), (λ x. x), λ x. x) in
    let numbers : List ℕ = c.args.numbers.now in
    let done : ℕ = c.loop-done.done in
    let count : ℕ = c.min-count.result in
    let old : DiskState = g.D.Disk.state c.args.disk.now in
    let mid : DiskState = g.D.Disk.state c.loop-done.disk in
    let new : DiskState = g.D.Disk.state c.write_piece.new.disk in
    record {
      within = omega arith;
      so_far = subst (λ (bytes : List ℕ). HasAppended {T = Unit {0}} {E = Failed} c.args.beat.now bytes old new (Ok tt)) (bytes_of_numbers-piece numbers done count)
          (appended_then c.args.beat.now (bytes_of_numbers (take done numbers)) (bytes_of_numbers (take (done + count - done) (drop done numbers)))
          old mid new tt (Ok tt) (disks.lawful c.loop-done.disk) c.loop-done.invariant.so_far c.in_ok-write_piece.ensures);
    }
