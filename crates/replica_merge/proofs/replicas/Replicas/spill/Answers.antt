-- What a spill, done or failed, leaves of the accumulators.
use Rattle.std.proofs.Common.{◌≡◌, ℕ, ◌^◌, ◌<◌, List, get_or, Some, Ok, length, arith, subst, ap}
use Rattle.graph_model.specs.Partitions.{part_len}
use Rattle.ports.specs.declared.faults.Failed.{Failed}
use Rattle.ports.specs.Disk.{DiskState, IsDisk}
use Rattle.replica_merge.specs.declared.replicas.Replicas.{Replicas}
use Rattle.replica_merge.specs.Appending.{HasAppended}
use Rattle.replica_merge.specs.Numbers.{bytes_of_numbers}
use Rattle.replica_merge.proofs.NumberLemmas.{length-bytes_of_numbers}
use Rattle.replica_merge.proofs.PlaceLemmas.{told_kept, told_kept_others, told_written, noted_within}
use Rattle.replica_merge.proofs.replicas.Replicas.spill.Goals as goal

pub returns-in_err-write_numbers-clause-others : goal.returns-in_err-write_numbers-clause-others
returns-in_err-write_numbers-clause-others g c within =
    let disks = g.met.D.Disk g.world.𝓛 g.world.𝓜 g.world.𝓡 ((λ s x. x), (λ x. x), (λ x. x), λ x. x) in
    let r : Replicas = c.args.self.now in
    let old : DiskState = g.D.Disk.state c.args.disk.now in
    let law : IsDisk old = disks.lawful c.args.disk.now in
    told_kept r.places.items (part_len r.split.vertices r.split.parts) r.split.parts c.args.partition r.unit old.size (length (bytes_of_numbers c.as_slice.result.now))
    old.bytes (g.D.Disk.state c.write_numbers.new.disk).bytes law.sized c.in_err-write_numbers.ensures.appended.bytes within

pub returns-clause-within : goal.returns-clause-within
returns-clause-within g c within =
    let r : Replicas = c.args.self.now in
    let old : DiskState = g.D.Disk.state c.args.disk.now in
    let new : DiskState = g.D.Disk.state c.write_numbers.new.disk in
    let same : part_len r.split.vertices r.split.parts c.args.partition ≡ part_len r.split.vertices r.split.parts r.partition =
    ap (part_len r.split.vertices r.split.parts) c.requires.partition in
    noted_within r.places.items (part_len r.split.vertices r.split.parts) r.split.parts c.args.partition c.size-at.result old.size new.size
    (omega (arith, r.noted, r.places.ok.0)) (omega (arith, r.begun, c.requires.partition))
    (omega (arith, c.in_ok-write_numbers.ensures.appended.grown, length-bytes_of_numbers c.as_slice.result.now, c.as_slice.ensures.len, r.long, same))
    c.in_ok-write_numbers.ensures.appended.no_shorter within

pub returns-clause-spilled : goal.returns-clause-spilled
returns-clause-spilled g c =
    let disks = g.met.D.Disk g.world.𝓛 g.world.𝓜 g.world.𝓡 ((λ s x. x), (λ x. x), (λ x. x), λ x. x) in
    let r : Replicas = c.args.self.now in
    let old : DiskState = g.D.Disk.state c.args.disk.now in
    let new : DiskState = g.D.Disk.state c.write_numbers.new.disk in
    let law : IsDisk old = disks.lawful c.args.disk.now in
    let same : part_len r.split.vertices r.split.parts c.args.partition ≡ part_len r.split.vertices r.split.parts r.partition =
    ap (part_len r.split.vertices r.split.parts) c.requires.partition in
    let written : HasAppended {T = Unit {0}} {E = Failed} c.args.beat.now (bytes_of_numbers r.sums.items) old new (Ok tt) =
    subst (λ (numbers : List ℕ). HasAppended {T = Unit {0}} {E = Failed} c.args.beat.now (bytes_of_numbers numbers) old new (Ok tt)) c.as_slice.ensures.value c.in_ok-write_numbers.ensures.appended in
    told_written r.places.items c.args.partition (part_len r.split.vertices r.split.parts c.args.partition) r.unit c.size-at.result old.size r.sums.items
    old.bytes new.bytes
    (omega (arith, r.begun, r.noted, r.places.ok.0, c.requires.partition)) (omega (arith, r.long, same, c.as_slice.ensures.len, ap length c.as_slice.ensures.value)) c.size-at.ensures (subst (λ (numbers : List ℕ). (k : ℕ) → get_or numbers k 0 < 2 ^ 64) c.as_slice.ensures.value c.in_ok-write_numbers.ensures.fit) law.sized written.appended

pub returns-clause-others : goal.returns-clause-others
returns-clause-others g c within =
    let disks = g.met.D.Disk g.world.𝓛 g.world.𝓜 g.world.𝓡 ((λ s x. x), (λ x. x), (λ x. x), λ x. x) in
    let r : Replicas = c.args.self.now in
    let old : DiskState = g.D.Disk.state c.args.disk.now in
    let law : IsDisk old = disks.lawful c.args.disk.now in
    told_kept_others r.places.items (Some c.size-at.result) (part_len r.split.vertices r.split.parts) r.split.parts c.args.partition r.unit old.size (length (bytes_of_numbers c.as_slice.result.now))
    old.bytes (g.D.Disk.state c.write_numbers.new.disk).bytes law.sized c.in_ok-write_numbers.ensures.appended.bytes within
