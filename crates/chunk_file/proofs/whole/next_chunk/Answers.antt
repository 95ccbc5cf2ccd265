use Rattle.std.proofs.Common.{◌≡◌, ◌+◌, ◌*◌, length, take, refl, ap, arith, length-take}
use Rattle.ports.specs.Bytes.{bytes_at}
use Rattle.chunk_model.specs.Layout.{edge_layout}
use Rattle.chunk_model.proofs.LayoutLaws.{edge_layout_is}
use Rattle.chunk_file.specs.Scans.{NoEdgeChunk, IsNext}
use Rattle.chunk_file.proofs.Heads.{as_told, as_told_of_two, chunk_fits_device}
use Rattle.chunk_file.proofs.Scanning.{short_of_head, none_read, none_of_others, is_next}
use Rattle.chunk_file.proofs.whole.next_chunk.Goals as goal

pub returns-then-room-lt-HEAD_SIZE-clause-cause : goal.returns-then-room-lt-HEAD_SIZE-clause-cause
returns-then-room-lt-HEAD_SIZE-clause-cause g c =
    let disk = (g.met.D.Disk g.world.𝓛 g.world.𝓜 g.world.𝓡 ((λ s x. x), (λ x. x), (λ x. x), λ x. x)).lawful c.args.disk.now in
    let size = (g.D.Disk.state c.args.disk.now).size in (
      refl,
      as_told (λ told. size ≡ length told) (NoEdgeChunk c.args.format c.args.split.now (length c.args.edges.now) c.args.at) (g.D.Disk.state c.args.disk.now).bytes disk.sized
          (λ told sized. short_of_head c.args.format c.args.split.now (length c.args.edges.now) c.args.at c.in_ok-room.room size c.read_bytes.new.bytes told
          sized c.in_ok-room.ensures.room (omega (arith, c.requires.room, c.read_bytes.auto.bytes)) c.if-room-lt-HEAD_SIZE.true),
    )

pub returns-then-partition-split-clause-cause : goal.returns-then-partition-split-clause-cause
returns-then-partition-split-clause-cause g c =
    let disk = (g.met.D.Disk g.world.𝓛 g.world.𝓜 g.world.𝓡 ((λ s x. x), (λ x. x), (λ x. x), λ x. x)).lawful c.args.disk.now in
    let size = (g.D.Disk.state c.args.disk.now).size in
    let room = c.in_ok-room.room in
    let buffer = c.read_bytes.new.bytes in
    let most = length c.args.edges.now in (
      refl,
      as_told_of_two (λ told. take room buffer ≡ bytes_at c.args.at room told) (λ told. size ≡ length told)
          (NoEdgeChunk c.args.format c.args.split.now most c.args.at) (g.D.Disk.state c.args.disk.now).bytes c.in_ok-room.ensures.read disk.sized
          (λ told read sized. none_read c.args.format c.args.split.now most c.args.at room size buffer told
          read sized c.in_ok-room.ensures.room (omega (arith, c.requires.room, c.read_bytes.auto.bytes))
          (none_of_others c.args.format c.args.split.now most c.u32_at-partition.result (take room buffer) (omega (arith, c.requires.split.few))
          c.u32_at-partition.ensures (λ below. absurd (omega (arith, c.if-partition-split.true, below))))),
    )

pub returns-in-Some-clause-fits : goal.returns-in-Some-clause-fits
returns-in-Some-clause-fits g c =
    let edges = c.get_chunk.new.into in
    let reads = c.in-Some.ensures.found in
    let split = c.args.split.now in
    let within = chunk_fits_device (edge_layout c.args.format) (edge_layout_is c.args.format) split.vertices split.span (length edges) c.u32_at-partition.result c.args.at c.in_ok-room.room
    (g.D.Disk.state c.args.disk.now).size c.in-Some.count c.read_bytes.new.bytes (take c.in-Some.count edges) c.in_ok-room.ensures.room
    (omega (arith, length-take c.in-Some.count edges, reads.within)) reads.chunk in
    omega (arith, within, ap (λ w. w * c.in-Some.count) c.width.ensures)

pub returns-in-Some-clause-found : goal.returns-in-Some-clause-found
returns-in-Some-clause-found g c =
    let room = c.in_ok-room.room in
    let buffer = c.read_bytes.new.bytes in
    let most = length c.args.edges.now in
    as_told (λ told. take room buffer ≡ bytes_at c.args.at room told)
    (λ told. IsNext c.args.format c.args.split.now most c.args.at told c.u32_at-partition.result (8 + c.width.result * c.in-Some.count))
    (g.D.Disk.state c.args.disk.now).bytes c.in_ok-room.ensures.read
    (λ told read. is_next c.args.format c.args.split.now most c.u32_at-partition.result c.args.at room c.width.result c.in-Some.count buffer told c.get_chunk.new.into
    c.width.ensures c.get_chunk.auto.into (omega arith) read c.in-Some.ensures.found)

pub returns-in-None-clause-cause : goal.returns-in-None-clause-cause
returns-in-None-clause-cause g c =
    let disk = (g.met.D.Disk g.world.𝓛 g.world.𝓜 g.world.𝓡 ((λ s x. x), (λ x. x), (λ x. x), λ x. x)).lawful c.args.disk.now in
    let size = (g.D.Disk.state c.args.disk.now).size in
    let room = c.in_ok-room.room in
    let buffer = c.read_bytes.new.bytes in
    let most = length c.args.edges.now in (
      refl,
      as_told_of_two (λ told. take room buffer ≡ bytes_at c.args.at room told) (λ told. size ≡ length told)
          (NoEdgeChunk c.args.format c.args.split.now most c.args.at) (g.D.Disk.state c.args.disk.now).bytes c.in_ok-room.ensures.read disk.sized
          (λ told read sized. none_read c.args.format c.args.split.now most c.args.at room size buffer told
          read sized c.in_ok-room.ensures.room (omega (arith, c.requires.room, c.read_bytes.auto.bytes))
          (none_of_others c.args.format c.args.split.now most c.u32_at-partition.result (take room buffer) (omega (arith, c.requires.split.few))
          c.u32_at-partition.ensures (λ below. c.in-None.ensures.none))),
    )
