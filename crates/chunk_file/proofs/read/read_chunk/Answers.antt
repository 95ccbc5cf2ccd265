use Rattle.std.proofs.Common.{◌≡◌, ℕ, ◌+◌, ◌*◌, ◌≤◌, length, take, refl, sym, subst, ap, arith, length-take}
use Rattle.std.specs.Prelude.{IfSome}
use Rattle.ports.specs.Bytes.{bytes_at}
use Rattle.chunk_model.specs.ChunkBytes.{chunk_width}
use Rattle.chunk_file.specs.Chunks.{IsChunkIn, NoChunkIn}
use Rattle.chunk_file.proofs.Heads.{chunk_at_device, no_chunk_at_device, chunk_fits_device, as_told, as_told_of_two}
use Rattle.chunk_file.proofs.read.read_chunk.Goals as goal

pub returns-in-Some-clause-fits : goal.returns-in-Some-clause-fits
returns-in-Some-clause-fits g c =
    let layout = g.R.Record.layout c.args.format in
    let split = c.args.split.now in
    let into = c.get_chunk.new.into in
    let reads = c.in-Some.ensures.found in
    chunk_fits_device layout (g.met.R.Record.lawful c.args.format) split.vertices split.span (length into) c.args.partition c.args.at c.in_ok-room.room
    (g.D.Disk.state c.args.disk.now).size c.in-Some.count c.read_bytes.new.bytes (take c.in-Some.count into) c.in_ok-room.ensures.room
    (omega (arith, length-take c.in-Some.count into, reads.within)) reads.chunk

pub returns-in-Some-clause-found : goal.returns-in-Some-clause-found
returns-in-Some-clause-found g c =
    let layout = g.R.Record.layout c.args.format in
    let split = c.args.split.now in
    let into = c.get_chunk.new.into in
    let buffer = c.read_bytes.new.bytes in
    let room = c.in_ok-room.room in
    let reads = c.in-Some.ensures.found in
    as_told (λ told. take room buffer ≡ bytes_at c.args.at room told)
    (λ told. IsChunkIn layout split (length into) c.args.partition c.args.at told (take c.in-Some.count into))
    (g.D.Disk.state c.args.disk.now).bytes c.in_ok-room.ensures.read
    (λ told read. chunk_at_device layout split.vertices split.span (length into) c.args.partition c.args.at room buffer told (take c.in-Some.count into) read reads.chunk)

pub returns-in-None-clause-cause : goal.returns-in-None-clause-cause
returns-in-None-clause-cause g c =
    let layout = g.R.Record.layout c.args.format in
    let split = c.args.split.now in
    let into = c.get_chunk.new.into in
    let buffer = c.read_bytes.new.bytes in
    let room = c.in_ok-room.room in
    let size = (g.D.Disk.state c.args.disk.now).size in
    let disk = (g.met.D.Disk g.world.𝓛 g.world.𝓜 g.world.𝓡 ((λ s x. x), (λ x. x), (λ x. x), λ x. x)).lawful c.args.disk.now in
    let none = c.in-None.ensures.none in
    let most = length c.args.into.now in
    let size_of_chunk : ℕ = 8 + c.width.result * most in
    let fits : chunk_width layout.width most ≤ length buffer =
    omega (arith, c.requires.room, c.read_bytes.auto.bytes, length-take size_of_chunk c.args.bytes.now, ap (λ w. w * most) c.width.ensures) in (
      refl,
      subst (λ m. IfSome (g.D.Disk.state c.args.disk.now).bytes (NoChunkIn layout split m c.args.partition c.args.at)) (sym c.get_chunk.auto.into)
          (as_told_of_two (λ told. take room buffer ≡ bytes_at c.args.at room told) (λ told. size ≡ length told)
          (NoChunkIn layout split most c.args.partition c.args.at)
          (g.D.Disk.state c.args.disk.now).bytes c.in_ok-room.ensures.read disk.sized
          (λ told read sized. no_chunk_at_device layout (g.met.R.Record.lawful c.args.format) split.vertices split.span most c.args.partition c.args.at room size buffer told
          read sized c.in_ok-room.ensures.room fits none)),
    )
