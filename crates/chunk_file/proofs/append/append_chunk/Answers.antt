use Rattle.std.proofs.Common.{◌≡◌, sym, subst}
use Rattle.std.specs.Prelude.{IfSome, length}
use Rattle.ports.specs.Told.{AsTold}
use Rattle.ports.specs.Sink.{Appends}
use Rattle.chunk_file.proofs.Heads.{appended}
use Rattle.chunk_file.proofs.append.append_chunk.Goals as goal

pub returns-clause-appended : goal.returns-clause-appended
returns-clause-appended g c =
    let disk = (g.met.D.Disk g.world.𝓛 g.world.𝓜 g.world.𝓡 ((λ s x. x), (λ x. x), (λ x. x), λ x. x)).lawful c.args.disk.now in
    let old = (g.D.Disk.state c.args.disk.now).bytes in
    let new = (g.D.Disk.state c.write_at.new.self).bytes in
    subst (λ piece. AsTold (Appends piece) old new) c.put_chunk.ensures
    (appended c.put_chunk.new.into c.size-at.result old new
    (subst (λ at. IfSome old (λ bytes. at ≡ length bytes)) (sym c.size-at.ensures) disk.sized)
    c.in_ok-write_at.ensures.written)
