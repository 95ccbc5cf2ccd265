use Rattle.std.proofs.Common.{◌≡◌, List, ℕ, drop, length, ◌∙◌, ap, arith}
use Rattle.std.proofs.lemmas.List.{take_at}
use Rattle.ports.specs.Bytes.{after_write}
use Rattle.mem_devices.specs.Overlays.{after_write-grown}
use Rattle.mem_devices.proofs.call.overlay.Goals as goal

pub returns-clause-ok : goal.returns-clause-ok
returns-clause-ok c =
    let at = c.args.at in
    let piece = c.args.piece.now in
    let put = c.put.new.bytes in
    let long : length put ≡ c.grow.new.bytes.len = omega (arith, c.put.auto.bytes, c.deref_mut.ensures.len) in
    take_at put (drop (length put) c.grow.new.bytes.items) c.grow.new.bytes.len long
    ∙ c.put.ensures
    ∙ ap (λ (xs : List ℕ). after_write at piece xs) (c.deref_mut.ensures.value ∙ c.in_ok-grow.ensures.ok)
    ∙ after_write-grown at piece c.args.bytes.now.items
