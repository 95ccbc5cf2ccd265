use Rattle.std.proofs.Common.{◌≡◌, ◌∙◌, ℕ, List, Option, Some, None, IfSome, nat_eq, get_or, refl, ap}
use Rattle.ports.specs.Bytes.{bytes_at}
use Rattle.store_model.specs.Slots.{slot_start}
use Rattle.store_reader.specs.Reading.{own_in, TellsHead}
use Rattle.store_reader.proofs.Decoding.{tells_head}
use Rattle.store_reader.proofs.reading.slot_head.Goals as goal

-- where the device tells its bytes
told : (x : Option (List ℕ)) (P Q : List ℕ → Type 0) → IfSome x P → ((bytes : List ℕ) → P bytes → Q bytes) → IfSome x Q
told (Some bytes) P Q holds follows = follows bytes holds
told None P Q holds follows = tt

pub returns-clause-head : goal.returns-clause-head
returns-clause-head g c =
    let own = own_in c.args.split.now c.args.engine in
    let place : c.slot_start.result ≡ slot_start own c.args.slot = c.slot_start.ensures ∙ ap (λ n. slot_start n c.args.slot) c.own.ensures in
    told (g.D.Disk.state c.args.disk.now).bytes (λ bytes. c.read_at.new.into ≡ bytes_at c.slot_start.result 24 bytes)
    (TellsHead own c.args.slot (record { is_open = nat_eq (get_or c.read_at.new.into 0 0) 165; round = c.number_at.result; changed = c.number_at-2.result }))
    c.in_ok-read_at.ensures.filled
    (λ bytes filled. tells_head own c.args.slot c.slot_start.result c.read_at.new.into bytes _ place filled refl c.number_at.ensures c.number_at-2.ensures)
