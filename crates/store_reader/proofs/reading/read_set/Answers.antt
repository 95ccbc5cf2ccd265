use Rattle.std.proofs.Common.{◌≡◌, ◌∙◌, ap, arith}
use Rattle.partitioner.proofs.Owned.{own_before-fits}
use Rattle.store_model.specs.Slots.{slot_start}
use Rattle.store_model.proofs.SlotLemmas.{set_within}
use Rattle.store_reader.specs.Reading.{own_in, master_in, before_in, len_in}
use Rattle.store_reader.proofs.reading.read_set.Goals as goal

pub read_at-requires : goal.read_at-requires
read_at-requires g c =
    let split = c.args.split.now in
    let master = master_in split c.args.partition in
    let own : c.own-own.result ≡ own_in split master = c.own-own.ensures ∙ ap (own_in split) c.master_of.ensures in
    let start : c.slot_start.result ≡ slot_start (own_in split master) c.args.slot = c.slot_start.ensures ∙ ap (λ n. slot_start n c.args.slot) own in
    let before : c.from.result ≡ before_in split c.args.partition = c.from.ensures ∙ c.before-2.ensures in
    let fits = own_before-fits split.vertices split.engines split.parts c.args.partition c.requires.partition in
    let within = set_within (own_in split master) c.args.slot (before_in split c.args.partition) (len_in split c.args.partition) c.requires.slot fits in
    let bytes = c.requires.bytes in
    let exact = c.requires.exact in
    omega arith
