use Rattle.std.proofs.Common.{◌<◌, length, rules, refl, sym, ◌∙◌, ap}
use Rattle.std.specs.Prelude.{slice_get}
use Rattle.std.proofs.lemmas.Option.{slice_get_read}
use Rattle.store_reader.proofs.Sets.{set_at}
use Rattle.store_reader.proofs.reading.read_values.Goals as goal

pub returns-clause-values : goal.returns-clause-values
returns-clause-values g c =
    let within : c.master_of.result < length c.args.devices.now = search rules in
    set_at g.D.Disk.state c.args.split.now c.args.devices.now c.args.slot c.args.partition c.requires.partition c.read_set.result c.index-devices-master_of.result c.read_set.new.into _
    (ap (λ m. slice_get c.args.devices.now m) (sym c.master_of.ensures) ∙ slice_get_read c.args.devices.now (length c.args.devices.now) c.master_of.result c.index-devices-master_of.result refl within (search rules))
    (search rules) c.read_set.ensures.held c.read_set.ensures.values
