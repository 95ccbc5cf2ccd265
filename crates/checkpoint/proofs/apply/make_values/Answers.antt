-- The values before are those that were read.
use Rattle.std.proofs.Common.{◌≡◌, ℕ, List, arith}
use Rattle.store_model.specs.Slots.{values_bytes, set_bytes}
use Rattle.store_reader.specs.Reading.{own_in, master_in, len_in, before_in}
use Rattle.store_model.proofs.ValueBytes.{told_is}
use Rattle.checkpoint.proofs.ValueSteps.{next_made}
use Rattle.checkpoint.proofs.apply.make_values.Goals as goal

pub returns-clause-made : goal.returns-clause-made
returns-clause-made g c = λ read before told stands.
    let split = c.args.context.now.split.now in
    let p : ℕ = c.args.partition in
    let bytes : List ℕ = set_bytes (own_in split (master_in split p)) c.args.other (before_in split p) (len_in split p) read in
    let reads : values_bytes c.read_set.new.into ≡ bytes =
    told_is (g.D.Disk.state c.args.disk.now).bytes read
    (λ told. values_bytes c.read_set.new.into ≡ set_bytes (own_in split (master_in split p)) c.args.other (before_in split p) (len_in split p) told) told c.in_ok-read_set.ensures.values in
    next_made (g.P.VertexProgram.rules c.args.context.now.program.now) split c.args.context.now.round p c.next_values.result c.args.sums.now
    (g.D.Disk.state c.args.disk.now).bytes read bytes before c.read_set.new.into c.next_values.new.values (omega arith) told stands.fit c.next_values.ensures.fit
    (omega (arith, stands.long, c.requires.values)) (stands.stand (omega arith)) reads c.next_values.ensures.values c.next_values.ensures.changed
