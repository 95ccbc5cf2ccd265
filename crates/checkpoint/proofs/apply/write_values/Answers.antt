-- The values are made, and then written.
use Rattle.std.proofs.Common.{◌≡◌, ℕ, ◌∙◌, ap}
use Rattle.partitioner.proofs.Owned.{own_before-fits}
use Rattle.ports.specs.Bytes.{after_write}
use Rattle.ports.specs.Disk.{DiskState, IsDisk}
use Rattle.store_model.specs.Slots.{set_start, values_bytes}
use Rattle.store_reader.specs.Reading.{own_in, master_in, len_in, before_in}
use Rattle.checkpoint.specs.Applied.{changed_by}
use Rattle.checkpoint.proofs.SlotSteps.{closed_start, set_told_other, told_two}
use Rattle.checkpoint.proofs.apply.write_values.Goals as goal

pub returns-in_err-changed-clause-any_moment : goal.returns-in_err-changed-clause-any_moment
returns-in_err-changed-clause-any_moment g c =
    let disks = g.met.D.Disk g.world.𝓛 g.world.𝓜 g.world.𝓡 ((λ s x. x), (λ x. x), (λ x. x), λ x. x) in
    let split = c.args.context.now.split.now in
    closed_start (own_in split (master_in split c.args.partition)) c.args.slot c.args.context.now.beat.now (g.D.Disk.state c.args.disk.now) (disks.lawful c.args.disk.now) c.requires.closed

pub returns-in_err-write_set-clause-bytes : goal.returns-in_err-write_set-clause-bytes
returns-in_err-write_set-clause-bytes g c =
    let disks = g.met.D.Disk g.world.𝓛 g.world.𝓜 g.world.𝓡 ((λ s x. x), (λ x. x), (λ x. x), λ x. x) in
    let split = c.args.context.now.split.now in
    let start : DiskState = g.D.Disk.state c.args.disk.now in
    let law : IsDisk start = disks.lawful c.args.disk.now in
    set_told_other (own_in split (master_in split c.args.partition)) c.args.slot (before_in split c.args.partition) (len_in split c.args.partition) start.size start.bytes (g.D.Disk.state c.write_set.new.disk).bytes
    c.requires.slot (own_before-fits split.vertices split.engines split.parts c.args.partition c.requires.partition) law.sized c.requires.exact.now c.write_set.ensures.bytes

pub returns-clause-bytes : goal.returns-clause-bytes
returns-clause-bytes g c =
    let disks = g.met.D.Disk g.world.𝓛 g.world.𝓜 g.world.𝓡 ((λ s x. x), (λ x. x), (λ x. x), λ x. x) in
    let split = c.args.context.now.split.now in
    let start : DiskState = g.D.Disk.state c.args.disk.now in
    let law : IsDisk start = disks.lawful c.args.disk.now in
    set_told_other (own_in split (master_in split c.args.partition)) c.args.slot (before_in split c.args.partition) (len_in split c.args.partition) start.size start.bytes (g.D.Disk.state c.write_set.new.disk).bytes
    c.requires.slot (own_before-fits split.vertices split.engines split.parts c.args.partition c.requires.partition) law.sized c.requires.exact.now c.write_set.ensures.bytes

pub returns-clause-stored : goal.returns-clause-stored
returns-clause-stored g c = λ read now before told_read told_now stands.
    let split = c.args.context.now.split.now in
    let p : ℕ = c.args.partition in
    let rules = g.P.VertexProgram.rules c.args.context.now.program.now in
    let at : ℕ = set_start (own_in split (master_in split p)) c.args.slot (before_in split p) in
    let made = c.in_ok-changed.ensures.made read before told_read stands in
    let written : now ≡ after_write at (values_bytes c.make_values.new.values) read =
    told_two (λ old new. new ≡ after_write at (values_bytes c.make_values.new.values) old) (g.D.Disk.state c.args.disk.now).bytes (g.D.Disk.state c.write_set.new.disk).bytes read now told_read told_now
    c.in_ok-write_set.ensures.written in
    record {
      written = written ∙ ap (λ values. after_write at (values_bytes values) read) made.0;
      counted = made.1 ∙ ap (changed_by c.args.context.now.round before) made.0;
    }
