use Rattle.std.proofs.Common.{◌≡◌, ◌<◌, ◌≤◌, ◌∙◌, sym, length, true, get_or, arith}
use Rattle.store_model.specs.declared.field.Field.TheVariants.{Format}
use Rattle.store_model.specs.declared.field.TheConstants.{FIELDS}
use Rattle.store_model.specs.Damage.{is_same}
use Rattle.store_checks.proofs.FieldTests.{passes, passed}
use Rattle.store_checks.proofs.fields.other_field.Goals as goal

pub loop-field-preserved : goal.loop-field-preserved
loop-field-preserved c =
    let test = is_same c.args.first.now c.args.head.now in
    let within : c.loop-field.field-index < length FIELDS = omega arith in
    let good : test (get_or FIELDS c.loop-field.field-index Format) ≡ true = sym c.is_same.ensures ∙ c.if-not-is_same.false in
    passes test FIELDS c.loop-field.field-index Format within good c.loop-field.invariant

pub returns : goal.returns
returns c =
    let end : length FIELDS ≤ c.loop-field.field-index = omega arith in
    passed (is_same c.args.first.now c.args.head.now) FIELDS c.loop-field.field-index end c.loop-field.invariant
