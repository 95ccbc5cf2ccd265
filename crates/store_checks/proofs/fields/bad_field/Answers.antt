use Rattle.std.proofs.Common.{◌≡◌, ◌<◌, ◌≤◌, ◌∙◌, sym, length, true, get_or, arith}
use Rattle.store_model.specs.declared.field.Field.TheVariants.{Format}
use Rattle.store_model.specs.declared.field.TheConstants.{FIELDS}
use Rattle.store_model.specs.Damage.{is_good}
use Rattle.store_checks.proofs.FieldTests.{passes, passed}
use Rattle.store_checks.proofs.GoodHeads.{small_engine}
use Rattle.store_checks.proofs.fields.bad_field.Goals as goal

pub loop-field-preserved : goal.loop-field-preserved
loop-field-preserved c =
    let test = is_good c.args.engine c.args.head.now in
    let within : c.loop-field.field-index < length FIELDS = omega arith in
    let good : test (get_or FIELDS c.loop-field.field-index Format) ≡ true = sym c.is_good.ensures ∙ c.if-not-is_good.false in
    passes test FIELDS c.loop-field.field-index Format within good c.loop-field.invariant

pub returns-clause-bad : goal.returns-clause-bad
returns-clause-bad c =
    let end : length FIELDS ≤ c.loop-field.field-index = omega arith in
    passed (is_good c.args.engine c.args.head.now) FIELDS c.loop-field.field-index end c.loop-field.invariant

pub returns-clause-small : goal.returns-clause-small
returns-clause-small c =
    let end : length FIELDS ≤ c.loop-field.field-index = omega arith in
    small_engine c.args.engine c.args.head.now (λ k. omega (arith, c.type_inv.head k))
    (sym (passed (is_good c.args.engine c.args.head.now) FIELDS c.loop-field.field-index end c.loop-field.invariant))
