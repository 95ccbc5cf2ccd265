use Rattle.std.proofs.Common.{◌≡◌, drop}
use Rattle.store_model.specs.declared.field.TheConstants.{FIELDS}
use Rattle.store_model.specs.Damage.{first_bad, is_good}
use Rattle.store_checks.proofs.fields.bad_field.Given as goal

abbrev pub invariant-loop-field : goal.invariant-loop-field
invariant-loop-field l = first_bad (is_good l.engine l.head) (drop l.field-index FIELDS) ≡ first_bad (is_good l.engine l.head) FIELDS
