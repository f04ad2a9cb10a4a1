-- The byte is stored where the number ends.
use native.Mathlib.Omega.{arith}
use Rattle.numbers.proofs.Decimal.{length-field, number-within, field-laid}
use Rattle.numbers.proofs.decimals.write_field.Goals as goal

pub write_decimal-end-requires : goal.write_decimal-end-requires
write_decimal-end-requires c = omega (arith, c.requires, length-field c.args.number c.args.after)

pub bounds-out-end : goal.bounds-out-end
bounds-out-end c = (number-within _ _ c.requires c.write_decimal-end.ensures).0

pub overflow_add-result : goal.overflow_add-result
overflow_add-result c = omega (arith, number-within _ _ c.requires c.write_decimal-end.ensures)

pub returns : goal.returns
returns c = field-laid _ _ c.requires c.write_decimal-end.ensures
