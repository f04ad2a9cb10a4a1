use Rattle.numbers.proofs.Decimal.{no_digit, digit-laid, digits-laid}
use Rattle.numbers.proofs.decimals.write_decimal.Goals as goal

pub loop-i-init : goal.loop-i-init
loop-i-init c = no_digit c.count_digits-count.ensures c.requires

pub loop-i-preserved : goal.loop-i-preserved
loop-i-preserved c = digit-laid c.loop-i.invariant c.loop-i-test.true

pub returns : goal.returns
returns c = digits-laid c.loop-i.invariant c.loop-i-test.false c.count_digits-count.ensures
