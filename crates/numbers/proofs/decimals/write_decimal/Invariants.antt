-- Each turn lays the last digit of what is left.
use Rattle.numbers.proofs.Decimal.{Shrinking}
use Rattle.numbers.proofs.decimals.write_decimal.Given as goal

abbrev pub invariant-loop-i : goal.invariant-loop-i
invariant-loop-i l = Shrinking l.number l.initial.out l.at l.out l.left l.i
