-- Each turn takes the last digit away and counts one more.
use Rattle.numbers.proofs.Decimal.{CountedDigits}
use Rattle.numbers.proofs.decimals.count_digits.Given as goal

abbrev pub invariant-loop-left : goal.invariant-loop-left
invariant-loop-left l = CountedDigits l.number l.left l.count

abbrev pub decreases-loop-left : goal.decreases-loop-left
decreases-loop-left l = l.left
