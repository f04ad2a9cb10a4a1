-- Every byte so far can stand where it does.
use Rattle.validity.proofs.ValidAt.{ValidSoFar}
use Rattle.validity.proofs.valid_between.Given as goal

abbrev pub invariant-loop-i : goal.invariant-loop-i
invariant-loop-i l = ValidSoFar l.s l.from l.to l.i
