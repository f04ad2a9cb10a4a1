-- `bad` says whether one of the bytes so far is invalid.
use Rattle.validity_blocks.proofs.Valid.{InvalidSoFar}
use Rattle.validity_blocks.proofs.blocks.all_stand.Given as goal

abbrev pub invariant-loop-j : goal.invariant-loop-j
invariant-loop-j g l = InvalidSoFar l.s l.bad l.j
