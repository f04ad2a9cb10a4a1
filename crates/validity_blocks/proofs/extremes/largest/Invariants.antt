-- The larger of the largest so far and the largest of the rest is the text's.
use Rattle.validity_blocks.proofs.Largest.{LargestSoFar}
use Rattle.validity_blocks.proofs.extremes.largest.Given as goal

abbrev pub invariant-loop-b : goal.invariant-loop-b
invariant-loop-b l = LargestSoFar l.s l.most l.b-index
