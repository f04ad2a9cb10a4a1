-- The larger of the largest so far and the largest of the rest is the text's, and so is the lesser of the least.
use Rattle.validity_blocks.proofs.Largest.{LargestSoFar}
use Rattle.validity_blocks.proofs.LeastLead.{LeastSoFar}
use Rattle.validity_blocks.proofs.extremes.bounds_of.Given as goal

abbrev pub invariant-loop-b : goal.invariant-loop-b
invariant-loop-b l = LargestSoFar l.s l.most l.b-index × LeastSoFar l.s l.least l.b-index
