-- Each turn counts one more byte; a count is at most the bytes passed, of which there are 255.
use Rattle.utf8.specs.Counting.{Counted}
use Rattle.utf8.proofs.count.block_leads.Given as goal

abbrev pub invariant-loop-b : goal.invariant-loop-b
invariant-loop-b l = Counted l.s l.n l.b-index
