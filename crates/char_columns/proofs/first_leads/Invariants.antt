-- Each turn counts one more byte of the block, if it is one of the first.
use Rattle.char_columns.proofs.FirstBytes.{Nearing}
use Rattle.char_columns.proofs.first_leads.Given as goal

abbrev pub invariant-loop-j : goal.invariant-loop-j
invariant-loop-j l = Nearing l.text l.from l.n l.count l.j
