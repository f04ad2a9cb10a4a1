-- Each turn counts one more block; what is left of the text is a block too.
use Prim.Native.Nat.{◌*◌}
use Rattle.utf8.specs.Counting.{Counted}
use Rattle.utf8.proofs.count.count_leads.Given as goal

abbrev pub invariant-loop-k : goal.invariant-loop-k
invariant-loop-k l = Counted l.s l.n (128 * l.k)
