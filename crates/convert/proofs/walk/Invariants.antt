-- Each turn walks a block of alignments; the walk is left at the first that ends past the target, or after the last.
use Prim.Native.Nat.{◌-◌}
use lib.ListN.{length}
use Rattle.convert.proofs.Walked.{Walk}
use Rattle.convert.proofs.walk.Given as goal

abbrev pub invariant-loop-i : goal.invariant-loop-i
invariant-loop-i l = Walk l.starts l.ends l.from l.to l.found l.i

abbrev pub decreases-loop-i : goal.decreases-loop-i
decreases-loop-i l = length l.ends - l.i
