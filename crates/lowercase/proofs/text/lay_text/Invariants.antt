-- A block at once where it may be, else step by step; and step by step what is less than a block.
use Prim.Native.Nat.{◌-◌}
use lib.ListN.{length}
use Rattle.lowercase.proofs.Running.{Running}
use Rattle.lowercase.proofs.text.lay_text.Given as goal

abbrev pub invariant-loop-i : goal.invariant-loop-i
invariant-loop-i l = Running l.text 0 l.initial.out 0 l.out l.i l.at

abbrev pub decreases-loop-i : goal.decreases-loop-i
decreases-loop-i l = length l.text - l.i
