-- Block by block, and singly what is left.
use Prim.Native.Nat.{◌-◌}
use lib.ListN.{length}
use Rattle.code_points.proofs.Blocks.{Blocks}
use Rattle.code_points.proofs.lay_text.Given as goal

abbrev pub invariant-loop-i : goal.invariant-loop-i
invariant-loop-i l = Blocks l.codes l.initial.out l.from l.until l.out l.at l.i

abbrev pub decreases-loop-i : goal.decreases-loop-i
decreases-loop-i l = length l.codes - l.i
