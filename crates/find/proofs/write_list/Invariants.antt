-- Each turn lays one match, and what is before it.
use Prim.Native.Nat.{◌-◌}
use lib.ListN.{length}
use Rattle.find.proofs.Found.{Listed}
use Rattle.find.proofs.write_list.Given as goal

abbrev pub invariant-loop-start : goal.invariant-loop-start
invariant-loop-start l = Listed l.text l.literal l.initial.out l.out l.i l.at l.start

abbrev pub decreases-loop-start : goal.decreases-loop-start
decreases-loop-start l = length l.text - l.at
