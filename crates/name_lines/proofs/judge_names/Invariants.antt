-- Each turn judges one line.
use Prim.Native.Nat.{◌-◌}
use lib.ListN.{length}
use Rattle.name_lines.proofs.Judging.{Judging}
use Rattle.name_lines.proofs.judge_names.Given as goal

abbrev pub invariant-loop-start : goal.invariant-loop-start
invariant-loop-start l = Judging l.text l.start l.bytes l.lines

abbrev pub decreases-loop-start : goal.decreases-loop-start
decreases-loop-start l = length l.text - l.start
