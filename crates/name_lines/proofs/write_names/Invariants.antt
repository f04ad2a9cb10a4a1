-- Each turn writes the words of one line.
use Prim.Native.Nat.{◌-◌}
use lib.ListN.{length}
use Rattle.name_lines.proofs.Writing.{Writing}
use Rattle.name_lines.proofs.write_names.Given as goal

abbrev pub invariant-loop-start : goal.invariant-loop-start
invariant-loop-start l = Writing l.text l.initial.words l.initial.sizes l.words l.sizes l.start l.at l.k

abbrev pub decreases-loop-start : goal.decreases-loop-start
decreases-loop-start l = length l.text - l.start
