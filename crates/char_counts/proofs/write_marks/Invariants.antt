-- Each turn writes one mark more.
use Rattle.char_counts.proofs.Counts.{Marking}
use Rattle.char_counts.proofs.write_marks.Given as goal

abbrev pub invariant-loop-k : goal.invariant-loop-k
invariant-loop-k l = Marking l.text l.initial.marks l.marks l.count l.k
