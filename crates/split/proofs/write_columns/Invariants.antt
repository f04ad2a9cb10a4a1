-- Each turn writes the two numbers and the two stretches of one more piece.
use Rattle.split.proofs.Joined.{AllGoing}
use Rattle.split.proofs.write_columns.Given as goal

abbrev pub invariant-loop-k : goal.invariant-loop-k
invariant-loop-k l = AllGoing l.starts l.ends l.from l.to l.shift l.initial.shifts l.initial.lengths l.initial.out_starts l.initial.out_ends l.at l.k l.shifts l.lengths l.out_starts l.out_ends
