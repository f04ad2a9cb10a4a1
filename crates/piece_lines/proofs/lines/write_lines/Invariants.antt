-- Each turn lays the line of one span.
use Rattle.piece_lines.proofs.Written.{Lined}
use Rattle.piece_lines.proofs.lines.write_lines.Given as goal

abbrev pub invariant-loop-i : goal.invariant-loop-i
invariant-loop-i l = Lined l.text l.starts l.ends l.initial.out l.at l.out l.reach l.i
