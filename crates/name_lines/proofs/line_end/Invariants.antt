-- Each turn passes one byte.
use Rattle.name_lines.proofs.Lines.{Within}
use Rattle.name_lines.proofs.line_end.Given as goal

abbrev pub invariant-loop-i : goal.invariant-loop-i
invariant-loop-i l = Within l.text l.start l.i
