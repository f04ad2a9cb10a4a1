-- The walk stops at the first byte with another alignment, or at the end.
use Rattle.alignment_lines.proofs.Runs.{WalkedRun}
use Rattle.alignment_lines.proofs.run_at.Given as goal

abbrev pub invariant-loop-i : goal.invariant-loop-i
invariant-loop-i l = WalkedRun l.starts l.ends l.at l.start l.end l.i
