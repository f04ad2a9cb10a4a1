-- The case's buffer keeps its length, and no more answers differ than there are.
use Prim.Native.Nat.{◌-◌, ◌≤◌}
use mathlib.Core.Path.{◌≡◌}
use lib.ListN.{length}
use Rattle.replay.proofs.replayed.Given as goal

abbrev pub invariant-loop-answers : goal.invariant-loop-answers
invariant-loop-answers l = (3145728 ≡ length l.space) × (l.differing ≤ l.answers)

abbrev pub decreases-loop-answers : goal.decreases-loop-answers
decreases-loop-answers l = length l.list - l.answers
