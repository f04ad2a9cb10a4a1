-- Nothing so far is cut.
use mathlib.Core.Path.{◌≡◌}
use Rattle.boundaries.specs.Monotone.{uncut_below}
use Rattle.boundaries.proofs.all_uncut.Given as goal

abbrev pub invariant-loop-i : goal.invariant-loop-i
invariant-loop-i l = l.ok ≡ uncut_below l.original l.starts l.ends l.i
