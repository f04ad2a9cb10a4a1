-- Every alignment so far is as long as its width.
use mathlib.Core.Path.{◌≡◌}
use lib.Dec.{eqb}
use Rattle.boundaries.specs.Spanning.{spans_below}
use Rattle.boundaries.proofs.widths_match.Given as goal

abbrev pub invariant-loop-j : goal.invariant-loop-j
invariant-loop-j l = eqb l.apart 0 ≡ spans_below l.widths l.starts l.ends l.j
