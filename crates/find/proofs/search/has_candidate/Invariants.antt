-- `hit` says whether the two bytes stood together at one of the indices so far.
use mathlib.Core.Path.{◌≡◌}
use mathlib.Core.Bool.{not}
use Rattle.find.specs.Searching.{apart_below}
use Rattle.find.proofs.search.has_candidate.Given as goal

abbrev pub invariant-loop-j : goal.invariant-loop-j
invariant-loop-j l = l.hit ≡ not (apart_below l.a l.b l.first l.last l.j)
