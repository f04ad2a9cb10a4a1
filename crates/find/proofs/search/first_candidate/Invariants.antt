-- `left` counts from the first of the indices so far at which the two bytes stood together.
use Prim.Native.Nat.{◌-◌, ◌≤◌}
use Rattle.find.proofs.Candidates.{Candidate}
use Rattle.find.proofs.search.first_candidate.Given as goal

abbrev pub invariant-loop-j : goal.invariant-loop-j
invariant-loop-j l = Candidate l.a l.b l.first l.last l.j (64 - l.left) × (l.left ≤ 64)
