use native.Mathlib.Omega.{arith}
use Rattle.find.proofs.Candidates.{absent-one, first_found, first-none}
use Rattle.find.proofs.search.next_match.Goals as goal

pub next_candidate-i-requires : goal.next_candidate-i-requires
next_candidate-i-requires c = (omega arith, omega arith)

pub loop-i-init : goal.loop-i-init
loop-i-init c = c.next_candidate-i.ensures

pub occurs_at-requires : goal.occurs_at-requires
occurs_at-requires c = (omega arith, omega arith)

pub returns-then-occurs_at : goal.returns-then-occurs_at
returns-then-occurs_at c = first_found c.loop-i.invariant c.occurs_at.ensures c.if-occurs_at.true

pub next_candidate-i-requires-in-loop-i : goal.next_candidate-i-requires-in-loop-i
next_candidate-i-requires-in-loop-i c = (omega arith, omega arith)

pub loop-i-preserved : goal.loop-i-preserved
loop-i-preserved c =
    absent-one c.loop-i.invariant c.occurs_at.ensures c.if-occurs_at.false c.next_candidate-i-in-loop-i.ensures

pub returns : goal.returns
returns c = first-none c.loop-i.invariant c.requires.0 (omega arith)
