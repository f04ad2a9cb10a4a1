use native.Mathlib.Omega.{arith}
use Rattle.find.proofs.MatchesFrom.{first-there, match-inside}
use Rattle.find.proofs.Found.{none-counted, count-bounds, next-counted, all-counted, one-counted}
use Rattle.find.proofs.count_places.Goals as goal

pub returns-then-first-text : goal.returns-then-first-text
returns-then-first-text c = one-counted _ _ c.requires.1 c.if-first-text.true

pub loop-p-init : goal.loop-p-init
loop-p-init c = none-counted c.requires.1 c.if-first-text.false

pub overflow_add-count : goal.overflow_add-count
overflow_add-count c = omega (arith, count-bounds c.loop-p.invariant c.count_between.ensures)

pub overflow_add-count-in-loop-p : goal.overflow_add-count-in-loop-p
overflow_add-count-in-loop-p c = omega (arith, c.loop-p.invariant.small, count-bounds c.loop-p.invariant c.count_between.ensures)

pub overflow_add-at : goal.overflow_add-at
overflow_add-at c = omega (arith, match-inside c.loop-p.invariant.stands c.loop-p-test.true)

pub next_match-p-requires : goal.next_match-p-requires
next_match-p-requires c =
    let s = c.loop-p.invariant.stands in
    (s.some, omega (arith, s.some, match-inside s c.loop-p-test.true))

pub loop-p-smaller : goal.loop-p-smaller
loop-p-smaller c =
    let s = c.loop-p.invariant.stands in
    omega (arith, s.some, (first-there s).from, match-inside s c.loop-p-test.true)

pub loop-p-preserved : goal.loop-p-preserved
loop-p-preserved c = next-counted c.loop-p.invariant c.count_between.ensures c.loop-p-test.true c.next_match-p.ensures

pub overflow_add-result : goal.overflow_add-result
overflow_add-result c = omega (arith, c.loop-p.invariant.small, count-bounds c.loop-p.invariant c.count_between-2.ensures)

pub returns : goal.returns
returns c = all-counted c.loop-p.invariant c.count_between-2.ensures c.loop-p-test.false c.requires.0
