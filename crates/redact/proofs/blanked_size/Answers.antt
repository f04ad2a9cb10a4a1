use native.Mathlib.Omega.{arith}
use Rattle.redact.proofs.BlankedSize.{none-sized, more-sized, all-sized, match-within}
use Rattle.redact.proofs.blanked_size.Goals as goal

pub loop-p-init : goal.loop-p-init
loop-p-init c = none-sized c.requires

pub overflow_sub-p : goal.overflow_sub-p
overflow_sub-p c = c.loop-p.invariant.onward

pub sum-requires : goal.sum-requires
sum-requires c = c.loop-p.invariant.small

pub overflow_add-at : goal.overflow_add-at
overflow_add-at c = omega (arith, (match-within c.loop-p.invariant c.loop-p-test.true).1)

pub next_match-p-requires : goal.next_match-p-requires
next_match-p-requires c = match-within c.loop-p.invariant c.loop-p-test.true

pub loop-p-smaller : goal.loop-p-smaller
loop-p-smaller c = omega (arith, match-within c.loop-p.invariant c.loop-p-test.true, c.loop-p.invariant.onward)

pub loop-p-preserved : goal.loop-p-preserved
loop-p-preserved c =
    more-sized c.loop-p.invariant c.loop-p-test.true c.sum.ensures c.sum-total.ensures c.next_match-p.ensures

pub overflow_sub-p-2 : goal.overflow_sub-p-2
overflow_sub-p-2 c = c.loop-p.invariant.onward

pub sum-requires-2 : goal.sum-requires-2
sum-requires-2 c = c.loop-p.invariant.small

pub returns : goal.returns
returns c = all-sized c.loop-p.invariant (omega arith) c.sum-2.ensures
