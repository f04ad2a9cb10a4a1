use Rattle.filter_blocks.proofs.Chosen.{none-ending, some_left, flag-there, back_low, one-back, all_back, kept_back}
use native.Mathlib.Omega.{arith}
use Rattle.filter_blocks.proofs.kept_end.Goals as goal

pub loop-i-init : goal.loop-i-init
loop-i-init c = none-ending c.requires

pub bounds-flags-i : goal.bounds-flags-i
bounds-flags-i c = omega (arith, flag-there c.requires c.loop-i.invariant)

pub overflow_sub-q : goal.overflow_sub-q
overflow_sub-q c = omega (arith, some_left c.requires c.loop-i.invariant c.loop-i-test.true)

pub bounds-text-q : goal.bounds-text-q
bounds-text-q c =
    omega (arith, some_left c.requires c.loop-i.invariant c.loop-i-test.true, c.loop-i.invariant.counted.most)

pub overflow_sub-i-in-loop-i : goal.overflow_sub-i-in-loop-i
overflow_sub-i-in-loop-i c = omega (arith, back_low c.requires c.loop-i.invariant c.loop-i-test.true c.continues.ensures)

pub loop-i-smaller : goal.loop-i-smaller
loop-i-smaller c = omega (arith, some_left c.requires c.loop-i.invariant c.loop-i-test.true)

pub loop-i-preserved : goal.loop-i-preserved
loop-i-preserved c = one-back c.requires c.loop-i.invariant c.loop-i-test.true c.continues.ensures c.if-flags-i-ne0.false

pub returns-after-loop-i : goal.returns-after-loop-i
returns-after-loop-i c = all_back c.requires c.loop-i.invariant c.loop-i-test.false

pub returns-then-flags-i-ne0 : goal.returns-then-flags-i-ne0
returns-then-flags-i-ne0 c = kept_back c.requires c.loop-i.invariant c.loop-i-test.true c.if-flags-i-ne0.true
