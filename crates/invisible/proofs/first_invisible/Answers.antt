use native.Mathlib.Omega.{arith}
use Rattle.invisible.proofs.Characters.{none_passed, found, passed, lead-step, all-passed}
use Rattle.invisible.proofs.first_invisible.Goals as goal

pub loop-i-init : goal.loop-i-init
loop-i-init c = none_passed _

pub returns-then-is_invisible : goal.returns-then-is_invisible
returns-then-is_invisible c =
    found c.loop-i.invariant c.loop-i-test.true c.code_at.ensures c.is_invisible.ensures c.if-is_invisible.true

pub overflow_add-i : goal.overflow_add-i
overflow_add-i c = omega (arith, (lead-step _ c.lead_len-i.ensures).1)

pub loop-i-smaller : goal.loop-i-smaller
loop-i-smaller c = omega (arith, (lead-step _ c.lead_len-i.ensures).0)

pub loop-i-preserved : goal.loop-i-preserved
loop-i-preserved c =
    passed c.loop-i.invariant c.loop-i-test.true c.code_at.ensures c.is_invisible.ensures c.if-is_invisible.false c.lead_len-i.ensures

pub returns : goal.returns
returns c = all-passed c.loop-i.invariant c.loop-i-test.false
