use native.Mathlib.Omega.{arith}
use Rattle.char_columns.proofs.FirstBytes.{none-near, next-near, near-small, all_near}
use Rattle.char_columns.proofs.first_leads.Goals as goal

pub overflow_sub-skipped : goal.overflow_sub-skipped
overflow_sub-skipped c = omega (arith, c.requires.0.few)

pub loop-j-init : goal.loop-j-init
loop-j-init c = none-near c.requires.0

pub overflow_add-from : goal.overflow_add-from
overflow_add-from c = omega (arith, c.requires.0.inside)

pub bounds-text-from : goal.bounds-text-from
bounds-text-from c = omega (arith, c.requires.0.inside)

pub overflow_add-count : goal.overflow_add-count
overflow_add-count c = omega (arith, c.requires.0.few)

pub bounds-flags-skipped : goal.bounds-flags-skipped
bounds-flags-skipped c = omega (arith, c.requires.0.few)

pub loop-j-preserved : goal.loop-j-preserved
loop-j-preserved c = next-near c.requires.0 c.loop-j.invariant (omega arith) c.continues-begins.ensures c.requires.1

pub overflow_add-count-in-loop-j : goal.overflow_add-count-in-loop-j
overflow_add-count-in-loop-j c = omega (arith, near-small c.requires.0 (loop-j-preserved c))

pub returns : goal.returns
returns c = all_near c.requires.0 c.loop-j.invariant (omega arith)
