use native.Mathlib.Omega.{arith}
use Rattle.word_pairs.proofs.Counts.{none-zero, zero_more, other_more, zeros-end}
use Rattle.word_pairs.proofs.zeros.Goals as goal
use Rattle.word_pairs.proofs.zeros.Goals.{then-x-eq-NONE, else-x-eq-NONE}

pub loop-x-init : goal.loop-x-init
loop-x-init c = none-zero _

pub overflow_add-count : goal.overflow_add-count
overflow_add-count c = omega (arith, c.loop-x.invariant.few)

pub loop-x-preserved : goal.loop-x-preserved
loop-x-preserved c =
    elim c.if-x-eq-NONE.branch [
      | then-x-eq-NONE w ↦ rw w.count-is (zero_more c.loop-x.invariant c.loop-x-test.true w.if-x-eq-NONE.true)
      | else-x-eq-NONE w ↦ rw w.count-is (other_more c.loop-x.invariant c.loop-x-test.true w.if-x-eq-NONE.false)
    ]

pub returns : goal.returns
returns c = zeros-end c.loop-x.invariant c.loop-x-test.false
