use native.Mathlib.Omega.{arith}
use Rattle.edit_steps.proofs.Positions.{char-begins, none-skipped, one-skipped, range-ends, all-skipped}
use Rattle.edit_steps.proofs.walking.skip.Goals as goal
use Rattle.edit_steps.proofs.walking.skip.Goals.{else-loop-test, then-loop-test+then-end-p}

pub loop-init : goal.loop-init
loop-init c = none-skipped c.requires

pub char_len-p-requires : goal.char_len-p-requires
char_len-p-requires c = char-begins c.loop.invariant.standing c.if-end-p.false

pub overflow_add-p : goal.overflow_add-p
overflow_add-p c = omega (arith, c.char_len-p.ensures.inside)

pub loop-preserved : goal.loop-preserved
loop-preserved c = one-skipped c.loop.invariant c.loop-test.true c.if-end-p.false c.char_len-p.ensures

pub overflow_cast-result : goal.overflow_cast-result
overflow_cast-result c = omega (arith, c.loop.invariant.standing.most)

pub returns : goal.returns
returns c =
    let inv = c.loop.invariant in
    elim c.loop-test.branch [
      | else-loop-test w ↦ all-skipped inv w.loop-test.false
      | then-loop-test+then-end-p w ↦ range-ends inv w.if-end-p.true
    ]
