use lib.ListN.{get_or}
use native.Mathlib.Omega.{arith}
use Rattle.utf8.proofs.LenUtf8.{size_most}
use Rattle.code_points.proofs.Judging.{one-judged, all-judged}
use Rattle.code_points.proofs.judge_block.Goals as goal

pub overflow_cast-more : goal.overflow_cast-more
overflow_cast-more c = omega (arith, c.len_utf8-more.ensures, size_most (get_or c.args.codes.now c.loop-code.code-index 0))

pub overflow_add-size : goal.overflow_add-size
overflow_add-size c =
    omega (arith, c.requires, c.loop-code-test.true, c.loop-code.invariant.small, c.len_utf8-more.ensures, size_most (get_or c.args.codes.now c.loop-code.code-index 0))

pub loop-code-preserved : goal.loop-code-preserved
loop-code-preserved c = one-judged c.loop-code.invariant c.loop-code-test.true c.len_utf8-more.ensures

pub returns : goal.returns
returns c = all-judged c.loop-code.invariant c.loop-code-test.false
