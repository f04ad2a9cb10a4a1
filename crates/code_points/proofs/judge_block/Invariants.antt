-- Each turn judges one more number.
use Rattle.code_points.proofs.Judging.{Judging}
use Rattle.code_points.proofs.judge_block.Given as goal

abbrev pub invariant-loop-code : goal.invariant-loop-code
invariant-loop-code l = Judging l.codes l.scalar l.size l.code-index
