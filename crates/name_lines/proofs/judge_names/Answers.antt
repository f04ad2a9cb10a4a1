use Prim.Native.Nat.{◌-◌, ◌≤◌}
use native.Mathlib.Omega.{arith}
use Rattle.name_lines.proofs.Judging.{none-judged, judging-inside, good-long, good-judged, bad-judged, all-judged}
use Rattle.name_lines.proofs.judge_names.Goals as goal
use Rattle.name_lines.proofs.judge_names.Goals.{In_default}

-- a line that was judged is good
good : (c : In_default) → 2 ≤ c.line_end-end.result - c.loop-start.start
good c =
    good-long c.loop-start.invariant c.loop-start-test.true c.line_end-end.ensures c.judge_line.ensures c.in_default.is

pub loop-start-init : goal.loop-start-init
loop-start-init c = none-judged _

pub line_end-end-requires : goal.line_end-end-requires
line_end-end-requires c = omega (arith, c.loop-start.invariant.most)

pub slice_bounds-judge_line-count : goal.slice_bounds-judge_line-count
slice_bounds-judge_line-count c = omega (arith, judging-inside c.loop-start.invariant c.line_end-end.ensures)

pub slice_bounds-judge_line-start : goal.slice_bounds-judge_line-start
slice_bounds-judge_line-start c = omega (arith, judging-inside c.loop-start.invariant c.line_end-end.ensures)

pub slice_bounds-judge_line-end : goal.slice_bounds-judge_line-end
slice_bounds-judge_line-end c = omega (arith, judging-inside c.loop-start.invariant c.line_end-end.ensures)

pub overflow_add-lines : goal.overflow_add-lines
overflow_add-lines c = omega (arith, c.loop-start.invariant.few)

pub returns-in-Err : goal.returns-in-Err
returns-in-Err c =
    bad-judged c.loop-start.invariant c.loop-start-test.true c.line_end-end.ensures c.judge_line.ensures c.in-Err.is

pub overflow_sub-bytes : goal.overflow_sub-bytes
overflow_sub-bytes c = omega (arith, good c)

pub overflow_sub-bytes-in-loop-start : goal.overflow_sub-bytes-in-loop-start
overflow_sub-bytes-in-loop-start c = omega (arith, good c)

pub overflow_add-bytes : goal.overflow_add-bytes
overflow_add-bytes c =
    omega (arith, c.loop-start.invariant.short, judging-inside c.loop-start.invariant c.line_end-end.ensures)

pub end_len-requires : goal.end_len-requires
end_len-requires c = omega (arith, judging-inside c.loop-start.invariant c.line_end-end.ensures)

pub loop-start-preserved : goal.loop-start-preserved
loop-start-preserved c =
    good-judged c.loop-start.invariant c.loop-start-test.true c.line_end-end.ensures c.judge_line.ensures c.in_default.is c.end_len.ensures

pub overflow_add-start : goal.overflow_add-start
overflow_add-start c = omega (arith, (loop-start-preserved c).most)

pub loop-start-smaller : goal.loop-start-smaller
loop-start-smaller c = omega (arith, (loop-start-preserved c).most, good (goal.at.loop-start-smaller c).In_default)

pub overflow_mul-result : goal.overflow_mul-result
overflow_mul-result c = omega (arith, c.loop-start.invariant.few, c.loop-start.invariant.most)

pub returns : goal.returns
returns c = all-judged c.loop-start.invariant c.loop-start-test.false
