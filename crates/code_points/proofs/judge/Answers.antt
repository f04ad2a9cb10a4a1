use native.Mathlib.Omega.{arith}
use Prim.Native.Nat.{◌*◌, ◌^◌, ◌<◌}
use lib.ListN.{length}
use Rattle.code_point_blocks.proofs.Codes.{length-text}
use Rattle.code_points.proofs.Judging.{blocks-judged, next-block}
use Rattle.code_points.proofs.judge.Goals as goal

pub overflow_add-size : goal.overflow_add-size
overflow_add-size c =
    let long : length c.args.codes.now * 4 < 2 ^ 63 = c.well_formed.0.1 in
    let more = next-block c.loop-block.invariant _ _ c.in-Some.ensures.steps.1.0 c.in-Some.ensures.steps.0 c.judge_block-judged.ensures in
    omega (arith, long, more.size_so_far, length-text c.args.codes.now)

pub loop-block-preserved : goal.loop-block-preserved
loop-block-preserved c = next-block c.loop-block.invariant _ _ c.in-Some.ensures.steps.1.0 c.in-Some.ensures.steps.0 c.judge_block-judged.ensures

pub returns : goal.returns
returns c = blocks-judged _ c.in-None.ensures.steps.1.0 c.loop-block.invariant
