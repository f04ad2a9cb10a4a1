use Rattle.code_point_blocks.proofs.Packing.{one-gathered, all-gathered}
use Rattle.code_point_blocks.proofs.or_all.Goals as goal

pub loop-code-preserved : goal.loop-code-preserved
loop-code-preserved c = one-gathered c.loop-code.invariant c.loop-code-test.true

pub returns : goal.returns
returns c = all-gathered c.loop-code.invariant c.loop-code-test.false
