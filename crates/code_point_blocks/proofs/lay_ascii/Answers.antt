use mathlib.Core.Path.{refl}
use Rattle.buffers.proofs.Splice.{one_more, all-written}
use Rattle.code_point_blocks.proofs.lay_ascii.Goals as goal

pub loop-i-preserved : goal.loop-i-preserved
loop-i-preserved c = one_more c.loop-i.invariant c.requires.1 c.loop-i-test.true refl

pub returns : goal.returns
returns c = all-written c.loop-i.invariant c.loop-i-test.false
