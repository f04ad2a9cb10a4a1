use native.Mathlib.Omega.{arith}
use Rattle.buffers.proofs.Over.{one_block, all_blocks, short-block, source-exact}
use Rattle.buffers.proofs.blocks.copy_over.Goals as goal

pub returns-then-src-to-lt64 : goal.returns-then-src-to-lt64
returns-then-src-to-lt64 g c = source-exact c.requires c.copy.ensures

pub returns-then-to-from-le64 : goal.returns-then-to-from-le64
returns-then-to-from-le64 g c = short-block c.requires (omega arith) (omega arith) (omega arith) c.copy_block.ensures

pub loop-k-preserved : goal.loop-k-preserved
loop-k-preserved g c =
    one_block c.loop-k.invariant (omega arith) (omega arith) (omega arith) (omega arith) (omega arith) c.copy_block-in-loop-k.ensures

pub returns : goal.returns
returns g c = all_blocks c.loop-k.invariant (omega arith) (omega arith) (omega arith) (omega arith) (omega arith)
