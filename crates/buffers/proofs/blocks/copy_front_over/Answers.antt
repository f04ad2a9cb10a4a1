-- Sixteen at once, of which the first are meant; or as runs are laid.
use native.Mathlib.Omega.{arith}
use Rattle.buffers.proofs.Over.{front-block}
use Rattle.buffers.proofs.blocks.copy_front_over.Goals as goal

pub returns-then-until-at-ge16 : goal.returns-then-until-at-ge16
returns-then-until-at-ge16 g c = front-block c.requires (omega arith) (omega arith) (omega arith) c.copy_block.ensures
