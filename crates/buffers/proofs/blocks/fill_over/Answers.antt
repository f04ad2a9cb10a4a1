-- Sixteen at once, of which the first are meant, or exactly as many.
use native.Mathlib.Omega.{arith}
use lib.ListN.{length-replicate}
use Rattle.buffers.proofs.Over.{over-exact, over-same}
use Rattle.buffers.proofs.blocks.fill_over.Goals as goal

pub returns-then-until-at-ge16 : goal.returns-then-until-at-ge16
returns-then-until-at-ge16 g c = over-same _ 16 _ _ _ c.if-count-le16.true (omega arith) c.requires.1 c.fill.ensures

pub returns : goal.returns
returns g c =
    over-exact _ _ _ _ (omega (arith, c.requires, length-replicate c.args.count c.args.value)) c.fill-2.ensures
