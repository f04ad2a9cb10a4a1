-- Four at once, of which the first are meant, or exactly as many.
use native.Mathlib.Omega.{arith}
use lib.ListN.{length-replicate}
use Rattle.buffers.proofs.Over.{over-exact, over-same}
use Rattle.map_columns.proofs.fill_char.Goals as goal

pub returns-then-at-until : goal.returns-then-at-until
returns-then-at-until c = over-same _ 4 _ _ _ c.requires.1.1 c.if-at-until.true c.requires.1.0 c.fill.ensures

pub returns : goal.returns
returns c =
    over-exact _ _ _ _ (omega (arith, c.requires, length-replicate c.args.count c.args.value)) c.fill-2.ensures
