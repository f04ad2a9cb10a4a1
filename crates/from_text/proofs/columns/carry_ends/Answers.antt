use mathlib.Core.Path.{◌∙◌, refl, sym}
use native.Mathlib.Omega.{arith}
use Rattle.buffers.proofs.Columns.{filled_at}
use Rattle.from_text.proofs.CharRanges.{no-ends, end-begins, end-goes-on}
use Rattle.from_text.proofs.columns.carry_ends.Goals as goal

pub loop-i-init : goal.loop-i-init
loop-i-init c = (omega arith, no-ends _ _ c.requires.text_value.0)

pub loop-i-preserved-then-not-continues : goal.loop-i-preserved-then-not-continues
loop-i-preserved-then-not-continues c =
    (omega arith, end-begins c.loop-i.invariant.1 (omega arith) (omega arith) c.requires.text_value.0 (sym c.continues.ensures ∙ c.if-not-continues.true))

pub loop-i-preserved : goal.loop-i-preserved
loop-i-preserved c =
    (omega arith, end-goes-on c.loop-i.invariant.1 (omega arith) (omega arith) (sym c.continues.ensures ∙ c.if-not-continues.false))

pub shape_of-ends : goal.shape_of-ends
shape_of-ends c = c.loop-i.invariant.1.filled.same

pub returns : goal.returns
returns c = filled_at _ _ _ _ _ _ _ c.loop-i.invariant.1.filled (omega arith) refl
