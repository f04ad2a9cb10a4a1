use mathlib.Core.Path.{◌∙◌, sym}
use native.Mathlib.Omega.{arith}
use Rattle.buffers.proofs.Columns.{filled_at}
use Rattle.utf8.proofs.CharRanges.{char_start-begins}
use Rattle.utf8.proofs.CharRanges.{start-carried}
use Rattle.from_text.proofs.CharRanges.{no-starts, one_start}
use Rattle.from_text.proofs.columns.carry_starts.Goals as goal
use Rattle.from_text.proofs.columns.carry_starts.Goals.{then-not-continues, else-not-continues}

pub loop-i-init : goal.loop-i-init
loop-i-init c = no-starts _ _

pub loop-i-preserved : goal.loop-i-preserved
loop-i-preserved c =
    one_start c.loop-i.invariant (omega arith) (omega arith)
    (elim c.if-not-continues.branch [
      | then-not-continues w ↦ w.start-is ∙ sym (char_start-begins _ _ (sym c.continues.ensures ∙ w.if-not-continues.true))
      | else-not-continues w ↦
          w.start-is ∙ c.loop-i.invariant.carried ∙ sym (start-carried _ _ (sym c.continues.ensures ∙ w.if-not-continues.false))
    ])

pub shape_of-starts : goal.shape_of-starts
shape_of-starts c = c.loop-i.invariant.filled.same

pub returns : goal.returns
returns c = filled_at _ _ _ _ _ _ _ c.loop-i.invariant.filled (omega arith) (omega arith)
