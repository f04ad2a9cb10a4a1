use mathlib.Core.Path.{◌∙◌, sym}
use native.Mathlib.Omega.{arith}
use Rattle.utf8.proofs.CharRanges.{char_start-begins, start-step, start_first}
use Rattle.utf8.proofs.ranges.char_start.Goals as goal

pub returns-then-not-continues : goal.returns-then-not-continues
returns-then-not-continues c =
    sym (c.loop-k.invariant.here ∙ char_start-begins _ _ (sym c.continues.ensures ∙ c.if-not-continues.true))

pub loop-k-preserved : goal.loop-k-preserved
loop-k-preserved c = start-step c.loop-k.invariant (sym c.continues.ensures ∙ c.if-not-continues.false)

pub returns : goal.returns
returns c = start_first c.loop-k.invariant (omega arith)
