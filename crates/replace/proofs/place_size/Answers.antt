-- Each way out is the definition's case.
use mathlib.Core.Path.{sym}
use Rattle.replace.proofs.Sizes.{size-matched, size-unmatched, size-reversed}
use Rattle.replace.proofs.place_size.Goals as goal

pub returns-then-place : goal.returns-then-place
returns-then-place c = sym (size-matched _ _ c.if-place.true)

pub returns-then-end-start : goal.returns-then-end-start
returns-then-end-start c = size-reversed _ _ c.if-place.false c.if-end-start.true

pub returns : goal.returns
returns c = sym (size-unmatched _ _ c.if-place.false)
