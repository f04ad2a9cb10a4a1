-- The three bytes before the text, the text, and what is past it.
use mathlib.Core.Path.{sym}
use native.Mathlib.Omega.{arith}
use Rattle.validity.proofs.ValidAt.{padded-low, padded-high, padded-past}
use Rattle.validity.proofs.padded_at.Goals as goal

pub returns-then-k-lt3 : goal.returns-then-k-lt3
returns-then-k-lt3 c = sym (padded-low _ _ c.if-k-lt3.true)

pub returns-then-j-s : goal.returns-then-j-s
returns-then-j-s c = sym (padded-high _ _ (omega arith))

pub returns : goal.returns
returns c = sym (padded-past _ _ (omega arith) (omega arith))
