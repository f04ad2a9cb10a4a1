-- An end inside the text, at its end, past it.
use native.Mathlib.Omega.{arith}
use Rattle.char_offsets.proofs.PairTold.{end-inside, end-last, end-past}
use Rattle.char_offsets.proofs.end_byte.Goals as goal

pub returns-then-to-size : goal.returns-then-to-size
returns-then-to-size c = end-inside _ _ c.requires c.if-to-size.true

pub returns-then-to-size-2 : goal.returns-then-to-size-2
returns-then-to-size-2 c = end-last _ _ c.requires c.if-to-size-2.true

pub returns : goal.returns
returns c = end-past _ _ c.requires (omega arith)
