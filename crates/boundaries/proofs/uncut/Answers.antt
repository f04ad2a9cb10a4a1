-- Inside the text the byte tells, past it nothing is cut.
use Rattle.boundaries.proofs.Monotone.{uncut-read, uncut-past}
use Rattle.boundaries.proofs.uncut.Goals as goal

pub returns-then-i-original : goal.returns-then-i-original
returns-then-i-original c = uncut-read _ _ _ c.continues.ensures

pub returns : goal.returns
returns c = uncut-past _ _ c.if-i-original.false
