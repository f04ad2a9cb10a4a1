-- Four bytes from a position on.
use Rattle.invisible.proofs.Characters.{code-past, code_read}
use Rattle.invisible.proofs.code_at.Goals as goal

pub returns-then-text-i : goal.returns-then-text-i
returns-then-text-i c = code-past _ _ c.if-text-i.true

pub returns : goal.returns
returns c = code_read _ _ c.code_of.ensures c.byte_at.ensures c.byte_at-2.ensures c.byte_at-3.ensures
