-- By ranges: no scalar value; or one byte, and one more from each bound on.
use Rattle.utf8.proofs.LenUtf8.{size-beyond, size-surrogate, size-ranges}
use Rattle.utf8.proofs.lead.len_utf8.Goals as goal

pub returns-then-character-gt1114111 : goal.returns-then-character-gt1114111
returns-then-character-gt1114111 c = size-beyond _ c.if-character-gt1114111.true

pub returns-then-character : goal.returns-then-character
returns-then-character c = size-surrogate _ c.if-character.true

pub returns : goal.returns
returns c = size-ranges _ c.if-character-gt1114111.false c.if-character.false
