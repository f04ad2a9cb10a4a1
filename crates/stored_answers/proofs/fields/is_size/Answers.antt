-- The length is 4, and then the number decides.
use Rattle.stored_answers.proofs.Framing.{no_number, a-number}
use Rattle.stored_answers.proofs.fields.is_size.Goals as goal

pub returns-then-bytes-ne4 : goal.returns-then-bytes-ne4
returns-then-bytes-ne4 c = no_number _ _ c.field-bytes.ensures c.if-bytes-ne4.true

pub returns : goal.returns
returns c = a-number _ _ c.field-bytes.ensures c.if-bytes-ne4.false c.number.ensures
