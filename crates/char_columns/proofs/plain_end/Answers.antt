-- Past the text, inside it, or a pair that is not there.
use native.Mathlib.Omega.{arith}
use Rattle.char_columns.proofs.Numbered.{plain-past, plain-inside, plain-beyond}
use Rattle.char_columns.proofs.plain_end.Goals as goal

pub returns-then-size-end : goal.returns-then-size-end
returns-then-size-end c = plain-past (omega arith) (omega arith) (omega arith)

pub returns-else-size-end : goal.returns-else-size-end
returns-else-size-end c = plain-inside (omega arith) (omega arith)

pub returns-else-start-size : goal.returns-else-start-size
returns-else-start-size c = plain-beyond (omega arith)
