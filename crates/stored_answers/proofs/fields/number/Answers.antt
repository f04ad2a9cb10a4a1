-- Four bytes that are all there.
use native.Mathlib.Omega.{arith}
use Rattle.stored_answers.proofs.Framing.{number_cut, number-whole}
use Rattle.stored_answers.proofs.fields.number.Goals as goal

pub returns-then-list-lt4 : goal.returns-then-list-lt4
returns-then-list-lt4 c = number_cut c.args.list.now c.args.at (omega arith)

pub returns-then-list-at : goal.returns-then-list-at
returns-then-list-at c = number_cut c.args.list.now c.args.at (omega arith)

pub returns : goal.returns
returns c = number-whole c.args.list.now c.args.at c.get_u32_le.ensures (omega arith)
