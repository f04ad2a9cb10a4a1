-- Each case of the code is one of the definition.
use Rattle.piece_lines.proofs.Scanning.{literal-ends, literal-grows, behavior-low, behavior-high, behavior-chosen, chosen-ends, chosen-longer, note-ends, note-grows, whole-longer, shapeless-longer}
use mathlib.Core.Logic.{⊎_elim}
use native.Mathlib.Omega.{arith}
use Rattle.piece_lines.proofs.input.step.Goals as goal

pub returns-then-byte-eq10 : goal.returns-then-byte-eq10
returns-then-byte-eq10 c = literal-ends c.in-Literal.is c.if-byte-eq10.true

pub returns-in-49-to-53 : goal.returns-in-49-to-53
returns-in-49-to-53 c = behavior-chosen c.in-Behavior.is (omega arith) (omega arith)

pub returns-in_default : goal.returns-in_default
returns-in_default c = behavior-low c.in-Behavior.is (omega arith)

pub returns-in_default-2 : goal.returns-in_default-2
returns-in_default-2 c = behavior-high c.in-Behavior.is (omega arith)

pub returns-then-byte-eq10-2 : goal.returns-then-byte-eq10-2
returns-then-byte-eq10-2 c = chosen-ends c.in-Chosen.is c.if-byte-eq10-2.true

pub returns-then-byte-eq10-3 : goal.returns-then-byte-eq10-3
returns-then-byte-eq10-3 c = note-ends c.in-Note.is c.if-byte-eq10-3.true

pub returns-else-byte-eq10 : goal.returns-else-byte-eq10
returns-else-byte-eq10 c = literal-grows c.in-Literal.is c.if-byte-eq10.false c.one_more.ensures

pub returns-else-byte-eq10-2 : goal.returns-else-byte-eq10-2
returns-else-byte-eq10-2 c = chosen-longer c.in-Chosen.is c.if-byte-eq10-2.false

pub returns-else-byte-eq10-3 : goal.returns-else-byte-eq10-3
returns-else-byte-eq10-3 c = note-grows c.in-Note.is c.if-byte-eq10-3.false c.one_more-in-Note.ensures

pub returns-in-Whole : goal.returns-in-Whole
returns-in-Whole c = ⊎_elim (λ w. whole-longer _ w.3) (shapeless-longer _) c.in-Whole.is
