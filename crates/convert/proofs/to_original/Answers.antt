-- Empty, reversed, or read from the alignments.
use Rattle.convert.proofs.Conversions.{to_original-empty, to_original-reversed, to_original-forward}
use Rattle.convert.proofs.to_original.Goals as goal

pub returns-then-a-b : goal.returns-then-a-b
returns-then-a-b c =
    to_original-empty _ _ _ _ c.if-a-b.true c.same_in_original.ensures c.same_in_original-then-a-b.ensures

pub returns-then-b-a : goal.returns-then-b-a
returns-then-b-a c = to_original-reversed _ _ _ _ c.if-a-b.false c.if-b-a.true

pub returns : goal.returns
returns c = to_original-forward _ _ _ _ c.if-a-b.false c.if-b-a.false c.expand_alignments.ensures
