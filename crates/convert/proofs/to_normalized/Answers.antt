-- Empty, reversed, or what the walk finds.
use Rattle.convert.proofs.Conversions.{to_normalized-empty, to_normalized-reversed, to_normalized-forward}
use Rattle.convert.proofs.to_normalized.Goals as goal

pub returns-then-a-b : goal.returns-then-a-b
returns-then-a-b c =
    to_normalized-empty _ _ _ _ c.if-a-b.true c.same_in_normalized.ensures c.same_in_normalized-then-a-b.ensures

pub returns-then-b-a : goal.returns-then-b-a
returns-then-b-a c = to_normalized-reversed _ _ _ _ c.if-a-b.false c.if-b-a.true

pub returns-in-Both : goal.returns-in-Both
returns-in-Both c = to_normalized-forward _ _ _ _ c.if-a-b.false c.if-b-a.false c.walk.ensures c.in-Both.is

pub returns-in-Last : goal.returns-in-Last
returns-in-Last c = to_normalized-forward _ _ _ _ c.if-a-b.false c.if-b-a.false c.walk.ensures c.in-Last.is

pub returns-in-Neither : goal.returns-in-Neither
returns-in-Neither c = to_normalized-forward _ _ _ _ c.if-a-b.false c.if-b-a.false c.walk.ensures c.in-Neither.is
