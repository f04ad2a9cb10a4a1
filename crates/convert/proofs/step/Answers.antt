-- Each case of the places found is a clause of the definition.
use Rattle.convert.proofs.Walked.{stepped-both, stepped-last, stepped-neither}
use Rattle.convert.proofs.step.Goals as goal

pub returns-in-Both : goal.returns-in-Both
returns-in-Both c = stepped-both _ _ _ _ c.in-Both.is

pub returns-in-Last : goal.returns-in-Last
returns-in-Last c = stepped-last _ _ _ _ c.in-Last.is c.begin.ensures

pub returns-in-Neither : goal.returns-in-Neither
returns-in-Neither c = stepped-neither _ _ _ _ c.in-Neither.is c.begin-in-Neither.ensures
