-- Each case of the places found is a clause of the definition.
use Rattle.convert.proofs.Walked.{settled-both, settled-last, settled-neither}
use Rattle.convert.proofs.settled.Goals as goal

pub returns-in-Both : goal.returns-in-Both
returns-in-Both c = settled-both _ _ c.in-Both.is

pub returns-in-Last : goal.returns-in-Last
returns-in-Last c = settled-last _ _ c.in-Last.is

pub returns-in-Neither : goal.returns-in-Neither
returns-in-Neither c = settled-neither _ _ c.in-Neither.is
