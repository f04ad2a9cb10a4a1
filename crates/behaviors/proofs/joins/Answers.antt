-- Each way out is the behaviour's own case.
use Rattle.behaviors.proofs.Tests.{joins-removed, joins-isolated, joins-previous, joins-next, joins-same}
use Rattle.behaviors.proofs.joins.Goals as goal

pub returns-in-Removed : goal.returns-in-Removed
returns-in-Removed c = joins-removed _ _ _ c.in-Removed.is

pub returns-in-Isolated : goal.returns-in-Isolated
returns-in-Isolated c = joins-isolated _ _ _ c.in-Isolated.is

pub returns-in-MergedWithPrevious : goal.returns-in-MergedWithPrevious
returns-in-MergedWithPrevious c = joins-previous _ _ _ c.in-MergedWithPrevious.is

pub returns-in-MergedWithNext : goal.returns-in-MergedWithNext
returns-in-MergedWithNext c = joins-next _ _ _ c.in-MergedWithNext.is

pub returns-in-Contiguous : goal.returns-in-Contiguous
returns-in-Contiguous c = joins-same _ _ _ c.in-Contiguous.is
