-- Each way out is the behaviour's own case.
use borrow.Author.Rules.{rules}
use Rattle.behaviors.specs.declared.SplitDelimiterBehavior.TheVariants.{Removed, Isolated, MergedWithPrevious, MergedWithNext, Contiguous}
use Rattle.behaviors.specs.Joining.{drops_matches}
use Rattle.behaviors.proofs.Tests.{loses-as}
use Rattle.behaviors.proofs.drops_matches.Goals as goal

pub enum_told-1 : goal.enum_told-1
unfolding drops_matches
enum_told-1 c = search rules

pub enum_told-in-Isolated : goal.enum_told-in-Isolated
unfolding drops_matches
enum_told-in-Isolated c = search rules

pub enum_told-in-MergedWithPrevious : goal.enum_told-in-MergedWithPrevious
unfolding drops_matches
enum_told-in-MergedWithPrevious c = search rules

pub enum_told-in-MergedWithNext : goal.enum_told-in-MergedWithNext
unfolding drops_matches
enum_told-in-MergedWithNext c = search rules

pub enum_told-in-Contiguous : goal.enum_told-in-Contiguous
unfolding drops_matches
enum_told-in-Contiguous c = search rules

pub returns-in-Removed : goal.returns-in-Removed
unfolding drops_matches
returns-in-Removed c = loses-as _ Removed c.in-Removed.is

pub returns-in-Isolated : goal.returns-in-Isolated
unfolding drops_matches
returns-in-Isolated c = loses-as _ Isolated c.in-Isolated.is

pub returns-in-MergedWithPrevious : goal.returns-in-MergedWithPrevious
unfolding drops_matches
returns-in-MergedWithPrevious c = loses-as _ MergedWithPrevious c.in-MergedWithPrevious.is

pub returns-in-MergedWithNext : goal.returns-in-MergedWithNext
unfolding drops_matches
returns-in-MergedWithNext c = loses-as _ MergedWithNext c.in-MergedWithNext.is

pub returns-in-Contiguous : goal.returns-in-Contiguous
unfolding drops_matches
returns-in-Contiguous c = loses-as _ Contiguous c.in-Contiguous.is
