-- None of the transcript's.
use Rattle.convert_list.proofs.TwoReads.{expandable-original, expandable-normalized}
use Rattle.convert_list.proofs.expandable.Goals as goal

pub returns-in-Original : goal.returns-in-Original
returns-in-Original c = expandable-original _ c.in-Original.is

pub returns-in-Normalized : goal.returns-in-Normalized
returns-in-Normalized c = expandable-normalized _ c.in-Normalized.is
