-- By the text.
use Rattle.convert.proofs.Conversions.{range_of-original, range_of-normalized}
use Rattle.convert.proofs.range_of.Goals as goal

pub returns-in-Original : goal.returns-in-Original
returns-in-Original c = range_of-original _ _ c.in-Original.is

pub returns-in-Normalized : goal.returns-in-Normalized
returns-in-Normalized c = range_of-normalized _ _ c.in-Normalized.is
