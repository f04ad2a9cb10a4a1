-- A range of the transcript is converted, one of the cleaned text stays.
use Rattle.convert.proofs.InText.{as_normalized-other, as_normalized-own}
use Rattle.convert.proofs.as_normalized.Goals as goal

pub returns-in-Original : goal.returns-in-Original
returns-in-Original c = as_normalized-other _ _ c.in-Original.is c.convert_checked.ensures

pub returns-in-Normalized : goal.returns-in-Normalized
returns-in-Normalized c = as_normalized-own _ _ c.in-Normalized.is
