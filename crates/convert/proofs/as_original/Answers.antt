-- A range of the cleaned text is converted, one of the transcript stays.
use Rattle.convert.proofs.InText.{as_original-other, as_original-own}
use Rattle.convert.proofs.as_original.Goals as goal

pub returns-in-Original : goal.returns-in-Original
returns-in-Original c = as_original-own _ _ c.in-Original.is

pub returns-in-Normalized : goal.returns-in-Normalized
returns-in-Normalized c = as_original-other _ _ c.in-Normalized.is c.convert_checked.ensures
