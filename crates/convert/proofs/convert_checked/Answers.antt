-- Each text has its function.
use Rattle.convert.proofs.Conversions.{converted-normalized, converted-original}
use Rattle.convert.proofs.convert_checked.Goals as goal

pub returns-in-Normalized : goal.returns-in-Normalized
returns-in-Normalized c = converted-normalized _ _ c.in-Normalized.is c.to_original.ensures

pub returns-in-Original : goal.returns-in-Original
returns-in-Original c = converted-original _ _ c.in-Original.is c.to_normalized.ensures
