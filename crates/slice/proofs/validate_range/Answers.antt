-- The text is the one that the range names, and both ends are tested in it.
use Rattle.slice.proofs.Sides.{valid-original, valid-normalized}
use Rattle.slice.proofs.validate_range.Goals as goal

pub returns-in-Original : goal.returns-in-Original
returns-in-Original c =
    valid-original _ _ c.in-Original.is c.start_of-from.ensures c.end_of-to.ensures c.is_char_boundary.ensures c.is_char_boundary-in-Original.ensures

pub returns-in-Normalized : goal.returns-in-Normalized
returns-in-Normalized c =
    valid-normalized _ _ c.in-Normalized.is c.start_of-from.ensures c.end_of-to.ensures c.is_char_boundary-in-Normalized.ensures c.is_char_boundary-in-Normalized-2.ensures
