-- The note's refusal stands; a range of the cleaned text is converted first.
use mathlib.Core.Path.{◌∙◌, sym}
use Rattle.buffers.proofs.Cases.{passed-on}
use Rattle.convert.proofs.Answered.{accepted-columns}
use Rattle.get_range.proofs.Got.{get_range_original-refused, get_range_original-got}
use Rattle.get_range.proofs.get_range_original.Goals as goal

pub returns-in_err-check_note : goal.returns-in_err-check_note
returns-in_err-check_note c = rw (passed-on _ c.from_residual.ensures.1) (get_range_original-refused _ _ _ c.check_note.ensures c.in_err-check_note.was)

pub as_original-requires : goal.as_original-requires
as_original-requires c = accepted-columns _ _ (sym c.check_note.ensures ∙ c.in_ok-check_note.was)

pub returns : goal.returns
returns c =
    get_range_original-got _ _ _ c.check_note.ensures c.in_ok-check_note.was c.as_original.ensures c.get.ensures
