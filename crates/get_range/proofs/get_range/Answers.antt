-- The note's refusal stands; a range of the transcript is converted first.
use mathlib.Core.Path.{◌∙◌, sym}
use Rattle.buffers.proofs.Cases.{passed-on}
use Rattle.convert.proofs.Answered.{accepted-columns}
use Rattle.get_range.proofs.Got.{get_range-refused, get_range-got}
use Rattle.get_range.proofs.get_range.Goals as goal

pub returns-in_err-check_note : goal.returns-in_err-check_note
returns-in_err-check_note c = rw (passed-on _ c.from_residual.ensures.1) (get_range-refused _ _ _ c.check_note.ensures c.in_err-check_note.was)

pub as_normalized-requires : goal.as_normalized-requires
as_normalized-requires c = accepted-columns _ _ (sym c.check_note.ensures ∙ c.in_ok-check_note.was)

pub returns : goal.returns
returns c = get_range-got _ _ _ c.check_note.ensures c.in_ok-check_note.was c.as_normalized.ensures c.get.ensures
