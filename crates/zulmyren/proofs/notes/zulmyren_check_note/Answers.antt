-- The numbers of the call below.
use mathlib.Core.Path.{◌∙◌, ap}
use Rattle.note.specs.Refusals.{answer_of}
use Rattle.zulmyren.proofs.notes.zulmyren_check_note.Goals as goal

pub returns : goal.returns
returns c = c.answer.ensures ∙ ap answer_of c.check_note.ensures
