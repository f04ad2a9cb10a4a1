-- The numbers of the call below.
use mathlib.Core.Path.{◌∙◌, ap}
use Rattle.zulmyren.specs.Calls.{letters_of}
use Rattle.zulmyren.proofs.texts.zulmyren_letter_count.Goals as goal

pub returns : goal.returns
returns c = c.from.ensures ∙ ap letters_of c.letter_count.ensures
