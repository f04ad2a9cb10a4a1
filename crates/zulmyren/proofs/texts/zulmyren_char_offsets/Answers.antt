-- The numbers of the call below.
use mathlib.Core.Path.{◌∙◌, ap}
use Rattle.zulmyren.specs.Calls.{chars_of}
use Rattle.zulmyren.proofs.texts.zulmyren_char_offsets.Goals as goal

pub returns : goal.returns
returns c = c.from.ensures ∙ ap chars_of c.char_offsets.ensures
