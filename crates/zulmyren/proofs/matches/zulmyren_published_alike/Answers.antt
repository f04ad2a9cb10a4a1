-- The numbers of the call below.
use mathlib.Core.Path.{◌∙◌, ap}
use Rattle.zulmyren.specs.Calls.{compared_of}
use Rattle.zulmyren.proofs.matches.zulmyren_published_alike.Goals as goal

pub returns : goal.returns
returns c = c.from.ensures ∙ ap compared_of c.published_alike.ensures.answer
