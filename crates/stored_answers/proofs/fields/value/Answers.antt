-- The number at the start of the field.
use mathlib.Core.Path.{◌∙◌, ap}
use Rattle.stored_answers.specs.Framing.{leading_number}
use Rattle.stored_answers.proofs.fields.value.Goals as goal

pub returns : goal.returns
returns c = c.number.ensures ∙ ap leading_number c.field.ensures
