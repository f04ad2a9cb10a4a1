-- The field's bytes beside the text's.
use mathlib.Core.Path.{◌∙◌, ap}
use Rattle.buffers.specs.Same.{same}
use Rattle.stored_answers.proofs.fields.is_text.Goals as goal

pub returns : goal.returns
returns c = c.same.ensures ∙ ap (λ s. same s c.args.text.now) c.field.ensures
