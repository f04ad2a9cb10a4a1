-- By the answer's two forms.
use mathlib.Core.Path.{◌∙◌, sym}
use Rattle.buffers.proofs.Cases.{passed-on}
use Rattle.replace.proofs.Faults.{says-published, says-refused}
use Rattle.published_alike.proofs.said.Goals as goal

pub returns : goal.returns
returns c v size e = sym (says-published v _ size (sym c.in_ok-answer.was ∙ e)).0

pub returns-in_err-answer : goal.returns-in_err-answer
returns-in_err-answer c v size e = passed-on _ c.from_residual.ensures.1 ∙ sym (says-refused v _ size (sym c.in_err-answer.was ∙ e))
