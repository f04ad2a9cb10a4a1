-- By the text's kind.
use mathlib.Core.Path.{sym, ◌∙◌}
use Rattle.aligned.proofs.IsStarting.{starting-ascii, starting-other}
use Rattle.aligned.proofs.starting.is_starting.Goals as goal

pub returns-then-plain : goal.returns-then-plain
returns-then-plain c = starting-ascii _ _ _ _ (sym c.requires.plain_value ∙ c.if-plain.true) c.is_identity.ensures

pub returns : goal.returns
returns c = starting-other _ _ _ _ (sym c.requires.plain_value ∙ c.if-plain.false) c.is_char_aligned.ensures
