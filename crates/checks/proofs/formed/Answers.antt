-- ASCII is well-formed; another text is judged.
use mathlib.Core.Path.{sym, ◌∙◌}
use Rattle.validity.proofs.Ascii.{ascii-formed}
use Rattle.checks.proofs.formed.Goals as goal

pub returns-then-plain : goal.returns-then-plain
returns-then-plain c = sym (ascii-formed _ (sym c.requires ∙ c.if-plain.true))
