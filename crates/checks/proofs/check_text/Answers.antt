-- The length, then the bytes.
use mathlib.Core.Path.{◌∙◌}
use Rattle.checks.proofs.Lengths.{text_long, text-verdict}
use Rattle.checks.proofs.check_text.Goals as goal

pub returns-then-text-gt-LIMIT : goal.returns-then-text-gt-LIMIT
returns-then-text-gt-LIMIT c = text_long _ _ c.if-text-gt-LIMIT.true

pub returns : goal.returns
returns c = c.refused_if.ensures ∙ text-verdict _ _ c.if-text-gt-LIMIT.false c.well_formed-2.ensures
