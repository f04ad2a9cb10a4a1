-- The one condition is the string's.
use mathlib.Core.Path.{◌∙◌}
use Rattle.checks.proofs.Lengths.{string-verdict}
use Rattle.checks.proofs.check_string.Goals as goal

pub returns : goal.returns
returns c = c.refused_if.ensures ∙ string-verdict _ c.well_formed-2.ensures
