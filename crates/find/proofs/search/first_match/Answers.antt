-- A literal without a byte has no match; any other is looked for.
use mathlib.Core.Path.{◌∙◌, sym}
use native.Mathlib.Omega.{arith}
use Rattle.find.proofs.FirstFrom.{first-of-none, first-of-some}
use Rattle.find.proofs.search.first_match.Goals as goal

pub returns-then-literal-eq0 : goal.returns-then-literal-eq0
returns-then-literal-eq0 c = sym (first-of-none _ _ c.if-literal-eq0.true)

pub returns : goal.returns
returns c = c.next_match.ensures ∙ sym (first-of-some _ _ (omega arith))
