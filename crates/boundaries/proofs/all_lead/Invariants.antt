-- No byte so far continues a character.
use mathlib.Core.Path.{◌≡◌}
use Rattle.boundaries.specs.Spanning.{leads_below}
use Rattle.boundaries.proofs.all_lead.Given as goal

abbrev pub invariant-loop-b : goal.invariant-loop-b
invariant-loop-b l = l.ok ≡ leads_below l.bytes l.b-index
