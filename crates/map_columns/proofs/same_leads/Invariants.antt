-- Each turn compares one more byte.
use Rattle.map_columns.proofs.Alike.{Alike}
use Rattle.map_columns.proofs.same_leads.Given as goal

abbrev pub invariant-loop-i : goal.invariant-loop-i
invariant-loop-i l = Alike l.a l.b l.ok l.i
