-- The bytes each alone, then the places of the characters of two bytes, then one of these after the other.
use Rattle.lowercase.proofs.Fixing.{Fixing}
use Rattle.lowercase.proofs.text.lay_pairs.Given as goal

abbrev pub invariant-loop-q : goal.invariant-loop-q
invariant-loop-q l = Fixing l.text l.from l.to l.initial.out l.start l.out l.q l.i l.at
