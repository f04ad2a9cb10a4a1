-- Each turn lays one more part.
use Prim.Native.Nat.{◌/◌}
use lib.ListN.{length}
use Rattle.stored_answers.proofs.Packing.{Unpacking}
use Rattle.stored_answers.proofs.unpack.unpack.Given as goal

abbrev pub invariant-loop-k : goal.invariant-loop-k
invariant-loop-k l = Unpacking l.packed l.initial.dst (length l.packed / 8) l.dst l.end l.k
