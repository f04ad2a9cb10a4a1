-- Each turn takes one more number apart.
use Rattle.spans.proofs.Packing.{Unpacking}
use Rattle.spans.proofs.unpack.Given as goal

abbrev pub invariant-loop-k : goal.invariant-loop-k
invariant-loop-k l = Unpacking l.spans l.initial.starts l.initial.ends l.k l.starts l.ends
