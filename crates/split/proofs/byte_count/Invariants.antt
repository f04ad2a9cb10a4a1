-- Each turn adds the bytes of one more piece.
use Rattle.split.proofs.Joined.{Adding}
use Rattle.split.proofs.byte_count.Given as goal

abbrev pub invariant-loop-k : goal.invariant-loop-k
invariant-loop-k l = Adding l.from l.to l.sum l.k
