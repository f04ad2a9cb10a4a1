-- Each turn writes one more element of the source.
use Rattle.std.proofs.Common.{◌≡◌, length}
use lib.Seq.{paste}
use Rattle.buffers.proofs.copy.Given as goal

abbrev pub invariant-loop-k : goal.invariant-loop-k
invariant-loop-k g l = (l.dst ≡ paste l.initial.dst l.at l.src l.k) × (length l.dst ≡ length l.initial.dst)
