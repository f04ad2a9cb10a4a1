-- Each turn writes the value once more.
use Rattle.std.proofs.Common.{◌≡◌, length}
use lib.ListN.{replicate}
use lib.Seq.{paste}
use Rattle.buffers.proofs.fill.Given as goal

abbrev pub invariant-loop-j : goal.invariant-loop-j
invariant-loop-j g l = (l.dst ≡ paste l.initial.dst l.at (replicate l.count l.value) l.j) × (length l.dst ≡ length l.initial.dst)
