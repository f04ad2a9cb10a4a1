-- Each turn reads one more byte.
use lib.ListN.{get_or}
use Rattle.buffers.specs.Columns.{Filled}
use Rattle.boundaries.proofs.read_at.Given as goal

abbrev pub invariant-loop-j : goal.invariant-loop-j
invariant-loop-j l = Filled (λ k. get_or l.original (get_or l.starts k 0) 0) l.initial.bytes 0 l.j l.bytes
