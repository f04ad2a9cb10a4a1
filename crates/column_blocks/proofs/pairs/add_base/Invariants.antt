-- Each turn writes one more number.
use Prim.Native.Nat.{◌+◌, ◌-◌}
use lib.ListN.{get_or}
use Rattle.buffers.specs.Columns.{Filled}
use Rattle.column_blocks.proofs.pairs.add_base.Given as goal

abbrev pub invariant-loop-k : goal.invariant-loop-k
invariant-loop-k l = Filled (λ m. l.base + get_or l.steps (m - l.at) 0) l.initial.out l.at (l.at + l.k) l.out
