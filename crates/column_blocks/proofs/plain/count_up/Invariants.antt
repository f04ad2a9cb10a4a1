-- Each turn writes the next number.
use Prim.Native.Nat.{◌+◌, ◌-◌}
use Rattle.buffers.specs.Columns.{Filled}
use Rattle.column_blocks.proofs.plain.count_up.Given as goal

abbrev pub invariant-loop-k : goal.invariant-loop-k
invariant-loop-k l = Filled (λ m. l.first + (m - l.at)) l.initial.out l.at (l.at + l.k) l.out
