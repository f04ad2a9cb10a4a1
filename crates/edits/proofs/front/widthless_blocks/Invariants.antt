-- Each turn passes a block whose starts are its ends.
use Prim.Native.Nat.{◌*◌}
use Rattle.edits.specs.Laying.{HeadPassed}
use Rattle.edits.proofs.front.widthless_blocks.Given as goal

abbrev pub invariant-loop-block : goal.invariant-loop-block
invariant-loop-block l = HeadPassed l.starts l.ends (l.block * 64)
