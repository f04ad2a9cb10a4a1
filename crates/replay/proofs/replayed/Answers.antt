use Prim.Native.Nat.{ℕ}
use mathlib.Core.Path.{◌∙◌, sym}
use lib.ListN.{length-replicate}
use native.Mathlib.Omega.{arith}
use Rattle.stored_answers.proofs.Packing.{unpacked-length}
use Rattle.replay.proofs.replayed.Goals as goal
use Rattle.replay.proofs.replayed.Goals.{then-not-agrees, else-not-agrees}

pub loop-answers-init : goal.loop-answers-init
loop-answers-init c = (sym (length-replicate {0} {A = ℕ} 3145728 0), omega arith)

pub slice_bounds-unpack-end : goal.slice_bounds-unpack-end
slice_bounds-unpack-end c = c.loop-answers.invariant.0

pub slice_bounds-space-end : goal.slice_bounds-space-end
slice_bounds-space-end c = c.unpack-n.ensures.prefix_len.0

pub slice_bounds-agrees-end : goal.slice_bounds-agrees-end
slice_bounds-agrees-end c = c.unpack-n.ensures.prefix_len.1

pub loop-answers-preserved : goal.loop-answers-preserved
loop-answers-preserved c = (
  c.loop-answers.invariant.0 ∙ sym (unpacked-length _ c.unpack-n.ensures.laid),
  elim c.if-not-agrees.branch [
    | then-not-agrees w ↦ omega (arith, c.loop-answers.invariant.1, w.differing-is)
    | else-not-agrees w ↦ omega (arith, c.loop-answers.invariant.1, w.differing-is)
  ],
)
