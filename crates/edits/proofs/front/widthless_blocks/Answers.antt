use Prim.Native.Nat.{◌+◌, ◌*◌}
use mathlib.Core.Path.{ap, ◌≡◌}
use mathlib.Core.Bool.{not}
use Rattle.edits.proofs.Head.{block-passed}
use native.Mathlib.Omega.{arith}
use Rattle.edits.proofs.front.widthless_blocks.Goals as goal

pub loop-block-preserved : goal.loop-block-preserved
loop-block-preserved c =
    let next : (c.loop-block.block + 1) * 64 ≡ c.loop-block.block * 64 + 64 = omega arith in
    rw next (block-passed c.loop-block.invariant c.requires (omega arith) c.same.ensures (ap not c.if-not-same.false))

pub returns-then-not-same : goal.returns-then-not-same
returns-then-not-same c = c.loop-block.invariant
