use Prim.Native.Nat.{◌+◌, ◌-◌, ◌*◌, ◌/◌}
use mathlib.Core.Path.{◌≡◌}
use lib.ListN.{length}
use native.Mathlib.Omega.{arith}
use Rattle.lowercase.proofs.Grown.{none-dotted, none-counted, pairs-even, block-counted, all-counted}
use Rattle.lowercase.proofs.dotted.count_dotted.Goals as goal

pub returns-then-text-eq0 : goal.returns-then-text-eq0
returns-then-text-eq0 c = none-dotted _ c.if-text-eq0.true

pub loop-block-init : goal.loop-block-init
loop-block-init c = none-counted c.if-text-eq0.false

pub block_dotted-requires : goal.block_dotted-requires
block_dotted-requires c = pairs-even c.loop-block.invariant _ (omega arith) (omega arith) (omega arith) (omega arith)

pub loop-block-preserved : goal.loop-block-preserved
loop-block-preserved c =
    let next : (c.loop-block.block + 1) * 128 ≡ c.loop-block.block * 128 + 128 = omega arith in
    rw next (block-counted c.loop-block.invariant _ (omega arith) (omega arith) (omega arith) c.block_dotted.ensures)

pub block_dotted-requires-2 : goal.block_dotted-requires-2
block_dotted-requires-2 c =
    let all : (length c.args.text.now - 1) / 128 ≡ c.loop-block.block = omega arith in
    rw all (pairs-even c.loop-block.invariant _ (omega arith) (omega arith) (omega arith) (omega arith))

pub returns : goal.returns
returns c =
    let all : (length c.args.text.now - 1) / 128 ≡ c.loop-block.block = omega arith in
    all-counted c.loop-block.invariant _ (omega arith) (omega arith) (omega arith) (rw all at c.block_dotted-2.ensures) (omega arith)
