use Prim.Native.Nat.{◌+◌, ◌≤◌}
use lib.ListN.{length}
use Rattle.code_points.proofs.Blocks.{block_room, one_block, another_block}
use Rattle.code_points.proofs.lay_text.Goals as goal
use Rattle.code_points.proofs.lay_text.Goals.{In-loop-i}

-- a turn has 64 code points, and room for their characters
block : (c : In-loop-i) → (c.loop-i.i + 64 ≤ length c.args.codes.now) × (c.loop-i.at + 256 ≤ c.args.until)
block c = another_block c.args.codes.now c.loop-i.i c.loop-i.at c.args.until c.loop-i-test.true

pub lay_block-at-requires : goal.lay_block-at-requires
lay_block-at-requires c =
    block_room c.loop-i.invariant (block (goal.at.lay_block-at-requires c).In-loop-i).0 c.requires.0 (block (goal.at.lay_block-at-requires c).In-loop-i).1

pub loop-i-preserved : goal.loop-i-preserved
loop-i-preserved c = one_block c.loop-i.invariant (block (goal.at.loop-i-preserved c).In-loop-i).0 c.lay_block-at.ensures
