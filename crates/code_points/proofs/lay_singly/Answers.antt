use Prim.Native.Nat.{◌^◌, ◌<◌}
use lib.ListN.{length}
use native.Mathlib.Omega.{arith}
use Rattle.code_point_blocks.proofs.Texts.{one-character, all-characters}
use Rattle.code_points.proofs.Blocks.{character-room}
use Rattle.code_points.proofs.lay_singly.Goals as goal

pub put_character-at-requires : goal.put_character-at-requires
put_character-at-requires c = character-room c.loop-code.invariant c.loop-code-test.true c.requires

pub overflow_add-at : goal.overflow_add-at
overflow_add-at c =
    let room = character-room c.loop-code.invariant c.loop-code-test.true c.requires in
    let long : length c.args.out.now < 2 ^ 64 = c.well_formed.1.0.0 in
    omega (arith, room.0, long, c.loop-code.invariant.parts.over.same, c.put_character-at.ensures.0)

pub loop-code-preserved : goal.loop-code-preserved
loop-code-preserved c = one-character c.loop-code.invariant c.loop-code-test.true c.put_character-at.ensures

pub returns : goal.returns
returns c = all-characters c.loop-code.invariant c.loop-code-test.false
