-- The text stays, and the string is after it.
use Prim.Native.Nat.{◌^◌, ◌<◌}
use lib.ListN.{length}
use native.Mathlib.Omega.{arith}
use Rattle.append_prepend.proofs.Joined.{append-laid}
use Rattle.append_prepend.proofs.lay_append.Goals as goal

pub overflow_add-result : goal.overflow_add-result
overflow_add-result c =
    let long : length c.args.out.now < 2 ^ 64 = c.well_formed.1.1.1.1.0.0 in
    omega (arith, long, c.requires.text_room)

pub returns : goal.returns
returns c =
    append-laid c.requires c.keep.ensures c.copy.ensures
    c.before_end.ensures c.fill.ensures
    c.before_end-2.ensures c.fill-2.ensures
