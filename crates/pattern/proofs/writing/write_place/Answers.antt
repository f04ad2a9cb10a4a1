-- Its start, its end, its command: each inside the room that the place has.
use native.Mathlib.Omega.{arith}
use lib.ListN.{length-set}
use Rattle.pattern.proofs.Encoding.{length-place_bytes, writable-start, writable-end, after-start, after-end, command-small, place-laid}
use Rattle.pattern.proofs.writing.write_place.Goals as goal

pub overflow_cast-start : goal.overflow_cast-start
overflow_cast-start c = omega (arith, writable-start _ c.requires.0)

pub put_u16_le-requires : goal.put_u16_le-requires
put_u16_le-requires c = omega (arith, c.requires.1, length-place_bytes c.args.place)

pub overflow_cast-end : goal.overflow_cast-end
overflow_cast-end c = omega (arith, writable-end _ c.requires.0)

pub put_u16_le-requires-2 : goal.put_u16_le-requires-2
put_u16_le-requires-2 c =
    omega (arith, c.requires.1, length-place_bytes c.args.place, after-start c.args.place _ _ c.requires.1 c.put_u16_le.ensures)

pub overflow_add-out : goal.overflow_add-out
overflow_add-out c = omega (arith, command-small c.args.place.matched)

pub bounds-out-i : goal.bounds-out-i
bounds-out-i c =
    omega (arith, c.requires.1, length-place_bytes c.args.place, after-end c.args.place _ _ c.requires.1 c.put_u16_le.ensures c.put_u16_le-2.ensures)

pub shape_of-out : goal.shape_of-out
shape_of-out c =
    simp length-set (after-end c.args.place _ _ c.requires.1 c.put_u16_le.ensures c.put_u16_le-2.ensures)

pub returns : goal.returns
returns c = place-laid c.args.place _ _ c.requires.1 c.put_u16_le.ensures c.put_u16_le-2.ensures
