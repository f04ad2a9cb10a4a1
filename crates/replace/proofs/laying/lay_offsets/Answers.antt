-- A matched place is filled with the number before its end, another one kept.
use native.Mathlib.Omega.{arith}
use Rattle.replace.proofs.Columns.{place-source, content-room, place_kept, carried-filled}
use Rattle.replace.proofs.laying.lay_offsets.Goals as goal

pub fill_over-requires : goal.fill_over-requires
fill_over-requires c = content-room c.requires c.if-place.true

pub overflow_add-result : goal.overflow_add-result
overflow_add-result c = let room = content-room c.requires c.if-place.true in omega (arith, room)

pub returns-then-place : goal.returns-then-place
returns-then-place c = carried-filled _ _ _ c.if-place.true c.before_end.ensures c.fill_over.ensures

pub copy_over-requires : goal.copy_over-requires
copy_over-requires c = place-source c.requires c.if-place.false

pub returns : goal.returns
returns c = place_kept _ _ _ _ c.if-place.false c.copy_over.ensures
