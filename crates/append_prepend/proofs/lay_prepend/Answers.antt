-- The string first, then the text; the columns likewise.
use native.Mathlib.Omega.{arith}
use Rattle.append_prepend.proofs.Joined.{front_fits, prepend-laid}
use Rattle.append_prepend.proofs.lay_prepend.Goals as goal

pub lay_column-requires : goal.lay_column-requires
lay_column-requires c =
    let room = c.requires in
    front_fits room c.announced_length-size.ensures room.rooms.one_start room.rooms.starts_room

pub lay_column-requires-2 : goal.lay_column-requires-2
lay_column-requires-2 c =
    let room = c.requires in
    front_fits room c.announced_length-size.ensures room.rooms.one_end room.rooms.ends_room

pub overflow_add-result : goal.overflow_add-result
overflow_add-result c =
    omega (arith, c.requires.rooms.text_room)

pub returns : goal.returns
returns c =
    prepend-laid c.announced_length-size.ensures c.copy.ensures
    c.copy-2.ensures c.front_of.ensures c.lay_column.ensures
    c.front_of-2.ensures c.lay_column-2.ensures
