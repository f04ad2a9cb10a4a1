-- What stays in front, what the flags keep, what stays after.
use native.Mathlib.Omega.{arith}
use Rattle.edit_steps.proofs.Given.{front-room, middle-room, back-room, edit-laid}
use Rattle.filters.proofs.lay_filtered.Goals as goal

pub keep-requires : goal.keep-requires
keep-requires c = front-room c.requires.rooms

pub lay_flags-at-requires : goal.lay_flags-at-requires
lay_flags-at-requires c =
    let room = c.requires in record { ready = room.ready; rooms = middle-room room.rooms c.keep.ensures }

pub keep-requires-2 : goal.keep-requires-2
keep-requires-2 c = back-room c.requires.rooms c.keep.ensures c.lay_flags-at.ensures

pub overflow_sub-result : goal.overflow_sub-result
overflow_sub-result c = c.requires.rooms.inside

pub overflow_add-result : goal.overflow_add-result
overflow_add-result c =
    omega (arith, c.lay_flags-at.ensures.reached, c.requires.rooms.text_room)

pub returns : goal.returns
returns c = edit-laid c.requires.rooms c.keep.ensures c.lay_flags-at.ensures c.keep-2.ensures
