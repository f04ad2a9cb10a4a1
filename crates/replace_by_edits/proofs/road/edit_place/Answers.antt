-- What is before the place, the content, what is after it.
use native.Mathlib.Omega.{arith}
use Rattle.replace_by_edits.proofs.Laying.{front-keeps, content-room, back-keeps, place-laid, edit-room}
use Rattle.replace_by_edits.proofs.road.edit_place.Goals as goal

pub keep-requires : goal.keep-requires
keep-requires c = front-keeps c.requires

pub lay_content-requires : goal.lay_content-requires
lay_content-requires c = content-room c.requires c.keep.ensures

pub overflow_add-at : goal.overflow_add-at
overflow_add-at c =
    omega (arith, c.requires.text_room)

pub keep-requires-2 : goal.keep-requires-2
keep-requires-2 c = back-keeps c.requires c.keep.ensures c.lay_content.ensures

pub overflow_sub-result : goal.overflow_sub-result
overflow_sub-result c = (edit-room c.requires).inside

pub overflow_add-result : goal.overflow_add-result
overflow_add-result c =
    omega (arith, c.requires.text_room)

pub returns : goal.returns
returns c = place-laid c.requires c.keep.ensures c.lay_content.ensures c.keep-2.ensures
