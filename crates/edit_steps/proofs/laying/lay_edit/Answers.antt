-- What stays in front, what the script gives, what stays after.
use native.Mathlib.Omega.{arith}
use Rattle.edit_steps.proofs.Given.{front-room, middle-room, back-room, edit-laid}
use Rattle.edit_steps.proofs.laying.lay_edit.Goals as goal

pub keep-requires : goal.keep-requires
keep-requires c = front-room c.requires.0

pub overflow_add-first : goal.overflow_add-first
overflow_add-first c = omega (arith, c.requires.0.text_room, c.requires.1)

pub lay_script-at-requires : goal.lay_script-at-requires
lay_script-at-requires c = (middle-room c.requires.0 c.keep.ensures, omega (arith, c.requires.1))

pub keep-requires-2 : goal.keep-requires-2
keep-requires-2 c = back-room c.requires.0 c.keep.ensures c.lay_script-at.ensures

pub overflow_sub-result : goal.overflow_sub-result
overflow_sub-result c = c.requires.0.inside

pub overflow_add-result : goal.overflow_add-result
overflow_add-result c = omega (arith, c.lay_script-at.ensures.reached, c.requires.0.text_room)

pub returns : goal.returns
returns c = edit-laid c.requires.0 c.keep.ensures c.lay_script-at.ensures c.keep-2.ensures
