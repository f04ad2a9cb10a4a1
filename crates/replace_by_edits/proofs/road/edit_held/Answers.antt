-- From the second set into the first, or from the first into the second.
use native.Mathlib.Omega.{arith}
use Rattle.replace_by_edits.proofs.Holding.{front_long, first-room, first_taken, second-room, second-taken}
use Rattle.replace_by_edits.proofs.road.edit_held.Goals as goal

pub slice_bounds-edit_place-end-then-held : goal.slice_bounds-edit_place-end-then-held
slice_bounds-edit_place-end-then-held c = front_long _ _ (omega (arith, c.requires.inside))

pub slice_bounds-edit_place-end-then-held-3 : goal.slice_bounds-edit_place-end-then-held-3
slice_bounds-edit_place-end-then-held-3 c = front_long _ _ (omega (arith, c.requires.inside))

pub slice_bounds-edit_place-end-then-held-5 : goal.slice_bounds-edit_place-end-then-held-5
slice_bounds-edit_place-end-then-held-5 c = front_long _ _ (omega (arith, c.requires.inside))

pub edit_place-len-requires : goal.edit_place-len-requires
edit_place-len-requires c = second-room c.requires c.if-held.true

pub returns-then-held : goal.returns-then-held
returns-then-held c = second-taken c.requires c.if-held.true c.edit_place-len.ensures

pub slice_bounds-edit_place-end-3 : goal.slice_bounds-edit_place-end-3
slice_bounds-edit_place-end-3 c = front_long _ _ (omega (arith, c.requires.inside))

pub slice_bounds-edit_place-end-5 : goal.slice_bounds-edit_place-end-5
slice_bounds-edit_place-end-5 c = front_long _ _ (omega (arith, c.requires.inside))

pub slice_bounds-edit_place-end-7 : goal.slice_bounds-edit_place-end-7
slice_bounds-edit_place-end-7 c = front_long _ _ (omega (arith, c.requires.inside))

pub edit_place-len-requires-2 : goal.edit_place-len-requires-2
edit_place-len-requires-2 c = first-room c.requires c.if-held.false

pub returns : goal.returns
returns c = first_taken c.requires c.if-held.false c.edit_place-len-2.ensures
