-- The checks of replacing, then the room of scratch.
use native.Mathlib.Omega.{arith}
use Rattle.buffers.proofs.Cases.{passed-on}
use Rattle.note.specs.Notes.{limit}
use Rattle.replace_by_edits.proofs.Calls.{still-refused, sum-small, scratch-short, scratch-ample}
use Rattle.replace_by_edits.proofs.check_by_edits.Goals as goal

pub overflow_add-note : goal.overflow_add-note
overflow_add-note c =
    let small = sum-small limit _ _ _ _ c.args.scratch_room c.check_replace.ensures c.in_ok-size.was in
    omega (arith, small.0, small.1)

pub returns-then-scratch_room-note : goal.returns-then-scratch_room-note
returns-then-scratch_room-note c =
    scratch-short limit _ _ _ _ _ c.check_replace.ensures c.in_ok-size.was (omega (arith, c.if-scratch_room-note.true))

pub returns : goal.returns
returns c =
    scratch-ample limit _ _ _ _ _ c.check_replace.ensures c.in_ok-size.was (omega (arith, c.if-scratch_room-note.false))

pub returns-in_err-size : goal.returns-in_err-size
returns-in_err-size c = rw (passed-on _ c.from_residual.ensures.1) (still-refused limit _ _ _ _ _ c.check_replace.ensures c.in_err-size.was)
