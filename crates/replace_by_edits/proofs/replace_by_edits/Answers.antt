-- A refusal comes before the first store; past it there is room for all that is in between and for the result.
use Rattle.buffers.proofs.Cases.{passed-on}
use Rattle.note.specs.Notes.{limit}
use Rattle.replace_by_edits.proofs.Calls.{call-refused, call-room, call-taken}
use Rattle.replace_by_edits.proofs.replace_by_edits.Goals as goal

pub lay_road-requires : goal.lay_road-requires
lay_road-requires c =
    call-room limit _ _ _ _ _ _ _ _ _ _ _ _ c.least_room-room.ensures c.least_room.ensures c.least_room-2.ensures
    c.least_of_two-scratch_room.ensures c.check_by_edits.ensures c.in_ok-check_by_edits.was

pub returns : goal.returns
returns c =
    call-taken limit _ _ _ _ _ _ _ _ _ _ _ _ c.least_room-room.ensures c.least_room.ensures c.least_room-2.ensures
    c.least_of_two-scratch_room.ensures c.check_by_edits.ensures c.in_ok-check_by_edits.was c.lay_road.ensures

pub returns-in_err-check_by_edits : goal.returns-in_err-check_by_edits
returns-in_err-check_by_edits c = rw (passed-on _ c.from_residual.ensures.1) (call-refused limit _ _ _ _ _ _ _ _ _ _ _ _ c.least_room-room.ensures c.least_room.ensures c.least_room-2.ensures
    c.least_of_two-scratch_room.ensures c.check_by_edits.ensures c.in_err-check_by_edits.was)
