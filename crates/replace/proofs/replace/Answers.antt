-- A refusal comes before the first store; past it there is room for all that is laid down.
use Rattle.buffers.proofs.Cases.{passed-on}
use Rattle.note.specs.Notes.{limit}
use Rattle.replace.proofs.Faults.{refused, ready, measured-size, accepted}
use Rattle.replace.proofs.replace.Goals as goal

pub lay_out-requires : goal.lay_out-requires
lay_out-requires c =
    let rooms = c.least_room-room.ensures in
    let says = c.check_replace.ensures in record { ready = ready limit _ _ _ _ _ _ rooms says c.in_ok-size.was; until_bound = measured-size limit _ _ _ _ says c.in_ok-size.was }

pub returns : goal.returns
returns c =
    accepted limit _ _ _ _ _ _ c.least_room-room.ensures c.check_replace.ensures c.in_ok-size.was c.lay_out.ensures

pub returns-in_err-size : goal.returns-in_err-size
returns-in_err-size c = rw (passed-on _ c.from_residual.ensures.1) (refused limit _ _ _ _ _ _ c.least_room-room.ensures c.check_replace.ensures c.in_err-size.was)
