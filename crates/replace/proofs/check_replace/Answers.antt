-- The note and the content first, then the list and the room.
use Rattle.buffers.proofs.Cases.{passed-on}
use Rattle.note.specs.Notes.{limit}
use Rattle.replace.proofs.Faults.{refused-lent, accepted-lent}
use Rattle.replace.proofs.check_replace.Goals as goal

pub returns : goal.returns
returns c =
    accepted-lent limit _ _ _ _ c.check_note-noted.ensures c.check_string.ensures c.earlier.ensures _ c.in_ok-earlier.was c.check_list.ensures

pub returns-in_err-earlier : goal.returns-in_err-earlier
returns-in_err-earlier c = rw (passed-on _ c.from_residual.ensures.1) (refused-lent limit _ _ _ _ c.check_note-noted.ensures c.check_string.ensures c.earlier.ensures _ c.in_err-earlier.was)
