-- Note and string first, then the room; past these both are laid down.
use mathlib.Core.Path.{ap}
use mathlib.Core.Bool.{not}
use Rattle.buffers.proofs.Cases.{passed-on}
use Rattle.note.specs.Notes.{limit, passed}
use Rattle.edits.specs.Whole.{append_edit}
use Rattle.append_prepend.proofs.Joined.{join-refused, append-large, append-room, append-made}
use Rattle.append_prepend.proofs.append.Goals as goal

pub returns-then-not-has_room : goal.returns-then-not-has_room
returns-then-not-has_room c =
    append-large limit (passed c.args.note.now) c.args.string.now c.check_note-noted.ensures
    c.check_string.ensures c.earlier.ensures c.in_ok-earlier.was
    c.args.out.now c.args.out_starts.now c.args.out_ends.now c.least_room.ensures
    c.least_of_two-room.ensures c.has_room.ensures (ap not c.if-not-has_room.true)

pub lay_append-requires : goal.lay_append-requires
lay_append-requires c =
    append-room limit (passed c.args.note.now) c.args.string.now c.check_note-noted.ensures
    c.check_string.ensures c.earlier.ensures c.in_ok-earlier.was
    c.args.out.now c.args.out_starts.now c.args.out_ends.now c.least_room.ensures
    c.least_of_two-room.ensures c.has_room.ensures (ap not c.if-not-has_room.false)

pub returns-in_err-earlier : goal.returns-in_err-earlier
returns-in_err-earlier c = rw (passed-on _ c.from_residual.ensures.1) (join-refused limit (passed c.args.note.now) c.args.string.now c.check_note-noted.ensures
    c.check_string.ensures c.earlier.ensures
    (append_edit (passed c.args.note.now) c.args.string.now) c.args.out.now c.args.out_starts.now c.args.out_ends.now
    c.in_err-earlier.was)

pub returns : goal.returns
returns c =
    append-made limit (passed c.args.note.now) c.args.string.now c.check_note-noted.ensures
    c.check_string.ensures c.earlier.ensures c.in_ok-earlier.was
    c.args.out.now c.args.out_starts.now c.args.out_ends.now c.least_room.ensures
    c.least_of_two-room.ensures c.has_room.ensures (ap not c.if-not-has_room.false) c.lay_append.ensures
