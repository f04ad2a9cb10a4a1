-- Note and string first; an empty text stays; then the room; past these both are laid down.
use mathlib.Core.Path.{ap}
use mathlib.Core.Bool.{not}
use Rattle.buffers.proofs.Cases.{passed-on}
use Rattle.note.specs.Notes.{limit, passed}
use Rattle.edits.specs.Whole.{prepend_edit}
use Rattle.append_prepend.proofs.Joined.{join-refused, prepend-empty, prepend-large, prepend-room, prepend-made}
use Rattle.append_prepend.proofs.prepend.Goals as goal

pub returns-then-normalized-eq0 : goal.returns-then-normalized-eq0
returns-then-normalized-eq0 c =
    prepend-empty limit (passed c.args.note.now) c.args.string.now c.check_note-noted.ensures
    c.check_string.ensures c.earlier.ensures c.in_ok-earlier.was
    c.args.out.now c.args.out_starts.now c.args.out_ends.now c.if-normalized-eq0.true

pub returns-then-not-has_room : goal.returns-then-not-has_room
returns-then-not-has_room c =
    prepend-large limit (passed c.args.note.now) c.args.string.now c.check_note-noted.ensures
    c.check_string.ensures c.earlier.ensures c.in_ok-earlier.was
    c.args.out.now c.args.out_starts.now c.args.out_ends.now c.if-normalized-eq0.false
    c.least_room.ensures c.least_of_two-room.ensures c.has_room.ensures
    (ap not c.if-not-has_room.true)

pub lay_prepend-requires : goal.lay_prepend-requires
lay_prepend-requires c =
    prepend-room limit (passed c.args.note.now) c.args.string.now c.check_note-noted.ensures
    c.check_string.ensures c.earlier.ensures c.in_ok-earlier.was
    c.args.out.now c.args.out_starts.now c.args.out_ends.now c.if-normalized-eq0.false
    c.least_room.ensures c.least_of_two-room.ensures c.has_room.ensures
    (ap not c.if-not-has_room.false)

pub returns-in_err-earlier : goal.returns-in_err-earlier
returns-in_err-earlier c = rw (passed-on _ c.from_residual.ensures.1) (join-refused limit (passed c.args.note.now) c.args.string.now c.check_note-noted.ensures
    c.check_string.ensures c.earlier.ensures
    (prepend_edit (passed c.args.note.now) c.args.string.now) c.args.out.now c.args.out_starts.now c.args.out_ends.now
    c.in_err-earlier.was)

pub returns : goal.returns
returns c =
    prepend-made limit (passed c.args.note.now) c.args.string.now c.check_note-noted.ensures
    c.check_string.ensures c.earlier.ensures c.in_ok-earlier.was
    c.args.out.now c.args.out_starts.now c.args.out_ends.now c.if-normalized-eq0.false
    c.least_room.ensures c.least_of_two-room.ensures c.has_room.ensures
    (ap not c.if-not-has_room.false) c.lay_prepend.ensures
