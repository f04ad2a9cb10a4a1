-- The note first, then its head and the room; past these the text is laid down, and its columns.
use native.Mathlib.Omega.{arith}
use Rattle.buffers.proofs.Cases.{passed-on}
use Rattle.note.specs.Notes.{limit, passed}
use Rattle.lowercase.proofs.Grown.{dotted-few}
use Rattle.lowercase.proofs.Calls.{note-refused, columns-even, head-refused, lower-large, text_room, starts_room, ends_room, lower-made}
use Rattle.lowercase.proofs.lowercase.Goals as goal

pub has_head-requires : goal.has_head-requires
has_head-requires c =
    columns-even limit (passed c.args.note.now) c.args.out.now c.args.out_starts.now c.args.out_ends.now c.check_note.ensures c.in_ok-check_note.was

pub returns-then-has_head : goal.returns-then-has_head
returns-then-has_head c =
    head-refused limit (passed c.args.note.now) c.args.out.now c.args.out_starts.now c.args.out_ends.now c.check_note.ensures c.in_ok-check_note.was c.has_head.ensures c.if-has_head.true

pub overflow_add-size : goal.overflow_add-size
overflow_add-size c =
    let text = c.args.note.now.normalized.now in
    omega (arith, c.count_dotted.ensures, dotted-few 0 text)

pub returns-then-room-size : goal.returns-then-room-size
returns-then-room-size c =
    lower-large limit (passed c.args.note.now) c.args.out.now c.args.out_starts.now c.args.out_ends.now c.check_note.ensures c.in_ok-check_note.was
    c.has_head.ensures c.if-has_head.false c.count_dotted.ensures c.least_room.ensures c.least_of_two-room.ensures (omega arith)

pub lay_text-requires : goal.lay_text-requires
lay_text-requires c =
    text_room limit (passed c.args.note.now) c.args.out.now c.args.out_starts.now c.args.out_ends.now c.check_note.ensures c.in_ok-check_note.was
    c.has_head.ensures c.if-has_head.false c.count_dotted.ensures c.least_room.ensures c.least_of_two-room.ensures (omega (arith, c.if-room-size.false))
    c.lowercase_table-table.ensures

pub lay_column-requires : goal.lay_column-requires
lay_column-requires c =
    starts_room limit (passed c.args.note.now) c.args.out.now c.args.out_starts.now c.args.out_ends.now c.check_note.ensures c.in_ok-check_note.was
    c.has_head.ensures c.if-has_head.false c.count_dotted.ensures c.least_room.ensures c.least_of_two-room.ensures (omega (arith, c.if-room-size.false))

pub lay_column-requires-2 : goal.lay_column-requires-2
lay_column-requires-2 c =
    ends_room limit (passed c.args.note.now) c.args.out.now c.args.out_starts.now c.args.out_ends.now c.check_note.ensures c.in_ok-check_note.was
    c.has_head.ensures c.if-has_head.false c.count_dotted.ensures c.least_room.ensures c.least_of_two-room.ensures (omega (arith, c.if-room-size.false))

pub returns-in_err-check_note : goal.returns-in_err-check_note
returns-in_err-check_note c = rw (passed-on _ c.from_residual.ensures.1) (note-refused limit (passed c.args.note.now) c.args.out.now c.args.out_starts.now c.args.out_ends.now c.check_note.ensures c.in_err-check_note.was)

pub returns : goal.returns
returns c =
    lower-made limit (passed c.args.note.now) c.args.out.now c.args.out_starts.now c.args.out_ends.now c.check_note.ensures c.in_ok-check_note.was
    c.has_head.ensures c.if-has_head.false c.count_dotted.ensures c.least_room.ensures c.least_of_two-room.ensures (omega (arith, c.if-room-size.false))
    c.lay_text.ensures c.lay_column.ensures c.lay_column-2.ensures
