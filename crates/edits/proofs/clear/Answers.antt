-- The note first; then the room for its head, which is laid down.
use Prim.Native.Nat.{◌≤◌}
use mathlib.Core.Path.{◌≡◌, refl, sym}
use lib.ListN.{length, take}
use lib.Seq.{length-take-le}
use native.Mathlib.Omega.{arith}
use Rattle.buffers.proofs.Cases.{passed-on}
use Rattle.note.specs.Notes.{limit, passed}
use Rattle.edits.proofs.Emptied.{note-refuses, even, inside-all, no_room, has-cleared}
use Rattle.edits.proofs.clear.Goals as goal
use Rattle.edits.proofs.clear.Goals.{After-widthless-left}

-- the head lies inside the text and the columns
inside : (c : After-widthless-left) → (c.widthless-left.result ≤ length c.args.note.now.normalized.now) × ((c.widthless-left.result ≤ length c.args.note.now.starts.now) × (c.widthless-left.result ≤ length c.args.note.now.ends.now))
inside c =
    inside-all limit (passed c.args.note.now) c.args.out.now c.args.out_starts.now c.args.out_ends.now c.check_note.ensures c.in_ok-check_note.was c.widthless-left.ensures refl

text_fits : (c : After-widthless-left) → c.widthless-left.result ≡ length (take c.widthless-left.result c.args.note.now.normalized.now)
text_fits c = sym (length-take-le _ _ (inside c).0)

starts_fit : (c : After-widthless-left) → c.widthless-left.result ≡ length (take c.widthless-left.result c.args.note.now.starts.now)
starts_fit c = sym (length-take-le _ _ (inside c).1.0)

ends_fit : (c : After-widthless-left) → c.widthless-left.result ≡ length (take c.widthless-left.result c.args.note.now.ends.now)
ends_fit c = sym (length-take-le _ _ (inside c).1.1)

pub widthless-left-requires : goal.widthless-left-requires
widthless-left-requires c =
    even limit (passed c.args.note.now) c.args.out.now c.args.out_starts.now c.args.out_ends.now c.check_note.ensures c.in_ok-check_note.was

pub returns-then-least_room-left : goal.returns-then-least_room-left
returns-then-least_room-left c =
    no_room limit (passed c.args.note.now) c.args.out.now c.args.out_starts.now c.args.out_ends.now c.check_note.ensures c.in_ok-check_note.was c.widthless-left.ensures c.least_room.ensures c.if-least_room-left.true

pub slice_bounds-copy-end : goal.slice_bounds-copy-end
slice_bounds-copy-end c = text_fits (goal.at.slice_bounds-copy-end c).After-widthless-left

pub copy-requires : goal.copy-requires
copy-requires c =
    omega (arith, text_fits (goal.at.copy-requires c).After-widthless-left, c.if-least_room-left.false, c.least_room.ensures)

pub slice_bounds-copy-end-2 : goal.slice_bounds-copy-end-2
slice_bounds-copy-end-2 c = starts_fit (goal.at.slice_bounds-copy-end-2 c).After-widthless-left

pub copy-requires-2 : goal.copy-requires-2
copy-requires-2 c =
    omega (arith, starts_fit (goal.at.copy-requires-2 c).After-widthless-left, c.if-least_room-left.false, c.least_room.ensures)

pub slice_bounds-copy-end-3 : goal.slice_bounds-copy-end-3
slice_bounds-copy-end-3 c = ends_fit (goal.at.slice_bounds-copy-end-3 c).After-widthless-left

pub copy-requires-3 : goal.copy-requires-3
copy-requires-3 c =
    omega (arith, ends_fit (goal.at.copy-requires-3 c).After-widthless-left, c.if-least_room-left.false, c.least_room.ensures)

pub returns-in_err-check_note : goal.returns-in_err-check_note
returns-in_err-check_note c = rw (passed-on _ c.from_residual.ensures.1) (note-refuses limit (passed c.args.note.now) c.args.out.now c.args.out_starts.now c.args.out_ends.now c.check_note.ensures c.in_err-check_note.was)

pub returns : goal.returns
returns c =
    has-cleared limit (passed c.args.note.now) c.args.out.now c.args.out_starts.now c.args.out_ends.now c.check_note.ensures c.in_ok-check_note.was c.widthless-left.ensures c.least_room.ensures c.if-least_room-left.false
    c.copy.ensures c.copy-2.ensures c.copy-3.ensures
