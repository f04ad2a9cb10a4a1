-- The note first, then the list, then the room for its pieces: by a bound that needs no look at the places, else by their number.
use Rattle.buffers.proofs.Cases.{passed-on}
use Rattle.note.specs.Notes.{limit}
use Rattle.pattern.proofs.Entries.{places-most}
use Rattle.split_offsets.proofs.Judged.{judged-note, judged-list, judged-roomy, listed, judged-room}
use Rattle.split_offsets.proofs.check_splits.Goals as goal

pub returns-in_err-check_note : goal.returns-in_err-check_note
returns-in_err-check_note c = rw (passed-on _ c.from_residual.ensures.1) (judged-note limit _ _ _ _ c.check_note.ensures c.in_err-check_note.was)

pub returns-then-not-covers : goal.returns-then-not-covers
returns-then-not-covers c = judged-list limit _ _ _ _ c.check_note.ensures c.in_ok-check_note.was c.covers.ensures c.if-not-covers.true

pub returns-then-most_places-room : goal.returns-then-most_places-room
returns-then-most_places-room c =
    judged-roomy limit _ _ _ _ c.check_note.ensures c.in_ok-check_note.was c.covers.ensures c.if-not-covers.false (places-most _ c.most_places.ensures) c.if-most_places-room.true

pub measure-sizes-requires : goal.measure-sizes-requires
measure-sizes-requires c =
    listed limit _ _ c.args.behavior c.args.room c.check_note.ensures c.in_ok-check_note.was c.covers.ensures c.if-not-covers.false

pub returns : goal.returns
returns c =
    judged-room limit _ _ _ _ c.check_note.ensures c.in_ok-check_note.was c.covers.ensures c.if-not-covers.false c.measure-sizes.ensures c.refused_if.ensures
