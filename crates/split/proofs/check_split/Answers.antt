-- The note, then the list, then the two rooms: by bounds that need no look at the places, else by the sizes.
use mathlib.Core.Path.{ap}
use mathlib.Core.Bool.{not}
use Rattle.buffers.proofs.Cases.{passed-on}
use Rattle.note.specs.Notes.{limit}
use Rattle.pattern.proofs.Entries.{places-most}
use Rattle.split.proofs.Judged.{note-refused, list-refused, roomy-accepted, measurable, no-piece-room, no-alignment-room, all-accepted}
use Rattle.split.proofs.check_split.Goals as goal

pub returns-in_err-check_note : goal.returns-in_err-check_note
returns-in_err-check_note c = rw (passed-on _ c.from_residual.ensures.1) (note-refused limit _ _ _ _ _ _ c.check_note.ensures c.in_err-check_note.was)

pub returns-then-not-covers : goal.returns-then-not-covers
returns-then-not-covers c =
    list-refused limit _ _ _ _ _ _ c.check_note.ensures c.in_ok-check_note.was c.covers.ensures (ap not c.if-not-covers.true)

pub returns-then-note-for_alignments : goal.returns-then-note-for_alignments
returns-then-note-for_alignments c =
    roomy-accepted limit _ _ _ _ _ _ c.check_note.ensures c.in_ok-check_note.was c.covers.ensures (ap not c.if-not-covers.false) (places-most _ c.most_places.ensures) c.if-most_places-for_pieces.true c.if-note-for_alignments.true

pub measure-sizes-requires : goal.measure-sizes-requires
measure-sizes-requires c =
    measurable limit _ _ c.check_note.ensures c.in_ok-check_note.was c.covers.ensures (ap not c.if-not-covers.false)

pub returns-then-for_pieces-sizes : goal.returns-then-for_pieces-sizes
returns-then-for_pieces-sizes c =
    no-piece-room limit _ _ _ _ _ _ c.check_note.ensures c.in_ok-check_note.was c.covers.ensures (ap not c.if-not-covers.false) c.measure-sizes.ensures c.if-for_pieces-sizes.true

pub returns-then-for_alignments-sizes : goal.returns-then-for_alignments-sizes
returns-then-for_alignments-sizes c =
    no-alignment-room limit _ _ _ _ _ _ c.check_note.ensures c.in_ok-check_note.was c.covers.ensures (ap not c.if-not-covers.false) c.measure-sizes.ensures c.if-for_pieces-sizes.false c.if-for_alignments-sizes.true

pub returns : goal.returns
returns c =
    all-accepted limit _ _ _ _ _ _ c.check_note.ensures c.in_ok-check_note.was c.covers.ensures (ap not c.if-not-covers.false) c.measure-sizes.ensures c.if-for_pieces-sizes.false c.if-for_alignments-sizes.false
