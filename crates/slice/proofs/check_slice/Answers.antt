-- The note first, then the range in the text that it names, then in both, then the room.
use mathlib.Core.Path.{◌∙◌, sym}
use Rattle.buffers.proofs.Cases.{passed-on}
use Rattle.note.specs.Notes.{limit}
use Rattle.convert.proofs.Answered.{accepted-columns}
use Rattle.slice.proofs.Judged.{judged-note, judged-off, shiftable, judged-missing, cut-forward, judged-small, judged-cut}
use Rattle.slice.proofs.check_slice.Goals as goal

pub returns-in_err-check_note : goal.returns-in_err-check_note
returns-in_err-check_note c = rw (passed-on _ c.from_residual.ensures.1) (judged-note limit _ _ _ c.check_note.ensures c.in_err-check_note.was)

pub returns-then-not-validate_range : goal.returns-then-not-validate_range
returns-then-not-validate_range c =
    judged-off limit _ _ _ c.check_note.ensures c.in_ok-check_note.was c.validate_range.ensures c.if-not-validate_range.true

pub as_original-in_original-requires : goal.as_original-in_original-requires
as_original-in_original-requires c = accepted-columns limit _ (sym c.check_note.ensures ∙ c.in_ok-check_note.was)

pub as_normalized-in_normalized-requires : goal.as_normalized-in_normalized-requires
as_normalized-in_normalized-requires c = accepted-columns limit _ (sym c.check_note.ensures ∙ c.in_ok-check_note.was)

pub slice_of-requires : goal.slice_of-requires
slice_of-requires c =
    shiftable limit _ _ c.args.room c.check_note.ensures c.in_ok-check_note.was c.validate_range.ensures c.if-not-validate_range.false c.as_original-in_original.ensures

pub overflow_sub-to : goal.overflow_sub-to
overflow_sub-to c =
    cut-forward limit _ _ c.args.room c.check_note.ensures c.in_ok-check_note.was c.validate_range.ensures c.if-not-validate_range.false
    c.as_original-in_original.ensures c.as_normalized-in_normalized.ensures c.slice_of.ensures c.in_ok-s.was

pub returns-then-room-to : goal.returns-then-room-to
returns-then-room-to c =
    judged-small limit _ _ _ c.check_note.ensures c.in_ok-check_note.was c.validate_range.ensures c.if-not-validate_range.false
    c.as_original-in_original.ensures c.as_normalized-in_normalized.ensures c.slice_of.ensures c.in_ok-s.was c.if-room-to.true

pub returns-in_err-s : goal.returns-in_err-s
returns-in_err-s c =
    rw (passed-on _ c.from_residual-in_err-s.ensures.1)
    (judged-missing limit _ _ _ c.check_note.ensures c.in_ok-check_note.was c.validate_range.ensures c.if-not-validate_range.false
    c.as_original-in_original.ensures c.as_normalized-in_normalized.ensures c.slice_of.ensures c.in_err-s.was)

pub returns : goal.returns
returns c =
    judged-cut limit _ _ _ c.check_note.ensures c.in_ok-check_note.was c.validate_range.ensures c.if-not-validate_range.false
    c.as_original-in_original.ensures c.as_normalized-in_normalized.ensures c.slice_of.ensures c.in_ok-s.was c.if-room-to.false
