-- The note first, then the script; what the range names is edited.
use mathlib.Core.Path.{ap}
use mathlib.Core.Bool.{not}
use mathlib.Core.Path.{refl}
use Rattle.buffers.proofs.Cases.{passed-on}
use Rattle.note.specs.Refusals.{also}
use Rattle.note.specs.Notes.{limit, passed}
use Rattle.note.specs.Faults.{note_faults}
use Rattle.script.specs.Scripts.{commands_of, script_faults}
use Rattle.transform.specs.Transforming.{script_edit}
use Rattle.transform.proofs.Verdicts.{inputs-refused, inputs-accepted, note-columns, note-editable, note-refused, script-refused, script-accepted, edit-found, edit-none}
use Rattle.transform.proofs.transform_range.Goals as goal

pub returns-then-not-whole : goal.returns-then-not-whole
returns-then-not-whole c =
    let note = (passed c.args.note.now) in
    inputs-refused limit note (also (note_faults limit note) (script_faults c.args.script.now)) refl
    (script_edit note c.args.range c.args.script.now c.args.initial_offset) c.args.out.now c.args.out_starts.now
    c.args.out_ends.now
    (script-refused limit note c.args.script.now c.check_note.ensures c.in_ok-check_note.was c.whole.ensures (ap not c.if-not-whole.true))
    refl

pub as_normalized-requires : goal.as_normalized-requires
as_normalized-requires c = note-columns limit _ c.check_note.ensures c.in_ok-check_note.was

pub edit-requires : goal.edit-requires
edit-requires c = note-editable limit _ c.check_note.ensures c.in_ok-check_note.was

pub edit-requires-in-Err : goal.edit-requires-in-Err
edit-requires-in-Err c = note-editable limit _ c.check_note.ensures c.in_ok-check_note.was

pub returns-in_err-check_note : goal.returns-in_err-check_note
returns-in_err-check_note c = rw (passed-on _ c.from_residual.ensures.1) (let note = (passed c.args.note.now) in
    inputs-refused limit note (also (note_faults limit note) (script_faults c.args.script.now)) refl
    (script_edit note c.args.range c.args.script.now c.args.initial_offset) c.args.out.now c.args.out_starts.now
    c.args.out_ends.now
    (note-refused limit note c.args.script.now c.check_note.ensures c.in_err-check_note.was) refl)

pub returns-in-Ok : goal.returns-in-Ok
returns-in-Ok c =
    let note = (passed c.args.note.now) in
    inputs-accepted limit note (also (note_faults limit note) (script_faults c.args.script.now)) refl (script_edit note c.args.range c.args.script.now c.args.initial_offset) c.args.out.now c.args.out_starts.now c.args.out_ends.now
    (script-accepted limit note c.args.script.now c.check_note.ensures c.in_ok-check_note.was c.whole.ensures (ap not c.if-not-whole.false)) refl
    (edit-found c.args.initial_offset (commands_of c.args.script.now) c.as_normalized.ensures c.in-Ok.is c.start_of.ensures c.end_of.ensures)
    c.edit.ensures

pub returns-in-Err : goal.returns-in-Err
returns-in-Err c =
    let note = (passed c.args.note.now) in
    inputs-accepted limit note (also (note_faults limit note) (script_faults c.args.script.now)) refl (script_edit note c.args.range c.args.script.now c.args.initial_offset) c.args.out.now c.args.out_starts.now c.args.out_ends.now
    (script-accepted limit note c.args.script.now c.check_note.ensures c.in_ok-check_note.was c.whole.ensures (ap not c.if-not-whole.false)) refl
    (edit-none c.args.initial_offset (commands_of c.args.script.now) c.as_normalized.ensures c.in-Err.is)
    c.edit-in-Err.ensures
