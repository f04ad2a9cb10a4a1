-- The note first, then the number of flags; what the whole range names is edited.
use mathlib.Core.Path.{refl}
use native.Mathlib.Omega.{arith}
use Rattle.buffers.proofs.Cases.{passed-on}
use Rattle.note.specs.Refusals.{also}
use Rattle.note.specs.Notes.{limit, passed}
use Rattle.note.specs.Faults.{note_faults}
use Rattle.transform.proofs.Verdicts.{inputs-refused, inputs-accepted, note-columns, note-editable}
use Rattle.edits.specs.Whole.{filter_edit}
use Rattle.edits.proofs.Inputs.{note-short}
use Rattle.filters.proofs.Counted.{flag_faults, note-first, flag-each, count-refused, well-counted, filter-found, filter_none}
use Rattle.filters.proofs.Spanned.{range-ready}
use Rattle.filters.proofs.filter.Goals as goal

pub returns-then-flags-count_leads : goal.returns-then-flags-count_leads
returns-then-flags-count_leads c =
    let note = (passed c.args.note.now) in
    inputs-refused limit note (also (note_faults limit note) (flag_faults c.args.note.now.normalized.now c.args.flags.now)) refl (filter_edit note c.args.flags.now) c.args.out.now c.args.out_starts.now c.args.out_ends.now
    (count-refused limit note c.args.flags.now c.check_note.ensures c.in_ok-check_note.was c.count_leads.ensures c.if-flags-count_leads.true) refl

pub overflow_cast-original : goal.overflow_cast-original
overflow_cast-original c = omega (arith, note-short limit _ c.check_note.ensures c.in_ok-check_note.was)

pub as_normalized-requires : goal.as_normalized-requires
as_normalized-requires c = note-columns limit _ c.check_note.ensures c.in_ok-check_note.was

pub filter_range-requires : goal.filter_range-requires
filter_range-requires c =
    let note = (passed c.args.note.now) in
    range-ready limit note c.args.flags.now c.check_note.ensures c.in_ok-check_note.was (flag-each limit note c.args.flags.now c.check_note.ensures c.in_ok-check_note.was c.count_leads.ensures c.if-flags-count_leads.false)

pub edit-requires : goal.edit-requires
edit-requires c = note-editable limit _ c.check_note.ensures c.in_ok-check_note.was

pub returns-in_err-check_note : goal.returns-in_err-check_note
returns-in_err-check_note c = rw (passed-on _ c.from_residual.ensures.1) (let note = (passed c.args.note.now) in
    inputs-refused limit note (also (note_faults limit note) (flag_faults c.args.note.now.normalized.now c.args.flags.now)) refl
    (filter_edit note c.args.flags.now) c.args.out.now c.args.out_starts.now c.args.out_ends.now
    (note-first limit note c.args.flags.now c.check_note.ensures c.in_err-check_note.was) refl)

pub returns-in-Ok : goal.returns-in-Ok
returns-in-Ok c =
    let note = (passed c.args.note.now) in
    inputs-accepted limit note (also (note_faults limit note) (flag_faults c.args.note.now.normalized.now c.args.flags.now)) refl (filter_edit note c.args.flags.now) c.args.out.now c.args.out_starts.now c.args.out_ends.now
    (well-counted limit note c.args.flags.now c.check_note.ensures c.in_ok-check_note.was c.count_leads.ensures c.if-flags-count_leads.false) refl
    (filter-found note c.args.flags.now c.as_normalized.ensures c.in-Ok.is c.start_of.ensures c.end_of.ensures)
    c.filter_range.ensures

pub returns-in-Err : goal.returns-in-Err
returns-in-Err c =
    let note = (passed c.args.note.now) in
    inputs-accepted limit note (also (note_faults limit note) (flag_faults c.args.note.now.normalized.now c.args.flags.now)) refl (filter_edit note c.args.flags.now) c.args.out.now c.args.out_starts.now c.args.out_ends.now
    (well-counted limit note c.args.flags.now c.check_note.ensures c.in_ok-check_note.was c.count_leads.ensures c.if-flags-count_leads.false) refl
    (filter_none note c.args.flags.now c.as_normalized.ensures c.in-Err.is)
    c.edit.ensures
