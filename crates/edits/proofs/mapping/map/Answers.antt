-- The note first, then the code points, then their number, the head and the room; past these they are laid down.
use mathlib.Core.Path.{◌∙◌, refl, sym}
use Rattle.buffers.proofs.Cases.{passed-on}
use Rattle.note.specs.Refusals.{also}
use Rattle.note.specs.Notes.{limit, passed}
use Rattle.note.specs.Faults.{note_faults}
use Rattle.transform.proofs.Verdicts.{inputs-refused, note-editable}
use Rattle.edits.specs.Whole.{codes_faults, map_edit}
use Rattle.edits.proofs.Inputs.{note-first, bad-codes, count-refused}
use Rattle.edits.proofs.Mapped.{head-refused, map-large, map-room, map-made}
use Rattle.edits.proofs.mapping.map.Goals as goal

pub returns-then-not-judged : goal.returns-then-not-judged
returns-then-not-judged c =
    let note = (passed c.args.note.now) in
    inputs-refused limit note (also (note_faults limit note) (codes_faults c.args.note.now.normalized.now c.args.codes.now)) refl (map_edit note c.args.codes.now) c.args.out.now c.args.out_starts.now c.args.out_ends.now
    (bad-codes limit note c.args.codes.now c.check_note.ensures c.in_ok-check_note.was c.judge-judged.ensures.scalar_is c.if-not-judged.true) refl

pub returns-then-codes-count_leads : goal.returns-then-codes-count_leads
returns-then-codes-count_leads c =
    let note = (passed c.args.note.now) in
    inputs-refused limit note (also (note_faults limit note) (codes_faults c.args.note.now.normalized.now c.args.codes.now)) refl (map_edit note c.args.codes.now) c.args.out.now c.args.out_starts.now c.args.out_ends.now
    (count-refused limit note c.args.codes.now c.check_note.ensures c.in_ok-check_note.was c.judge-judged.ensures.scalar_is c.if-not-judged.false c.count_leads.ensures c.if-codes-count_leads.true) refl

pub has_head-requires : goal.has_head-requires
has_head-requires c =
    let k = note-editable limit (passed c.args.note.now) c.check_note.ensures c.in_ok-check_note.was in
    k.one_start ∙ sym k.one_end

pub returns-then-has_head : goal.returns-then-has_head
returns-then-has_head c =
    head-refused limit (passed c.args.note.now) c.args.codes.now c.args.out.now c.args.out_starts.now c.args.out_ends.now
    c.check_note.ensures c.in_ok-check_note.was
    c.judge-judged.ensures c.if-not-judged.false
    c.count_leads.ensures c.if-codes-count_leads.false c.has_head.ensures c.if-has_head.true

pub returns-then-room-judged : goal.returns-then-room-judged
returns-then-room-judged c =
    map-large limit (passed c.args.note.now) c.args.codes.now c.args.out.now c.args.out_starts.now c.args.out_ends.now
    c.check_note.ensures c.in_ok-check_note.was
    c.judge-judged.ensures c.if-not-judged.false
    c.count_leads.ensures c.if-codes-count_leads.false c.has_head.ensures
    c.if-has_head.false c.least_room.ensures c.least_of_two-room.ensures c.if-room-judged.true

pub lay_codes-laid-requires : goal.lay_codes-laid-requires
lay_codes-laid-requires c =
    map-room limit (passed c.args.note.now) c.args.codes.now c.args.out.now c.args.out_starts.now c.args.out_ends.now
    c.check_note.ensures c.in_ok-check_note.was
    c.judge-judged.ensures c.if-not-judged.false
    c.count_leads.ensures c.if-codes-count_leads.false c.has_head.ensures
    c.if-has_head.false c.least_room.ensures c.least_of_two-room.ensures c.if-room-judged.false

pub returns-in_err-check_note : goal.returns-in_err-check_note
returns-in_err-check_note c = rw (passed-on _ c.from_residual.ensures.1) (let note = (passed c.args.note.now) in
    inputs-refused limit note (also (note_faults limit note) (codes_faults c.args.note.now.normalized.now c.args.codes.now)) refl (map_edit note c.args.codes.now) c.args.out.now c.args.out_starts.now c.args.out_ends.now
    (note-first limit note c.args.codes.now c.check_note.ensures c.in_err-check_note.was) refl)

pub returns : goal.returns
returns c =
    map-made limit (passed c.args.note.now) c.args.codes.now c.args.out.now c.args.out_starts.now c.args.out_ends.now
    c.check_note.ensures c.in_ok-check_note.was
    c.judge-judged.ensures c.if-not-judged.false
    c.count_leads.ensures c.if-codes-count_leads.false c.has_head.ensures
    c.if-has_head.false c.least_room.ensures c.least_of_two-room.ensures c.if-room-judged.false
    c.lay_codes-laid.ensures
