-- A transcript over the limit is refused before its length is taken for a position.
use mathlib.Core.Path.{refl}
use Rattle.note.specs.Refusals.{also}
use Rattle.note.specs.Notes.{Note, limit, passed}
use Rattle.note.specs.Faults.{note_faults}
use Rattle.script.specs.Scripts.{script_faults}
use Rattle.transform.specs.Transforming.{script_edit, whole_original}
use Rattle.transform.proofs.Verdicts.{inputs-refused, note-refused, long-refused}
use Rattle.transform.proofs.transform.Goals as goal

pub returns-then-note-gt-LIMIT : goal.returns-then-note-gt-LIMIT
returns-then-note-gt-LIMIT c =
    let note : Note = (passed c.args.note.now) in
    inputs-refused limit note (also (note_faults limit note) (script_faults c.args.script.now)) refl
    (script_edit note (whole_original c.args.note.now.original.now) c.args.script.now c.args.initial_offset) c.args.out.now
    c.args.out_starts.now c.args.out_ends.now
    (note-refused limit note c.args.script.now refl (long-refused limit note c.if-note-gt-LIMIT.true)) refl
