-- The field's column, beside the one that was passed.
use Prim.Native.Nat.{◌+◌}
use mathlib.Core.Path.{sym}
use Rattle.note.specs.Notes.{limit}
use Rattle.stored_answers.proofs.Differences.{same-column}
use Rattle.stored_answers.proofs.columns.are_offsets.Goals as goal

pub returns : goal.returns
returns c =
    same-column (limit + 1) (limit + 1) c.args.column.now _ c.same.ensures c.offsets-n.ensures.laid (sym c.zeros-expected.ensures)
