-- The note's refusal stands; on an accepted note the columns are the ones that the inner call asks for.
use mathlib.Core.Path.{◌∙◌, sym}
use Rattle.buffers.proofs.Cases.{passed-on}
use Rattle.convert.specs.Converting.{convert_offsets}
use Rattle.convert.proofs.Answered.{answered-refused, answered-accepted, converted-missing, accepted-columns}
use Rattle.convert.proofs.convert_offsets.Goals as goal

pub convert_checked-requires : goal.convert_checked-requires
convert_checked-requires c = accepted-columns _ _ (sym c.check_note.ensures ∙ c.in_ok-check_note.was)

pub returns-in_err-check_note : goal.returns-in_err-check_note
unfolding convert_offsets
returns-in_err-check_note c = rw (passed-on _ c.from_residual.ensures.1) (answered-refused _ _ _ c.check_note.ensures c.in_err-check_note.was)

pub returns : goal.returns
unfolding convert_offsets
returns c =
    c.convert_checked.ensures
    ∙ answered-accepted _ _ _ c.check_note.ensures c.in_ok-check_note.was (converted-missing _ _ _)
