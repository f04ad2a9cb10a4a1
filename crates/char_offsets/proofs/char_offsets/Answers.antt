-- The text's refusal comes first; then both ends by a walk from the text's start.
use mathlib.Core.Path.{sym, ◌∙◌}
use native.Mathlib.Omega.{arith}
use Rattle.buffers.proofs.Cases.{passed-on}
use Rattle.note.proofs.Faults.{text_short}
use Rattle.char_offsets.proofs.IndexOf.{index-most}
use Rattle.char_offsets.proofs.PairTold.{told-chars}
use Rattle.char_offsets.proofs.CharOffsetsList.{known-none, pair-refused, pair-missing, pair-chars}
use Rattle.char_offsets.proofs.char_offsets.Goals as goal

pub returns-in_err-check_text : goal.returns-in_err-check_text
returns-in_err-check_text c = rw (passed-on _ c.from_residual.ensures.1) (pair-refused _ _ _ _ c.check_text.ensures c.in_err-check_text.was)

pub returns-then-text-start : goal.returns-then-text-start
returns-then-text-start c = pair-missing _ _ _ _ c.check_text.ensures c.in_ok-check_text.was c.if-text-start.true

pub index_from-first-requires : goal.index_from-first-requires
index_from-first-requires c =
    record { index_known = known-none (text_short _ _ (sym c.check_text.ensures ∙ c.in_ok-check_text.was)); to_in_bounds = omega arith }

pub index_from-past-requires : goal.index_from-past-requires
index_from-past-requires c =
    let short = text_short _ _ (sym c.check_text.ensures ∙ c.in_ok-check_text.was) in record { index_known = record { short = short; inside = omega arith; so_far = c.index_from-first.ensures }; to_in_bounds = c.end_byte-last.ensures.inside }

pub overflow_add-result : goal.overflow_add-result
overflow_add-result c =
    let last = c.end_byte-last in
    let short = text_short _ _ (sym c.check_text.ensures ∙ c.in_ok-check_text.was) in
    let most = index-most c.args.text.now last.result.byte.0 in
    omega (arith, c.index_from-past.ensures, most, last.ensures.inside, last.ensures.little, short)

pub returns : goal.returns
returns c =
    let below = c.if-text-start.false in
    pair-chars _ _ _ _ c.check_text.ensures c.in_ok-check_text.was below
    (told-chars _ _ _ below c.index_from-first.ensures c.end_byte-last.ensures c.index_from-past.ensures)
