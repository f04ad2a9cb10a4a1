-- The text's refusal comes first; then the range; past these the bytes that begin a character are counted.
use mathlib.Core.Path.{◌∙◌, sym}
use native.Mathlib.Omega.{arith}
use Rattle.buffers.proofs.Cases.{passed-on}
use Rattle.utf8.proofs.Boundaries.{Between, char-range-between}
use Rattle.char_offsets.proofs.LetterCounts.{leads-part-le, count-refused, count-off, count_is}
use Rattle.char_offsets.proofs.letters.letter_count.Goals as goal
use Rattle.char_offsets.proofs.letters.letter_count.Goals.{Else-not-is_char_range}

-- the range that is counted
between : (c : Else-not-is_char_range) → Between c.args.text.now c.args.start.0 c.args.end.0
between c = char-range-between _ _ _ (sym c.is_char_range.ensures ∙ c.if-not-is_char_range.false)

pub returns-in_err-check_text : goal.returns-in_err-check_text
returns-in_err-check_text c = rw (passed-on _ c.from_residual.ensures.1) (count-refused _ _ _ _ c.check_text.ensures c.in_err-check_text.was)

pub returns-then-not-is_char_range : goal.returns-then-not-is_char_range
returns-then-not-is_char_range c =
    count-off _ _ _ _ c.check_text.ensures c.in_ok-check_text.was c.is_char_range.ensures c.if-not-is_char_range.true

pub slice_bounds-count_leads-count : goal.slice_bounds-count_leads-count
slice_bounds-count_leads-count c = omega (arith, (between c).onward)

pub slice_bounds-count_leads-start : goal.slice_bounds-count_leads-start
slice_bounds-count_leads-start c = omega (arith, (between c).onward, (between c).inside)

pub slice_bounds-count_leads-end : goal.slice_bounds-count_leads-end
slice_bounds-count_leads-end c = omega (arith, (between c).inside)

pub overflow_cast-result : goal.overflow_cast-result
overflow_cast-result c = omega (arith, leads-part-le c.args.text.now c.args.start.0 c.args.end.0, c.count_leads.ensures)

pub returns : goal.returns
returns c =
    count_is _ _ _ _ c.check_text.ensures c.in_ok-check_text.was
    c.is_char_range.ensures c.if-not-is_char_range.false c.count_leads.ensures
