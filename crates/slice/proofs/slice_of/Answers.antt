-- Each way out is a case of `unplaced`; past them the numbers are those of both ranges.
use native.Mathlib.Omega.{arith}
use Rattle.slice.proofs.Sides.{shifted, no-original, no-normalized, past-text, both-placed}
use Rattle.slice.proofs.slice_of.Goals as goal

pub returns-in_default : goal.returns-in_default
returns-in_default c = no-original _ _ _ _ c.in_default.is

pub returns-in_default-in_normalized : goal.returns-in_default-in_normalized
returns-in_default-in_normalized c = no-normalized _ _ _ _ c.in_default-in_normalized.is

pub returns-then-size-end_of : goal.returns-then-size-end_of
returns-then-size-end_of c = past-text _ _ _ _ c.in-Ok-in_normalized.is c.end_of.ensures c.if-size-end_of.true

pub overflow_add-result : goal.overflow_add-result
overflow_add-result c = omega (arith, shifted c.requires c.in-Ok.is c.start_of-3.ensures)

pub returns : goal.returns
returns c =
    both-placed _ _ _ _ c.in-Ok-in_normalized.is c.end_of.ensures c.in-Ok.is c.if-size-end_of.false
    c.start_of.ensures c.end_of-2.ensures c.start_of-2.ensures c.end_of-3.ensures c.start_of-3.ensures
