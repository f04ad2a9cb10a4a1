-- The content, and beside it the range of the byte before the end.
use native.Mathlib.Omega.{arith}
use Rattle.redact_blocks.proofs.Keeping.{padded-laid, padded-first, padded-small}
use Rattle.redact_blocks.proofs.stretches.fill.Goals as goal

pub overflow_cast-first : goal.overflow_cast-first
overflow_cast-first c = omega (arith, padded-first c.requires c.char_start-first.ensures)

pub overflow_cast-last : goal.overflow_cast-last
overflow_cast-last c =
    let small = padded-small c.requires c.char_start-first.ensures c.char_end-last.ensures in omega (arith, small)

pub returns : goal.returns
returns c =
    padded-laid c.requires c.char_start-first.ensures c.char_end-last.ensures c.copy_front_over.ensures
    c.fill_over.ensures c.fill_over-2.ensures
