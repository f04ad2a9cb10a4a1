-- Near after: as many characters on as begin in the block.
use native.Mathlib.Omega.{arith}
use Rattle.char_offsets.proofs.IndexOf.{index-most}
use Rattle.char_columns.proofs.FirstBytes.{moved-near}
use Rattle.char_columns.proofs.index_after.Goals as goal

pub returns-then-at-text : goal.returns-then-at-text
returns-then-at-text c =
    moved-near c.args.to c.requires.known.0 c.if-at-to.true c.requires.to_in_bounds c.first_leads.ensures

pub overflow_add-result : goal.overflow_add-result
overflow_add-result c =
    omega (arith, returns-then-at-text c, index-most c.args.text.now c.args.to, c.requires.known.0.short)
