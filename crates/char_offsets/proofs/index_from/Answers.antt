-- As many characters on, or back, as begin between the two bytes.
use native.Mathlib.Omega.{arith}
use Rattle.char_offsets.proofs.IndexOf.{index-most}
use Rattle.char_offsets.proofs.PairTold.{moved_on, moved_back}
use Rattle.char_offsets.proofs.index_from.Goals as goal

pub overflow_cast-result : goal.overflow_cast-result
overflow_cast-result c =
    let on = moved_on c.args.to.0 c.requires.index_known c.if-known-asked.true c.requires.to_in_bounds c.count_leads.ensures in
    omega (arith, on, index-most c.args.text.now c.args.to.0)

pub returns-then-known-asked : goal.returns-then-known-asked
returns-then-known-asked c =
    moved_on c.args.to.0 c.requires.index_known c.if-known-asked.true c.requires.to_in_bounds c.count_leads.ensures

pub overflow_add-result : goal.overflow_add-result
overflow_add-result c = omega (arith, returns-then-known-asked c, index-most c.args.text.now c.args.to.0)

pub overflow_cast-result-2 : goal.overflow_cast-result-2
overflow_cast-result-2 c =
    omega (arith, moved_back c.args.to.0 c.requires.index_known c.if-known-asked.false c.count_leads-2.ensures)

pub overflow_sub-result : goal.overflow_sub-result
overflow_sub-result c =
    omega (arith, moved_back c.args.to.0 c.requires.index_known c.if-known-asked.false c.count_leads-2.ensures)

pub returns : goal.returns
returns c =
    omega (arith, moved_back c.args.to.0 c.requires.index_known c.if-known-asked.false c.count_leads-2.ensures)
