-- A start past the text; else both ends by their bytes.
use native.Mathlib.Omega.{arith}
use Rattle.char_counts.proofs.Counts.{can-look}
use Rattle.char_offsets.proofs.IndexOf.{index-most, count_index}
use Rattle.char_offsets.proofs.PairTold.{told-missing, told-chars}
use Rattle.char_offsets.proofs.convert_pair.Goals as goal

pub returns-then-text-from : goal.returns-then-text-from
returns-then-text-from c = told-missing _ _ _ c.if-text-from.true

pub count_at-first-requires : goal.count_at-first-requires
count_at-first-requires c = can-look _ c.requires c.if-text-from.false

pub count_at-past-requires : goal.count_at-past-requires
count_at-past-requires c = can-look _ c.requires c.end_byte-last.ensures.inside

pub overflow_add-result : goal.overflow_add-result
overflow_add-result c =
    let past = count_index c.requires c.end_byte-last.ensures.inside c.count_at-past.ensures in
    omega (arith, past, index-most c.args.text.now c.end_byte-last.result.byte.0, c.end_byte-last.ensures.inside, c.end_byte-last.ensures.little, c.requires.short)

pub returns : goal.returns
returns c =
    let lent = c.requires in
    let below = c.if-text-from.false in
    let first = count_index lent below c.count_at-first.ensures in
    told-chars _ _ _ below first c.end_byte-last.ensures (count_index lent c.end_byte-last.ensures.inside c.count_at-past.ensures)
