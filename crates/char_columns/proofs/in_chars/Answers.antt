-- A start past the text; an end past it, else inside it or at its end.
use mathlib.Core.Path.{refl}
use native.Mathlib.Omega.{arith}
use Rattle.char_offsets.proofs.IndexOf.{index-most}
use Rattle.char_offsets.proofs.PairTold.{end-past}
use Rattle.char_columns.proofs.Numbered.{cursor-at, end-near, unmapped, mapped-chars}
use Rattle.char_columns.proofs.in_chars.Goals as goal

pub returns-then-text-from : goal.returns-then-text-from
returns-then-text-from c = unmapped _ _ _ c.requires.0 c.if-text-from.true

pub overflow_add-result : goal.overflow_add-result
overflow_add-result c =
    omega (arith, c.start_index-index.ensures, index-most c.args.text.now c.args.start.0, c.requires.0.first_known.short)

pub returns-then-text-to : goal.returns-then-text-to
returns-then-text-to c =
    let below = c.if-text-from.false in
    let first = c.start_index-index.ensures in
    mapped-chars _ _ _ (record { first_known = cursor-at c.requires.0.first_known.short below first; last_known = c.requires.0.last_known }) below first
    (omega (arith, first, (end-past c.args.start.0 c.args.end.0 below c.if-text-to.true).right c.args.text.now refl))

pub overflow_add-result-2 : goal.overflow_add-result-2
overflow_add-result-2 c =
    let at = c.least_of_two-at in
    omega (arith, c.index_after-past.ensures, at.ensures, index-most c.args.text.now at.result, c.requires.0.last_known.short)

pub returns : goal.returns
returns c =
    let below = c.if-text-from.false in
    let first = c.start_index-index.ensures in
    let at = c.least_of_two-at.ensures in
    let last = cursor-at c.requires.0.last_known.short (omega (arith, at)) c.index_after-past.ensures in
    mapped-chars _ _ _ (record { first_known = cursor-at c.requires.0.first_known.short below first; last_known = last }) below first
    (end-near _ _ _ below c.if-text-to.false at c.index_after-past.ensures)
