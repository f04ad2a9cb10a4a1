-- The starting note as it is; or the content alone, or in front of its padding.
use native.Mathlib.Omega.{arith}
use Rattle.redact.proofs.Blanks.{whole_room, whole-found, literal-short, blankable, bounded-alone, bounded-padded, all_found}
use Rattle.redact.proofs.blank_found.Goals as goal

pub lay_whole-requires : goal.lay_whole-requires
lay_whole-requires c = whole_room c.requires c.if-first-text.true

pub returns-then-first-text : goal.returns-then-first-text
returns-then-first-text c = whole-found c.requires c.if-first-text.true c.lay_whole.ensures

pub margin_of-margin-requires : goal.margin_of-margin-requires
margin_of-margin-requires c = literal-short c.requires c.if-first-text.false

pub blank-requires : goal.blank-requires
blank-requires c =
    let f = c.requires in
    let met = c.if-first-text.false in
    (blankable f met, bounded-alone f met c.max_byte-max.ensures c.safe_margin-share.ensures c.margin_of-margin.ensures c.block_limit-until.ensures)

pub returns-then-content-gt16 : goal.returns-then-content-gt16
returns-then-content-gt16 c = all_found c.requires c.if-first-text.false c.blank.ensures

pub blank-requires-2 : goal.blank-requires-2
blank-requires-2 c =
    let f = c.requires in
    let met = c.if-first-text.false in
    (blankable f met, bounded-padded f met c.max_byte-max.ensures c.safe_margin-share.ensures c.margin_of-margin.ensures c.block_limit-until.ensures _ (omega arith) c.copy.ensures)

pub returns : goal.returns
returns c = all_found c.requires c.if-first-text.false c.blank-2.ensures
