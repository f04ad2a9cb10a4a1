-- A short piece as the front of a block, where one has room; else exactly.
use native.Mathlib.Omega.{arith}
use Rattle.split.proofs.Joined.{block_room, stretch-block, stretch-lowerable, stretch-exact}
use Rattle.split.proofs.lower_piece.Goals as goal

pub has_block-requires : goal.has_block-requires
has_block-requires c =
    (omega (arith, c.requires.starts_room.source), omega (arith, c.requires.starts_room.source, c.well_formed.1.1.1.1.1.0.0))

pub lower_block-requires : goal.lower_block-requires
lower_block-requires c =
    let fits = c.has_block.ensures c.if-has_block.true in block_room c.requires.starts_room fits.some fits.inside fits.below

pub lower_block-requires-then-has_block : goal.lower_block-requires-then-has_block
lower_block-requires-then-has_block c =
    let pre = c.requires in
    let fits = c.has_block.ensures c.if-has_block.true in
    block_room pre.ends_room fits.some (omega (arith, fits.inside, pre.one_end)) fits.below

pub returns-then-has_block : goal.returns-then-has_block
returns-then-has_block c =
    let pre = c.requires in
    let fits = c.has_block.ensures c.if-has_block.true in (
      stretch-block pre.starts_room fits.some fits.inside fits.below fits.few c.lower_block.ensures,
      stretch-block pre.ends_room fits.some (omega (arith, fits.inside, pre.one_end)) fits.below fits.few c.lower_block-then-has_block.ensures,
    )

pub slice_bounds-write_lowered-count : goal.slice_bounds-write_lowered-count
slice_bounds-write_lowered-count c = omega (arith, c.requires.starts_room.source)

pub slice_bounds-write_lowered-start : goal.slice_bounds-write_lowered-start
slice_bounds-write_lowered-start c = omega (arith, c.requires.starts_room.source)

pub slice_bounds-write_lowered-end : goal.slice_bounds-write_lowered-end
slice_bounds-write_lowered-end c = omega (arith, c.requires.starts_room.source)

pub write_lowered-requires : goal.write_lowered-requires
write_lowered-requires c = stretch-lowerable c.requires.starts_room

pub slice_bounds-write_lowered-count-2 : goal.slice_bounds-write_lowered-count-2
slice_bounds-write_lowered-count-2 c = omega (arith, c.requires.ends_room.source)

pub slice_bounds-write_lowered-start-2 : goal.slice_bounds-write_lowered-start-2
slice_bounds-write_lowered-start-2 c = omega (arith, c.requires.ends_room.source)

pub slice_bounds-write_lowered-end-2 : goal.slice_bounds-write_lowered-end-2
slice_bounds-write_lowered-end-2 c = omega (arith, c.requires.ends_room.source)

pub write_lowered-requires-2 : goal.write_lowered-requires-2
write_lowered-requires-2 c = stretch-lowerable c.requires.ends_room

pub returns : goal.returns
returns c =
    let pre = c.requires in
    (stretch-exact pre.starts_room c.write_lowered.ensures, stretch-exact pre.ends_room c.write_lowered-2.ensures)
