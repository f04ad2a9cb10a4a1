-- The bounds of the two parts are the block's, and within those of the test.
use Rattle.std.proofs.Common.{◌≡◌, sym, arith, length-take}
use Rattle.validity_blocks.specs.Extremes.{largest, least_lead}
use Rattle.validity_blocks.proofs.Largest.{parts-largest}
use Rattle.validity_blocks.proofs.LeastLead.{parts-least}
use Rattle.validity_blocks.proofs.Valid.{block-ascii}
use Rattle.validity_blocks.proofs.blocks.valid_block.Goals as goal
use Rattle.validity_blocks.proofs.blocks.valid_block.Goals.{After-max-most, Else-least-lt2}

whole : (c : After-max-most) → c.max-most.result ≡ largest c.args.s.now
whole c = parts-largest _ c.bounds_of-front.ensures.0 c.bounds_of-back.ensures.0 c.max-most.ensures

-- past the tests for 80 and for C0 and C1
past : (c : Else-least-lt2) → (c.min-least.result ≡ least_lead c.args.s.now)
past c =
    parts-least _ c.bounds_of-front.ensures.1 c.bounds_of-back.ensures.1 c.min-least.ensures

pub slice_bounds-bounds_of-end : goal.slice_bounds-bounds_of-end
slice_bounds-bounds_of-end c = simp length-take (omega arith)

pub returns-then-most-lt128 : goal.returns-then-most-lt128
returns-then-most-lt128 c = sym (block-ascii _ _ (omega (arith, whole (goal.at.returns-then-most-lt128 c).After-max-most)))

pub valid_two-requires : goal.valid_two-requires
valid_two-requires c =
    (omega arith, omega (arith, whole (goal.at.valid_two-requires c).After-max-most), omega (arith, past (goal.at.valid_two-requires c).Else-least-lt2))

pub valid_plain-requires : goal.valid_plain-requires
valid_plain-requires c =
    (omega arith, omega (arith, whole (goal.at.valid_plain-requires c).After-max-most), omega (arith, past (goal.at.valid_plain-requires c).Else-least-lt2))

pub valid_three-requires : goal.valid_three-requires
valid_three-requires c =
    (omega arith, omega (arith, whole (goal.at.valid_three-requires c).After-max-most), omega (arith, past (goal.at.valid_three-requires c).Else-least-lt2))

pub valid_plain_four-requires : goal.valid_plain_four-requires
valid_plain_four-requires c =
    (omega arith, omega (arith, whole (goal.at.valid_plain_four-requires c).After-max-most), omega (arith, past (goal.at.valid_plain_four-requires c).Else-least-lt2))
