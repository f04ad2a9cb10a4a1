-- Starts that never go back are inside where the last one is.
use native.Mathlib.Omega.{arith}
use Rattle.boundaries.proofs.Spanning.{starts-inside}
use Rattle.boundaries.proofs.uncut_all.Goals as goal

pub uncut_blocks-requires-clause-starts_inside : goal.uncut_blocks-requires-clause-starts_inside
uncut_blocks-requires-clause-starts_inside c =
    let known = c.requires in
    let item = c.in-Some.ensures.item in
    starts-inside _ _ _ _ _ known.ends_len.1 known.original_value.0 known.original_value.1 (omega (arith, item.3.1 0))
