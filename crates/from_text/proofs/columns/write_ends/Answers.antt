use Prim.Native.Nat.{◌/◌}
use mathlib.Core.Path.{◌≡◌, ◌∙◌, refl}
use native.Mathlib.Omega.{arith}
use Rattle.buffers.proofs.Columns.{none_filled, filled_at, filled-after}
use Rattle.from_text.proofs.CharRanges.{block_here, all-ends}
use Rattle.from_text.proofs.columns.write_ends.Goals as goal

pub loop-k-init : goal.loop-k-init
loop-k-init c = none_filled _ _ _

pub ends_block-requires : goal.ends_block-requires
ends_block-requires c =
    record { text_value = (c.requires.text_value.0, omega arith); i_in_bounds = (omega arith, omega arith) }

pub loop-k-preserved : goal.loop-k-preserved
loop-k-preserved c =
    filled_at _ _ _ _ _ _ _ (filled-after _ _ _ _ _ _ _ c.loop-k.invariant (block_here _ _ _ _ _ c.ends_block.ensures)) refl (omega arith)

pub carry_ends-requires : goal.carry_ends-requires
carry_ends-requires c =
    record { text_value = (c.requires.text_value.0, omega arith); from_in_bounds = (omega arith, omega arith) }

pub shape_of-ends : goal.shape_of-ends
shape_of-ends c = c.carry_ends.ensures.same ∙ c.loop-k.invariant.same

pub returns : goal.returns
returns c =
    let all : c.loop-k.k ≡ c.saturating_sub-blocks.result / 64 = omega arith in
    all-ends _ _ _ _ _ c.requires.text_in_bounds (rw all at c.loop-k.invariant) c.carry_ends.ensures
