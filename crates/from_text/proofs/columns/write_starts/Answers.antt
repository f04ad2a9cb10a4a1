use Prim.Native.Nat.{◌/◌}
use lib.ListN.{length}
use mathlib.Core.Path.{◌≡◌, ◌∙◌, refl}
use native.Mathlib.Omega.{arith}
use Rattle.buffers.proofs.Columns.{none_filled, filled_at, filled-before}
use Rattle.from_text.proofs.CharRanges.{block_here, all-starts}
use Rattle.from_text.proofs.columns.write_starts.Goals as goal

pub loop-k-init : goal.loop-k-init
loop-k-init c = filled_at _ _ _ _ _ _ _ (none_filled _ _ (length c.args.text.now)) (omega arith) refl

pub starts_block-requires : goal.starts_block-requires
starts_block-requires c =
    record { text_value = (c.requires.text_value.0, omega arith); le_i = (omega arith, (omega arith, omega arith)) }

pub loop-k-preserved : goal.loop-k-preserved
loop-k-preserved c =
    filled-before _ _ _ _ _ _ _ c.loop-k.invariant (filled_at _ _ _ _ _ _ _ (block_here _ _ _ _ _ c.starts_block.ensures) refl (omega arith))

pub carry_starts-requires : goal.carry_starts-requires
carry_starts-requires c = record { to_in_bounds = (omega arith, omega arith); text_in_bounds = omega arith }

pub shape_of-starts : goal.shape_of-starts
shape_of-starts c = c.carry_starts.ensures.same ∙ c.loop-k.invariant.same

pub returns : goal.returns
returns c =
    let all : c.loop-k.k ≡ c.saturating_sub-blocks.result / 64 = omega arith in
    all-starts _ _ _ _ _ c.requires.text_in_bounds (rw all at c.loop-k.invariant) c.carry_starts.ensures
