-- The steps are small enough to stand after the base, and lead to where the characters end.
use Prim.Native.Nat.{◌+◌, ◌-◌, ◌%◌}
use mathlib.Core.Path.{refl}
use native.Mathlib.Omega.{arith}
use lib.ListN.{get_or}
use Rattle.buffers.specs.Splice.{part}
use Rattle.column_blocks.proofs.TwoBeside.{pair_small, steps-most, pairs-ends}
use Rattle.column_blocks.proofs.pairs.ends_block.Goals as goal

pub add_base-requires : goal.add_base-requires
add_base-requires c =
    let counted = c.count_ahead.ensures in
    let i = c.args.i in
    let s = c.args.text.now in record { steps_len = omega (arith, counted.same); by_index = λ k. omega (arith, steps-most ((i - 2) % 64 + 68) refl counted (λ j h. omega (arith, pair_small (get_or (part s (i + 1) (i + 1 + 64)) j 0) (get_or (part s (i + 2) (i + 2 + 64)) j 0))) k) }

pub returns : goal.returns
returns c =
    pairs-ends c.args.text.now c.requires.text_value.0 c.requires.text_value.2 c.args.i ((c.args.i - 2) % 64) c.args.at _ _ _ _ (omega arith) (omega arith) (omega arith) c.count_ahead.ensures c.add_base.ensures
