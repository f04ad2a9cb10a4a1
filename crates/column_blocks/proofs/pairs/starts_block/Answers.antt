-- The steps are small enough to stand after the base, and lead to where the characters begin.
use Prim.Native.Nat.{◌+◌, ◌-◌, ◌%◌}
use mathlib.Core.Path.{refl}
use native.Mathlib.Omega.{arith}
use Rattle.column_blocks.proofs.TwoBeside.{steps-most, pairs-starts}
use Rattle.column_blocks.proofs.pairs.starts_block.Goals as goal

pub add_base-requires : goal.add_base-requires
add_base-requires c =
    let counted = c.count_back.ensures in
    let i = c.args.i in record { steps_len = omega (arith, counted.same); by_index = λ k. omega (arith, steps-most ((i - 2) % 64 + 65) refl counted (λ j h. omega arith) k) }

pub returns : goal.returns
returns c =
    pairs-starts c.args.text.now c.requires.text_value.0 c.requires.text_value.2 c.args.i ((c.args.i - 2) % 64) c.args.at _ _ _ _ (omega arith) (omega arith) (omega arith) c.count_back.ensures c.add_base.ensures
