-- The array is the part of the bytes.
use Prim.Native.Nat.{◌+◌}
use mathlib.Core.Path.{◌≡◌, ◌∙◌, ap}
use lib.ListN.{length}
use native.Mathlib.Omega.{arith}
use borrow.Author.Rules.{rules}
use Rattle.buffers.specs.Splice.{part}
use Rattle.buffers.proofs.Splice.{length_part}
use Rattle.numbers.specs.LittleEndian.{value_of}
use Rattle.numbers.proofs.LittleEndian.{value-four}
use Rattle.numbers.proofs.little_endian.get_u32_le.Goals as goal

pub returns : goal.returns
returns c =
    let whole : c.unwrap.result.now ≡ part c.args.bytes.now c.args.at (c.args.at + 4) = search rules in
    let long = length_part c.args.bytes.now c.args.at (c.args.at + 4) c.requires in
    c.from_le_bytes.ensures ∙ value-four _ (ap length whole ∙ long ∙ omega arith) ∙ ap value_of whole
