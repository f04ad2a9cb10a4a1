use mathlib.Core.Path.{◌∙◌, ap}
use Rattle.buffers.specs.Splice.{splice}
use Rattle.numbers.proofs.LittleEndian.{bytes-two}
use Rattle.numbers.proofs.little_endian.put_u16_le.Goals as goal

pub returns : goal.returns
returns c =
    c.copy.ensures ∙ ap (splice c.args.out.now c.args.at) (c.to_le_bytes.ensures ∙ bytes-two c.args.value)
