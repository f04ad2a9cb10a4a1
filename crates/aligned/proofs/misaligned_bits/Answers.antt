-- The code's differences are the definition's.
use Rattle.aligned.specs.MisalignedBits.{misaligned_bits}
use Rattle.aligned.proofs.misaligned_bits.Goals as goal

pub returns : goal.returns
unfolding misaligned_bits
returns c = cc
