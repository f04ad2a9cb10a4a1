-- The local array holds the 16 numbers, and they are copied from there.
use mathlib.Core.Path.{refl}
use Rattle.split.proofs.Joined.{block-lowerable, block-through}
use Rattle.split.proofs.lower_block.Goals as goal

pub write_lowered-requires : goal.write_lowered-requires
write_lowered-requires c = block-lowerable c.requires _ refl

pub returns : goal.returns
returns c = block-through c.requires _ refl c.write_lowered.ensures c.copy.ensures
