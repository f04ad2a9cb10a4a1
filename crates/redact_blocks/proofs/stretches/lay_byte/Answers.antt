-- One element is stored in each buffer.
use mathlib.Core.Path.{refl}
use native.Mathlib.Omega.{arith}
use Rattle.redact_blocks.proofs.Keeping.{byte-laid, byte_small}
use Rattle.redact_blocks.proofs.stretches.lay_byte.Goals as goal

pub overflow_cast-out_starts : goal.overflow_cast-out_starts
overflow_cast-out_starts c =
    let small = byte_small c.requires c.char_start-start.ensures c.char_end-end.ensures in omega (arith, small)

pub overflow_cast-out_ends : goal.overflow_cast-out_ends
overflow_cast-out_ends c =
    let small = byte_small c.requires c.char_start-start.ensures c.char_end-end.ensures in omega (arith, small)

pub returns : goal.returns
returns c = byte-laid c.requires refl c.char_start-start.ensures c.char_end-end.ensures
