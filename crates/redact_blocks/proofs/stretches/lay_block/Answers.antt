-- The bytes are copied, and both columns counted: up where every byte is a character, else from the bytes beside.
use native.Mathlib.Omega.{arith}
use Rattle.redact_blocks.proofs.Keeping.{block-laid, plain-laid}
use Rattle.redact_blocks.proofs.stretches.lay_block.Goals as goal

pub returns-then-max_byte-lt128 : goal.returns-then-max_byte-lt128
returns-then-max_byte-lt128 c =
    plain-laid c.args.text.now (omega (arith, c.requires.text_bound, c.if-max_byte-lt128.true)) c.requires.stretch_room.0
    c.copy_block.ensures c.count_up.ensures c.count_up-then-max_byte-lt128.ensures

pub starts_block-requires : goal.starts_block-requires
starts_block-requires c =
    record { text_value = (c.requires.stretch_room.0.formed, c.requires.stretch_room.0.short, omega (arith, c.requires.text_bound, c.if-max_byte-lt240.true)); le_i = (omega arith, (omega arith, omega arith)) }

pub ends_block-requires : goal.ends_block-requires
ends_block-requires c =
    record { text_value = (c.requires.stretch_room.0.formed, c.requires.stretch_room.0.short, omega (arith, c.requires.text_bound, c.if-max_byte-lt240.true)); le_i = (omega arith, (omega arith, omega arith)) }

pub returns-then-max_byte-lt240 : goal.returns-then-max_byte-lt240
returns-then-max_byte-lt240 c =
    block-laid c.requires.stretch_room.0
    c.copy_block.ensures
    c.starts_block.ensures c.ends_block.ensures

pub returns : goal.returns
returns c =
    block-laid c.requires.stretch_room.0
    c.copy_block.ensures
    c.starts_block-2.ensures c.ends_block-2.ensures
