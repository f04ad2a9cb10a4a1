-- One byte each, at most three, or any.
use native.Mathlib.Omega.{arith}
use Rattle.code_points.proofs.Blocks.{singly-room, each_below, ascii-laid}
use Rattle.code_points.proofs.lay_block.Goals as goal

pub lay_ascii-requires : goal.lay_ascii-requires
lay_ascii-requires c =
    (each_below c.requires 0x80 c.or_all-most.ensures c.if-most-lt128.true, omega (arith, c.requires.many, c.requires.free, c.requires.bounded))

pub returns-then-most-lt128 : goal.returns-then-most-lt128
returns-then-most-lt128 c =
    ascii-laid c.requires
    (each_below c.requires 0x80 c.or_all-most.ensures c.if-most-lt128.true)
    c.lay_ascii.ensures

pub lay_text_block-requires : goal.lay_text_block-requires
lay_text_block-requires c = (c.requires, each_below c.requires 0x10000 c.or_all-most.ensures c.if-most-lt65536.true)

pub lay_singly-requires : goal.lay_singly-requires
lay_singly-requires c = singly-room c.requires
