-- One part after the other; after each there is room for those that are left.
use native.Mathlib.Omega.{arith}
use Rattle.piece_lines.proofs.Written.{start-room, end-room, bytes-room, ending-room, line-laid}
use Rattle.piece_lines.proofs.lines.write_line.Goals as goal

pub write_field-second-requires : goal.write_field-second-requires
write_field-second-requires c = start-room _ _ _ c.args.out.now _ c.requires

pub write_field-third-requires : goal.write_field-third-requires
write_field-third-requires c = end-room _ _ _ _ _ c.requires c.write_field-second.ensures

pub copy-requires : goal.copy-requires
copy-requires c = bytes-room _ _ _ _ _ c.requires c.write_field-second.ensures c.write_field-third.ensures

pub overflow_add-last : goal.overflow_add-last
overflow_add-last c =
    omega (arith, ending-room _ _ _ _ _ c.requires c.write_field-second.ensures c.write_field-third.ensures c.copy.ensures)

pub fill-requires : goal.fill-requires
fill-requires c =
    ending-room _ _ _ _ _ c.requires c.write_field-second.ensures c.write_field-third.ensures c.copy.ensures

pub overflow_add-result : goal.overflow_add-result
overflow_add-result c =
    omega (
      arith,
      ending-room _ _ _ _ _ c.requires
          c.write_field-second.ensures
          c.write_field-third.ensures c.copy.ensures,
    )

pub returns : goal.returns
returns c =
    line-laid _ _ _ _ _ c.requires c.write_field-second.ensures c.write_field-third.ensures c.copy.ensures c.fill.ensures
