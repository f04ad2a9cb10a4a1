-- What E0 and ED do not have for their second byte is told apart.
use Rattle.std.proofs.Common.{◌&&◌, leb, arith}
use Rattle.buffers.proofs.Booleans.{select-most}
use Rattle.utf8.specs.Table.{within}
use Rattle.validity_blocks.proofs.Invalid.{flag-three}
use Rattle.validity_blocks.proofs.bytes.invalid_three.Goals as goal

pub overflow_add-result : goal.overflow_add-result
overflow_add-result c =
    omega (arith, c.requires.1.low, select-most (leb 0x80 c.args.b0 && leb c.args.b0 0x9F) 0x0D c.select.ensures)

pub returns : goal.returns
unfolding within
returns c =
    let pre = c.requires in
    flag-three _ _ pre.0 pre.1 pre.2 (omega arith) c.standing-flag.ensures c.select.ensures
