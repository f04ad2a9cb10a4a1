use mathlib.Core.Bool.{◌&&◌}
use lib.Dec.{leb}
use lib.ListN.{get_or}
use native.Mathlib.Omega.{arith}
use mathlib.Core.Path.{refl}
use Rattle.utf8.proofs.LenUtf8.{bool-most}
use Rattle.lowercase.proofs.Bytes.{latin-told}
use Rattle.lowercase.proofs.Fixing.{none-placed, one_placed, all_placed}
use Rattle.lowercase.proofs.text.latin_places.Goals as goal

pub loop-i-init : goal.loop-i-init
loop-i-init c = none-placed

pub overflow_cast-places : goal.overflow_cast-places
overflow_cast-places c = omega (arith, c.requires.0)

pub bounds-places-n : goal.bounds-places-n
bounds-places-n c = omega (arith, c.loop-i.invariant.few, c.loop-i.invariant.same, c.requires.1)

pub overflow_add-n : goal.overflow_add-n
overflow_add-n c =
    let b = get_or c.args.block.now c.loop-i.i 0 in
    omega (arith, c.loop-i.invariant.few, bool-most (leb 0xC2 b && leb b 0xC5))

pub loop-i-preserved : goal.loop-i-preserved
loop-i-preserved c = one_placed c.loop-i.invariant c.requires.1 (omega arith) (latin-told _) refl

pub shape_of-places : goal.shape_of-places
shape_of-places c = c.loop-i.invariant.same

pub returns : goal.returns
returns c = all_placed c.loop-i.invariant c.loop-i-test.false c.requires.1
