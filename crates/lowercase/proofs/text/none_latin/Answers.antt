use native.Mathlib.Omega.{arith}
use Rattle.lowercase.proofs.Bytes.{latin-told}
use Rattle.lowercase.proofs.Running.{none-tested, one-tested, all_tested}
use Rattle.lowercase.proofs.text.none_latin.Goals as goal

pub loop-byte-init : goal.loop-byte-init
loop-byte-init c = none-tested

pub loop-byte-preserved : goal.loop-byte-preserved
loop-byte-preserved c = one-tested c.loop-byte.invariant (omega arith) (latin-told _)

pub returns : goal.returns
returns c = all_tested c.loop-byte.invariant c.loop-byte-test.false
