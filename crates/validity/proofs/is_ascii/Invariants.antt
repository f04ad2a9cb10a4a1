-- Block by block: the largest byte of what is left tells what the text's does.
use Prim.Native.Nat.{◌*◌}
use Rattle.validity.proofs.Ascii.{AsciiSoFar}
use Rattle.validity.proofs.is_ascii.Given as goal

abbrev pub invariant-loop-k : goal.invariant-loop-k
invariant-loop-k l = AsciiSoFar l.s (l.k * 1024)
