-- Block by block: every byte so far can stand where it does.
use Prim.Native.Nat.{◌+◌, ◌*◌}
use lib.ListN.{length}
use Rattle.validity.proofs.ValidAt.{ValidSoFar}
use Rattle.validity.proofs.well_formed.Given as goal

abbrev pub invariant-loop-k : goal.invariant-loop-k
invariant-loop-k l = ValidSoFar l.s 0 (length l.s + 3) (3 + l.k * 384)
