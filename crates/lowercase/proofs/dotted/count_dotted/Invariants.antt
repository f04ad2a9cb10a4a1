-- Each turn counts 128 pairs, and what is left are fewer.
use Prim.Native.Nat.{◌*◌}
use Rattle.lowercase.proofs.Grown.{Counted}
use Rattle.lowercase.proofs.dotted.count_dotted.Given as goal

abbrev pub invariant-loop-block : goal.invariant-loop-block
invariant-loop-block l = Counted l.text l.n (l.block * 128)
