-- Each turn answers one block more: by two reads each, or one after the other.
use Prim.Native.Nat.{◌*◌, min}
use lib.ListN.{length}
use Rattle.convert.specs.Converting.{converted}
use Rattle.convert_list.specs.ConvertList.{answer_at}
use Rattle.convert_list.proofs.Answering.{Answering}
use Rattle.convert_list.proofs.convert_each.Given as goal

abbrev pub invariant-loop-k : goal.invariant-loop-k
invariant-loop-k l = Answering (answer_at (converted l.starts l.ends) l.side l.from l.to) (length l.from) l.initial.numbers l.initial.out_starts l.initial.out_ends l.numbers l.out_starts l.out_ends (min (length l.from) (64 * l.k))
