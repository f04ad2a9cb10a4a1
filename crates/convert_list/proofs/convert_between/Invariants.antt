-- Each turn writes one more answer: by two reads, or as `convert_checked` answers.
use Prim.Native.Nat.{◌≤◌}
use Rattle.convert.specs.Converting.{converted}
use Rattle.convert_list.specs.ConvertList.{answer_at}
use Rattle.convert_list.specs.TwoReads.{AnsweredBetween}
use Rattle.convert_list.proofs.convert_between.Given as goal

abbrev pub invariant-loop-i : goal.invariant-loop-i
invariant-loop-i l = (l.i ≤ l.past) × AnsweredBetween (answer_at (converted l.starts l.ends) l.side l.from l.to) l.at l.i l.initial.numbers l.initial.out_starts l.initial.out_ends l.numbers l.out_starts l.out_ends
