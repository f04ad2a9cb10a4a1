-- Each turn adds one more difference.
use Prim.Native.Nat.{◌+◌}
use Rattle.note.specs.Notes.{limit}
use Rattle.stored_answers.proofs.Differences.{Summing}
use Rattle.stored_answers.proofs.columns.offsets.Given as goal

abbrev pub invariant-loop-i : goal.invariant-loop-i
invariant-loop-i l = Summing (limit + 1) l.field l.initial.dst l.n l.dst l.last l.i
