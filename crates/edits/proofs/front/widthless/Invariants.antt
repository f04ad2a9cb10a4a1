-- What the blocks passed, and then one by one.
use Rattle.edits.specs.Laying.{HeadPassed}
use Rattle.edits.proofs.front.widthless.Given as goal

abbrev pub invariant-loop-i : goal.invariant-loop-i
invariant-loop-i l = HeadPassed l.starts l.ends l.i
