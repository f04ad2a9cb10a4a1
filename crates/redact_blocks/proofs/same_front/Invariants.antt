-- Each turn compares one more byte, which counts below `front_len`.
use Rattle.redact_blocks.proofs.Front.{Fronted}
use Rattle.redact_blocks.proofs.same_front.Given as goal

abbrev pub invariant-loop-j : goal.invariant-loop-j
invariant-loop-j l = Fronted l.front_len l.a l.b l.ok l.j
