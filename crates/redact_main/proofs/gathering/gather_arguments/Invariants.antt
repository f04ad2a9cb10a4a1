-- Each turn gathers one word.
use Rattle.redact_main.proofs.Gathers.{Gathering}
use Rattle.redact_main.proofs.gathering.gather_arguments.Given as goal

abbrev pub invariant-loop-k : goal.invariant-loop-k
invariant-loop-k g l = Gathering l.initial.words l.initial.sizes l.words l.sizes l.at
