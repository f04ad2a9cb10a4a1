-- Each turn passes one character of the text and one of the range, unless a kept one finds none.
use Rattle.filters.proofs.Kept.{Filtering}
use Rattle.filters.proofs.measure_flags.Given as goal

abbrev pub invariant-loop-flag : goal.invariant-loop-flag
invariant-loop-flag l = Filtering l.text l.to.0 l.initial.p.0 l.flags l.q l.p.0 l.written l.flag-index
