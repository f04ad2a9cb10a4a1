-- Each turn lays down what one flag keeps.
use Rattle.filters.proofs.Flagged.{Flagged}
use Rattle.filters.proofs.lay_flags.Given as goal

abbrev pub invariant-loop-flag : goal.invariant-loop-flag
invariant-loop-flag l = Flagged l.text l.starts l.ends l.to.0 l.initial.p.0 l.flags l.initial.out l.initial.out_starts l.initial.out_ends l.at l.q l.p.0 l.written l.flag-index l.out l.out_starts l.out_ends
