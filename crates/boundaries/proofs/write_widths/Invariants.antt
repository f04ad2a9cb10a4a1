-- Each turn writes one more width.
use lib.ListN.{get_or}
use Rattle.buffers.specs.Columns.{Filled}
use Rattle.utf8.specs.Lengths.{lead_len}
use Rattle.boundaries.proofs.write_widths.Given as goal

abbrev pub invariant-loop-j : goal.invariant-loop-j
invariant-loop-j l = Filled (λ k. lead_len (get_or l.bytes k 0)) l.initial.widths 0 l.j l.widths
