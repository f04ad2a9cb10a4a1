-- Each turn passes 64 positions at which the literal cannot stand.
use Rattle.std.proofs.Common.{◌+◌, ◌*◌}
use Rattle.find.specs.Searching.{Absent}
use Rattle.find.proofs.search.skip_blocks.Given as goal

abbrev pub invariant-loop-k : goal.invariant-loop-k
invariant-loop-k l = Absent l.text l.literal l.from (l.from + 64 * l.k)
