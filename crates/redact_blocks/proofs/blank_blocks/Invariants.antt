-- Each turn lays what is before a candidate; where the literal is there the content, and else a byte.
use Prim.Native.Nat.{◌+◌, ◌-◌, ◌≤◌}
use lib.ListN.{length}
use Rattle.redact_blocks.specs.Blanks.{Blanked}
use Rattle.redact_blocks.proofs.blank_blocks.Given as goal

abbrev pub invariant-loop-i : goal.invariant-loop-i
invariant-loop-i l = (length l.text ≤ l.i + l.gap) × Blanked l.text l.literal l.content l.from l.base l.initial.out l.initial.out_starts l.initial.out_ends l.i (l.i + l.gap - length l.text) l.out l.out_starts l.out_ends

abbrev pub decreases-loop-i : goal.decreases-loop-i
decreases-loop-i l = length l.text - l.i
