-- Each turn lays one more character.
use Rattle.code_point_blocks.proofs.Texts.{Texts}
use Rattle.code_points.proofs.lay_singly.Given as goal

abbrev pub invariant-loop-code : goal.invariant-loop-code
invariant-loop-code l = Texts l.codes l.initial.out l.from l.until l.out l.at l.code-index
