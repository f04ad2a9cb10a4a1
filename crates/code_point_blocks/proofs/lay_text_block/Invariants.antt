-- Each turn lays one more word.
use Rattle.code_point_blocks.proofs.Texts.{Words}
use Rattle.code_point_blocks.proofs.lay_text_block.Given as goal

abbrev pub invariant-loop-word : goal.invariant-loop-word
invariant-loop-word l = Words l.codes l.initial.out l.from l.until l.out l.at l.word-index
