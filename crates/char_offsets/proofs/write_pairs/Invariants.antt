-- Each turn answers one pair more.
use Rattle.char_offsets.proofs.CharOffsetsList.{PairsWriting}
use Rattle.char_offsets.proofs.write_pairs.Given as goal

abbrev pub invariant-loop-i : goal.invariant-loop-i
invariant-loop-i l = PairsWriting l.text l.starts l.ends l.initial.numbers l.initial.char_starts l.initial.char_ends l.numbers l.char_starts l.char_ends l.i
