-- Each turn turns one more pair of offsets into characters.
use Rattle.note.specs.Notes.{limit}
use Rattle.char_columns.proofs.Pairs.{Counting}
use Rattle.char_columns.proofs.count_chars.Given as goal

abbrev pub invariant-loop-k : goal.invariant-loop-k
invariant-loop-k l = Counting limit l.text l.count l.initial.out_starts l.initial.out_ends l.first l.last l.k l.out_starts l.out_ends
