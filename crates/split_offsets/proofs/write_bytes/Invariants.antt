-- Each turn turns one more piece's span into its bytes.
use Rattle.note.specs.Notes.{limit}
use Rattle.split_offsets.proofs.Converting.{Converting}
use Rattle.split_offsets.proofs.write_bytes.Given as goal

abbrev pub invariant-loop-k : goal.invariant-loop-k
invariant-loop-k l = Converting limit l.starts l.ends l.original_shift l.side l.count l.initial.out_starts l.initial.out_ends l.sum.0 l.k l.out_starts l.out_ends
