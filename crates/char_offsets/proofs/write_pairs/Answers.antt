use Rattle.std.proofs.Common.{arith}
use Rattle.buffers.proofs.Columns.{none-filling}
use Rattle.char_offsets.proofs.CharOffsetsList.{writing_more, writing-all}
use Rattle.char_offsets.proofs.write_pairs.Goals as goal

pub loop-i-init : goal.loop-i-init
loop-i-init c = none-filling

pub convert_pair-pair-requires : goal.convert_pair-pair-requires
convert_pair-pair-requires c = c.requires.counts_lent

pub loop-i-preserved : goal.loop-i-preserved
loop-i-preserved c = writing_more c.requires.pair_room c.loop-i.invariant (omega arith) c.convert_pair-pair.ensures

pub shape_of-numbers : goal.shape_of-numbers
shape_of-numbers c = c.loop-i.invariant.first.same

pub shape_of-char_starts : goal.shape_of-char_starts
shape_of-char_starts c = c.loop-i.invariant.second.same

pub shape_of-char_ends : goal.shape_of-char_ends
shape_of-char_ends c = c.loop-i.invariant.third.same

pub returns : goal.returns
returns c = writing-all c.requires.pair_room c.loop-i.invariant (omega arith)
