-- What the case holds is passed, by the call.
use Rattle.replayed_pieces.proofs.Replaying.{chars-told, ranges-told}
use Rattle.replayed_pieces.proofs.pairs.answered.Goals as goal

pub returns-in-CharOffsetsAll : goal.returns-in-CharOffsetsAll
returns-in-CharOffsetsAll c = chars-told c.in-CharOffsetsAll.is c.field.ensures c.zulmyren_char_offsets_all.ensures

pub returns-in-ConvertAll : goal.returns-in-ConvertAll
returns-in-ConvertAll c =
    ranges-told c.in-ConvertAll.is c.field-in-ConvertAll.ensures c.field-in-ConvertAll-2.ensures c.value.ensures c.value-in-ConvertAll.ensures c.zulmyren_convert_all.ensures
