-- The word, and after it the number.
use Rattle.piece_lines.proofs.Written.{word_room, number-room, headline-laid}
use Rattle.piece_lines.proofs.lines.write_headline.Goals as goal

pub copy-requires : goal.copy-requires
copy-requires c = word_room c.args.word.now c.args.number c.args.out.now c.requires

pub write_field-requires : goal.write_field-requires
write_field-requires c = number-room _ _ _ c.requires c.copy.ensures

pub returns : goal.returns
returns c = headline-laid _ _ _ c.requires c.copy.ensures c.write_field.ensures
