-- The line in front, and after it the others.
use Rattle.piece_lines.proofs.Written.{front-room, lines-room, spans-laid}
use Rattle.piece_lines.proofs.write_pieces.Goals as goal

pub write_headline-at-requires : goal.write_headline-at-requires
write_headline-at-requires c =
    front-room c.args.text.now c.args.starts.now c.args.ends.now c.args.out.now c.requires.1

pub write_lines-requires : goal.write_lines-requires
write_lines-requires c = (c.requires.0, lines-room _ _ _ _ c.requires.1 c.write_headline-at.ensures)

pub returns : goal.returns
returns c = spans-laid _ _ _ _ c.requires.1 c.write_headline-at.ensures c.write_lines.ensures
