-- The word and the number.
use Rattle.piece_lines.proofs.Answering.{refusal-room, refusal-laid}
use Rattle.piece_lines.proofs.write_refusal.Goals as goal

pub write_headline-requires : goal.write_headline-requires
write_headline-requires c = refusal-room c.args.k c.from.ensures c.requires

pub returns : goal.returns
returns c = refusal-laid _ c.from.ensures c.write_headline.ensures
