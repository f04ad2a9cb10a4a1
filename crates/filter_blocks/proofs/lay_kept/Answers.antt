-- Character by character up to the last four kept ones, then byte by byte.
use Rattle.filter_blocks.proofs.Chars.{chars_room, rest-room, rest-kept}
use Rattle.filter_blocks.proofs.lay_kept.Goals as goal

pub lay_chars-from-requires : goal.lay_chars-from-requires
lay_chars-from-requires c = chars_room c.requires c.before_four-stop.ensures

pub lay_rest-requires : goal.lay_rest-requires
lay_rest-requires c = rest-room c.requires c.before_four-stop.ensures c.lay_chars-from.ensures

pub returns : goal.returns
returns c = rest-kept c.requires c.before_four-stop.ensures c.lay_chars-from.ensures c.lay_rest.ensures
