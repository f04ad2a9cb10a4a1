-- The bytes first; kept, or turned into characters.
use Rattle.split_offsets.proofs.Pairs.{pairs-ready, bytes-kept, chars-put}
use Rattle.split_offsets.proofs.convert_spans.Goals as goal

pub write_bytes-requires : goal.write_bytes-requires
write_bytes-requires c = c.requires.spans_ready

pub write_chars-requires : goal.write_chars-requires
write_chars-requires c = pairs-ready c.requires.spans_ready c.write_bytes.ensures c.requires.original_len_bound

pub returns-in-Byte : goal.returns-in-Byte
returns-in-Byte c = bytes-kept c.requires.spans_ready c.write_bytes.ensures _ c.in-Byte.is

pub returns-in-Char : goal.returns-in-Char
returns-in-Char c = chars-put c.requires.spans_ready c.write_bytes.ensures c.in-Char.is c.write_chars.ensures
