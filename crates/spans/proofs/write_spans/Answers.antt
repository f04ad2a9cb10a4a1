-- The pieces in one column, which is taken apart.
use mathlib.Core.Path.{sym}
use lib.Seq.{length-take-le}
use Rattle.spans.proofs.Packing.{packed-long, unpackable, spans-laid}
use Rattle.spans.proofs.write_spans.Goals as goal

pub write_packed-count-requires : goal.write_packed-count-requires
write_packed-count-requires c = c.requires.packed_room

pub slice_bounds-unpack-end : goal.slice_bounds-unpack-end
slice_bounds-unpack-end c = packed-long c.write_packed-count.ensures

pub slice_bounds-unpack-end-2 : goal.slice_bounds-unpack-end-2
slice_bounds-unpack-end-2 c = sym (length-take-le _ _ (packed-long c.write_packed-count.ensures))

pub unpack-requires : goal.unpack-requires
unpack-requires c = unpackable c.write_packed-count.ensures c.requires.starts_room c.requires.ends_room

pub returns : goal.returns
returns c = spans-laid c.write_packed-count.ensures c.unpack.ensures
