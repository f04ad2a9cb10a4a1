-- Below a size that is within the result each column is laid in blocks.
use Rattle.replace.proofs.Columns.{text_ready, starts_ready, ends_ready}
use Rattle.replace.proofs.laying.lay_out.Goals as goal

pub lay_column-requires : goal.lay_column-requires
lay_column-requires c = starts_ready c.requires.ready c.requires.until_bound

pub lay_column-requires-2 : goal.lay_column-requires-2
lay_column-requires-2 c = ends_ready c.requires.ready c.requires.until_bound

pub lay_filled-requires : goal.lay_filled-requires
lay_filled-requires c = text_ready c.requires.ready c.requires.until_bound
