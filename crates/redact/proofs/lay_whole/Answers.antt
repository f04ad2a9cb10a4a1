-- The bytes are copied, and both columns written whole.
use Rattle.redact.proofs.Blanks.{whole-laid}
use Rattle.redact.proofs.lay_whole.Goals as goal

pub returns : goal.returns
returns c = whole-laid c.requires c.copy.ensures c.write_starts.ensures c.write_ends.ensures
