-- Known already, or counted.
use Rattle.char_columns.proofs.Numbered.{start-same}
use Rattle.char_columns.proofs.start_index.Goals as goal

pub returns-then-from-last : goal.returns-then-from-last
returns-then-from-last c = start-same c.requires.both_known c.if-from-last.true
