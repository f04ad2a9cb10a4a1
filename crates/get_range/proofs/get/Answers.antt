-- A refusal stays; a range is read or is `Missing`.
use Rattle.buffers.proofs.Cases.{passed-on}
use Rattle.get_range.proofs.Got.{got-found, got-unread, got-refused}
use Rattle.get_range.proofs.get.Goals as goal

pub returns-then-is_char_range : goal.returns-then-is_char_range
returns-then-is_char_range c =
    got-found _ c.in_ok-range.was c.start_of.ensures c.end_of.ensures c.is_char_range.ensures c.if-is_char_range.true

pub returns-else-is_char_range : goal.returns-else-is_char_range
returns-else-is_char_range c =
    got-unread _ c.in_ok-range.was c.start_of.ensures c.end_of.ensures c.is_char_range.ensures c.if-is_char_range.false

pub returns-in_err-range : goal.returns-in_err-range
returns-in_err-range c = rw (passed-on _ c.from_residual.ensures.1) (got-refused _ c.in_err-range.was)
