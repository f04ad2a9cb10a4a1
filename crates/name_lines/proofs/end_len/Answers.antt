-- By the byte there, and the one after it.
use Rattle.name_lines.proofs.Lines.{end-past, end-feed, end-last, end-return, end_none}
use Rattle.name_lines.proofs.end_len.Goals as goal

pub returns-then-text-i : goal.returns-then-text-i
returns-then-text-i c = end-past _ _ c.if-text-i.true

pub returns-then-text-i-eq10 : goal.returns-then-text-i-eq10
returns-then-text-i-eq10 c = end-feed _ _ c.if-text-i-eq10.true

pub returns-then-text-i-lt2 : goal.returns-then-text-i-lt2
returns-then-text-i-lt2 c = end-last _ _ c.if-text-i-eq10.false c.if-text-i-lt2.true

pub returns-then-text-i-2 : goal.returns-then-text-i-2
returns-then-text-i-2 c = end-return _ _ c.if-text-i-eq10.false c.if-text-i-2.true

pub returns : goal.returns
returns c = end_none _ _ c.if-text-i-eq10.false c.if-text-i-2.false
