-- Where each alignment is one whole character none is cut; else each is looked up.
use mathlib.Core.Path.{◌∙◌, ap, sym}
use Rattle.boundaries.specs.Monotone.{uncut_below}
use Rattle.boundaries.proofs.block_uncut.Goals as goal

pub returns-then-whole_chars : goal.returns-then-whole_chars
returns-then-whole_chars c = sym (c.whole_chars.ensures c.if-whole_chars.true)

pub returns : goal.returns
returns c = c.all_uncut.ensures ∙ ap (uncut_below _ _ _) c.requires.starts_len.0
