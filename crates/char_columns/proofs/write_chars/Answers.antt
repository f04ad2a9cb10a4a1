-- In an ASCII text only ends are turned, and starts stay.
use mathlib.Core.Path.{◌∙◌, sym}
use Rattle.char_columns.proofs.Pairs.{plain-counted}
use Rattle.char_columns.proofs.write_chars.Goals as goal

pub write_plain-requires : goal.write_plain-requires
write_plain-requires c = record { pairs_ready = c.requires; text_value = sym c.is_ascii.ensures ∙ c.if-is_ascii.true }

pub returns-then-is_ascii : goal.returns-then-is_ascii
returns-then-is_ascii c = plain-counted c.requires (sym c.is_ascii.ensures ∙ c.if-is_ascii.true) c.write_plain.ensures
