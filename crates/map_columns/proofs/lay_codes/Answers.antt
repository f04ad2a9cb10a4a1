-- The text; then the columns, copied or character by character.
use mathlib.Core.Path.{◌∙◌, sym}
use Rattle.map_columns.proofs.Alike.{columns-copied}
use Rattle.map_columns.proofs.lay_codes.Goals as goal

pub returns-then-same_leads : goal.returns-then-same_leads
returns-then-same_leads c =
    columns-copied c.requires c.lay_text-written.ensures c.if-size-text.true (sym c.same_leads.ensures ∙ c.if-same_leads.true) c.copy.ensures c.copy-then-same_leads.ensures
