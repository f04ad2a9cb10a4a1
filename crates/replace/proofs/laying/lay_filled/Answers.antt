-- The content alone, or in front of its padding.
use Rattle.replace.proofs.Columns.{content-alone, content-padded, filled-by}
use Rattle.replace.proofs.laying.lay_filled.Goals as goal

pub returns-then-content-gt16 : goal.returns-then-content-gt16
returns-then-content-gt16 c = filled-by _ _ _ (content-alone _) c.lay_text.ensures

pub returns : goal.returns
returns c = filled-by _ _ _ (content-padded _ _ c.copy.ensures) c.lay_text-2.ensures
