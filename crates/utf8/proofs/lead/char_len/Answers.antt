-- The sum is what the lead byte announces; that lies inside, and ends at a boundary.
use mathlib.Core.Path.{◌∙◌}
use Rattle.utf8.proofs.Boundaries.{char-at, char-len}
use Rattle.utf8.proofs.LeadLen.{lead-len-sum, lead-len-right}
use Rattle.utf8.proofs.lead.char_len.Goals as goal

pub returns : goal.returns
returns c =
    let at = c.requires in
    let lead = (char-at _ _ at.formed at.begins at.more).positive in
    char-len at.formed at.begins at.more (lead-len-sum _ ∙ lead-len-right _ lead)
