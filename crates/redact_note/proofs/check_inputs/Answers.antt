-- The earliest of three verdicts.
use Rattle.redact_note.proofs.Redacting.{inputs-judged}
use Rattle.redact_note.proofs.check_inputs.Goals as goal

pub returns : goal.returns
returns c =
    inputs-judged _ _ _ _ c.check_note-noted.ensures c.check_string.ensures c.check_string-2.ensures c.earlier-strings.ensures c.earlier.ensures
