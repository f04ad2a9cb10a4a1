-- The text's refusal stands; past the two checks the columns are written.
use mathlib.Core.Path.{◌≡◌, ◌∙◌, sym}
use native.Mathlib.Omega.{arith}
use Rattle.note.specs.Refusals.{verdict, Accepted}
use Rattle.note.specs.Notes.{limit}
use Rattle.note.specs.Faults.{text_faults}
use Rattle.buffers.proofs.Cases.{passed-on}
use Rattle.note.proofs.Faults.{text_short, text_formed}
use Rattle.from_text.proofs.Started.{text-refused, too-little-room, started}
use Rattle.from_text.proofs.from_text.Goals as goal
use Rattle.from_text.proofs.from_text.Goals.{Else-least_of_two-text}

-- past both checks
accepted : (c : Else-least_of_two-text) → verdict (text_faults limit c.args.text.now) ≡ Accepted
accepted c = sym c.check_text.ensures ∙ c.in_ok-check_text.was

pub returns-in_err-check_text : goal.returns-in_err-check_text
returns-in_err-check_text c = rw (passed-on _ c.from_residual.ensures.1) (text-refused _ _ _ _ c.check_text.ensures c.in_err-check_text.was)

pub returns-then-least_of_two-text : goal.returns-then-least_of_two-text
returns-then-least_of_two-text c = too-little-room _ _ _ _ c.check_text.ensures c.in_ok-check_text.was (omega arith)

pub write_starts-requires : goal.write_starts-requires
write_starts-requires c =
    record { text_value = (text_formed _ _ (accepted (goal.at.write_starts-requires c).Else-least_of_two-text), text_short _ _ (accepted (goal.at.write_starts-requires c).Else-least_of_two-text)); text_in_bounds = omega arith }

pub write_ends-requires : goal.write_ends-requires
write_ends-requires c =
    record { text_value = (text_formed _ _ (accepted (goal.at.write_ends-requires c).Else-least_of_two-text), text_short _ _ (accepted (goal.at.write_ends-requires c).Else-least_of_two-text)); text_in_bounds = omega arith }

pub returns : goal.returns
returns c =
    started _ _ _ _ c.check_text.ensures c.in_ok-check_text.was (omega arith) c.write_starts.ensures c.write_ends.ensures
