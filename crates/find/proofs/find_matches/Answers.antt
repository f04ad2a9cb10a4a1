-- Text and literal are judged together, then the room; past both the list is written.
use mathlib.Core.Path.{ap}
use mathlib.Core.Bool.{not}
use mathlib.Core.Path.{◌≡◌, ◌∙◌, sym}
use borrow.Author.Tests.{leb-true}
use Rattle.buffers.proofs.Cases.{passed-on}
use Rattle.note.specs.Refusals.{also, verdict}
use Rattle.note.specs.Notes.{limit}
use Rattle.note.specs.Faults.{text_faults, string_faults}
use Rattle.note.proofs.FirstMet.{earlier-of, accepted-first}
use Rattle.note.proofs.Faults.{text_short}
use Rattle.find.proofs.Found.{input-refused, room-refused, list_written}
use Rattle.find.proofs.find_matches.Goals as goal
use Rattle.find.proofs.find_matches.Goals.{After-earlier}

-- the verdict of both inputs
judged : (c : After-earlier) → c.earlier.result ≡ verdict (also (text_faults limit c.args.text.now) (string_faults c.args.literal.now))
judged c = earlier-of _ _ c.check_text.ensures c.check_string.ensures c.earlier.ensures

pub returns-in_err-earlier : goal.returns-in_err-earlier
returns-in_err-earlier c = rw (passed-on _ c.from_residual.ensures.1) (input-refused _ _ _ _ (judged (goal.at.returns-in_err-earlier c).After-earlier) c.in_err-earlier.was)

pub list_fits-requires : goal.list_fits-requires
list_fits-requires c =
    (text_short _ _ (accepted-first _ (string_faults c.args.literal.now) (sym (judged (goal.at.list_fits-requires c).After-earlier) ∙ c.in_ok-earlier.was)), c.first_match-first.ensures)

pub returns-then-not-list_fits : goal.returns-then-not-list_fits
returns-then-not-list_fits c =
    room-refused _ _ _ _ (judged (goal.at.returns-then-not-list_fits c).After-earlier) c.in_ok-earlier.was c.list_fits.ensures (ap not c.if-not-list_fits.true)

pub write_list-requires : goal.write_list-requires
write_list-requires c = (
  text_short _ _ (accepted-first _ (string_faults c.args.literal.now) (sym (judged (goal.at.write_list-requires c).After-earlier) ∙ c.in_ok-earlier.was)),
  c.first_match-first.ensures,
  leb-true _ _ (sym c.list_fits.ensures ∙ c.if-not-list_fits.false),
)

pub returns : goal.returns
returns c =
    list_written _ _ _ _ (judged (goal.at.returns c).After-earlier) c.in_ok-earlier.was
    c.list_fits.ensures (ap not c.if-not-list_fits.false) c.write_list.ensures
