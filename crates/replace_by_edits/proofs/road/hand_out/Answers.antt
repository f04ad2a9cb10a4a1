-- What is in front of the set that holds the note.
use Rattle.replace_by_edits.proofs.Holding.{first_out, second-out}
use Rattle.replace_by_edits.proofs.road.hand_out.Goals as goal

pub returns-then-held : goal.returns-then-held
returns-then-held c = second-out c.requires c.if-held.true c.keep.ensures

pub returns : goal.returns
returns c = first_out c.requires c.if-held.false c.keep-2.ensures
