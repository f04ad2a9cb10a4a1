-- The first refusal over both notes, or the walk.
use Rattle.buffers.proofs.Cases.{passed-on}
use Rattle.note.specs.Notes.{limit}
use Rattle.published_alike.proofs.Alike.{refused, covering, compared}
use Rattle.published_alike.proofs.published_alike.Goals as goal

pub returns-in_err-earlier : goal.returns-in_err-earlier
returns-in_err-earlier c = rw (passed-on _ c.from_residual.ensures.1) (refused limit _ _ _ _
    (c.said-one.ensures _ _ c.check_replace.ensures)
    (c.said-two.ensures _ _ c.check_replace-2.ensures)
    c.earlier.ensures c.in_err-earlier.was)

pub all_alike-requires : goal.all_alike-requires
all_alike-requires c =
    covering limit _ _ _ _ (c.said-one.ensures _ _ c.check_replace.ensures)
    (c.said-two.ensures _ _ c.check_replace-2.ensures) c.earlier.ensures
    c.in_ok-earlier.was

pub returns : goal.returns
returns c =
    compared limit _ _ _ _
    (c.said-one.ensures _ _ c.check_replace.ensures)
    (c.said-two.ensures _ _ c.check_replace-2.ensures)
    c.earlier.ensures c.in_ok-earlier.was c.all_alike.ensures
