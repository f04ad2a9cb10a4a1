-- The room for the list, then the one for the result.
use mathlib.Core.Path.{ap}
use mathlib.Core.Bool.{not}
use native.Mathlib.Omega.{arith}
use Rattle.redact_note.proofs.MatchCount.{found-matched}
use Rattle.redact_note.proofs.Redacting.{no-list, as-result}
use Rattle.redact_note.proofs.rooms_fit.Goals as goal

pub returns-then-not-list_fits : goal.returns-then-not-list_fits
returns-then-not-list_fits c = no-list _ _ _ _ _ c.list_fits.ensures (ap not c.if-not-list_fits.true)

pub blanked_fits-requires : goal.blanked_fits-requires
blanked_fits-requires c = (found-matched _ _ c.requires.0.short c.requires.1, omega (arith, c.least_of_two.ensures))

pub returns : goal.returns
returns c =
    as-result _ _ _ _ _ c.list_fits.ensures (ap not c.if-not-list_fits.false) c.requires.1 c.least_of_two.ensures c.blanked_fits.ensures
