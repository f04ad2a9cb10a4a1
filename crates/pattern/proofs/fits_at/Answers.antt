-- The tests are the definition's, in its order.
use native.Mathlib.Omega.{arith}
use Rattle.pattern.proofs.Places.{fits-elsewhere, fits-back, fits_on}
use Rattle.pattern.proofs.fits_at.Goals as goal

pub returns-then-start-at : goal.returns-then-start-at
returns-then-start-at c = fits-elsewhere _ _ _ c.if-start-at.true

pub returns-then-end-start : goal.returns-then-end-start
returns-then-end-start c = fits-back _ _ _ c.if-end-start.true

pub returns : goal.returns
returns c = fits_on _ _ _ (omega arith) (omega arith) c.is_char_boundary.ensures
