-- Without a match the size stays; a content that does not fit alone does not fit; any other product is small.
use mathlib.Core.Path.{refl}
use native.Mathlib.Omega.{arith}
use Rattle.redact_note.specs.Blanks.{blanked_size}
use Rattle.redact_note.proofs.MatchCount.{none-fits, wide-over, product_small}
use Rattle.redact_note.proofs.blanked_fits.Goals as goal

pub returns-then-count-eq0 : goal.returns-then-count-eq0
returns-then-count-eq0 c = none-fits _ c.requires.0 c.requires.1 c.if-count-eq0.true

pub returns-then-room-content_len : goal.returns-then-room-content_len
returns-then-room-content_len c = wide-over _ c.requires.0 c.requires.1 c.if-count-eq0.false c.if-room-content_len.true

pub overflow_mul-result-2 : goal.overflow_mul-result-2
overflow_mul-result-2 c = omega (arith, product_small _ c.requires.0 c.requires.1 c.if-room-content_len.false)

pub overflow_add-result : goal.overflow_add-result
overflow_add-result c = omega (arith, product_small _ c.requires.0 c.requires.1 c.if-room-content_len.false)

pub returns : goal.returns
unfolding blanked_size
returns c = refl
