-- Texts, starts, ends.
use mathlib.Core.Path.{ap}
use mathlib.Core.Bool.{not}
use Rattle.published_alike.proofs.Walk.{unlike-texts, unlike-starts, like-so-far}
use Rattle.published_alike.proofs.all_alike.Goals as goal

pub returns-then-not-texts_alike : goal.returns-then-not-texts_alike
returns-then-not-texts_alike c = unlike-texts _ _ _ _ _ _ _ _ c.texts_alike.ensures (ap not c.if-not-texts_alike.true)

pub returns-then-not-columns_alike : goal.returns-then-not-columns_alike
returns-then-not-columns_alike c = unlike-starts _ _ _ _ _ _ _ _ c.columns_alike.ensures (ap not c.if-not-columns_alike.true)

pub returns : goal.returns
returns c =
    like-so-far _ _ _ _ _ _ _ _ c.texts_alike.ensures (ap not c.if-not-texts_alike.false) c.columns_alike.ensures (ap not c.if-not-columns_alike.false) c.columns_alike-2.ensures
