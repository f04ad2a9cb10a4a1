-- By the bytes of each place.
use mathlib.Core.Path.{refl}
use Rattle.pattern.specs.Entries.{most_places}
use Rattle.pattern.proofs.most_places.Goals as goal

pub returns : goal.returns
unfolding most_places
returns c = refl
