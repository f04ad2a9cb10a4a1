use native.Mathlib.Omega.{arith}
use Rattle.pattern.proofs.Entries.{places-exact}
use Rattle.spans.proofs.Placing.{none-listed, place-room, one-listed, all_listed}
use Rattle.spans.proofs.write_places.Goals as goal

pub loop-k-init : goal.loop-k-init
loop-k-init c = none-listed c.requires

pub place_at-place-requires : goal.place_at-place-requires
place_at-place-requires c = (c.requires.unbroken, omega (arith, places-exact _ c.most_places-count.ensures c.requires.unbroken))

pub write_run-at-requires : goal.write_run-at-requires
write_run-at-requires c =
    place-room c.requires c.loop-k.invariant c.place_at-place.ensures
    (omega (arith, places-exact _ c.most_places-count.ensures c.requires.unbroken)) c.is_dropped.ensures

pub loop-k-preserved : goal.loop-k-preserved
loop-k-preserved c =
    one-listed c.requires c.loop-k.invariant c.place_at-place.ensures
    (omega (arith, places-exact _ c.most_places-count.ensures c.requires.unbroken)) c.is_dropped.ensures c.write_run-at.ensures

pub shape_of-spans : goal.shape_of-spans
shape_of-spans c = c.loop-k.invariant.laid.same

pub returns : goal.returns
returns c =
    all_listed c.requires c.loop-k.invariant (omega arith) (omega (arith, places-exact _ c.most_places-count.ensures c.requires.unbroken))
