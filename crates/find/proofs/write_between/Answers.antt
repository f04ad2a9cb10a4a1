-- A place, or nothing where it would be empty.
use native.Mathlib.Omega.{arith}
use Rattle.find.proofs.FoundPlaces.{place-writable}
use Rattle.find.proofs.Found.{between-laid, between-size, nothing-laid}
use Rattle.find.proofs.write_between.Goals as goal

pub write_place-requires : goal.write_place-requires
write_place-requires c =
    let is = c.place_from.ensures in
    (place-writable is (omega arith) (omega arith), omega (arith, c.requires.1, between-size c.if-start-end.true is))

pub returns-then-start-end : goal.returns-then-start-end
returns-then-start-end c = between-laid c.if-start-end.true c.place_from.ensures c.write_place.ensures

pub returns : goal.returns
returns c = nothing-laid c.if-start-end.false
