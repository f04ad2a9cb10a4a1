-- Each place has its own five bytes.
use native.Mathlib.Omega.{arith}
use Rattle.pattern.proofs.Entries.{place_inside, place-there}
use Rattle.pattern.proofs.place_at.Goals as goal

pub overflow_mul-i : goal.overflow_mul-i
overflow_mul-i c = omega (arith, place_inside _ c.requires.0 _ c.requires.1)

pub overflow_add-i : goal.overflow_add-i
overflow_add-i c = omega (arith, place_inside _ c.requires.0 _ c.requires.1)

pub position_at-start-requires : goal.position_at-start-requires
position_at-start-requires c = omega (arith, place_inside _ c.requires.0 _ c.requires.1)

pub overflow_add-i-2 : goal.overflow_add-i-2
overflow_add-i-2 c = omega (arith, place_inside _ c.requires.0 _ c.requires.1)

pub position_at-end-requires : goal.position_at-end-requires
position_at-end-requires c = omega (arith, place_inside _ c.requires.0 _ c.requires.1)

pub bounds-list-i : goal.bounds-list-i
bounds-list-i c = omega (arith, place_inside _ c.requires.0 _ c.requires.1)

pub returns : goal.returns
returns c = place-there _ c.requires.0 _ c.requires.1 c.position_at-start.ensures c.position_at-end.ensures
