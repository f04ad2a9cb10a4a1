-- A matched place is filled, another one kept.
use Rattle.replace.proofs.Columns.{place-source, content-source, place_kept, place-filled}
use Rattle.replace.proofs.laying.lay_bytes.Goals as goal

pub copy_front_over-requires : goal.copy_front_over-requires
copy_front_over-requires c = content-source c.requires.0 _ c.if-place.true c.requires.1

pub returns-then-place : goal.returns-then-place
returns-then-place c = place-filled _ _ _ _ c.if-place.true c.copy_front_over.ensures

pub copy_over-requires : goal.copy_over-requires
copy_over-requires c = place-source c.requires.0 c.if-place.false

pub returns : goal.returns
returns c = place_kept _ _ _ _ c.if-place.false c.copy_over.ensures
