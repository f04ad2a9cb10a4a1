use native.Mathlib.Omega.{arith}
use Rattle.replace.proofs.Columns.{none_going, place-room, going_on, going_less, broken-gone, all-gone, padded-wide}
use Rattle.replace.proofs.laying.lay_text.Goals as goal

pub loop-i-init : goal.loop-i-init
loop-i-init c = none_going _ (padded-wide _ _ c.requires.1) c.requires.0

pub lay_bytes-at-requires : goal.lay_bytes-at-requires
lay_bytes-at-requires c = (place-room c.loop-i.invariant c.entry_at.ensures c.in-Some.is, c.requires.1)

pub loop-i-smaller : goal.loop-i-smaller
loop-i-smaller c = omega (arith, going_less c.loop-i.invariant c.entry_at.ensures c.in-Some.is)

pub loop-i-preserved : goal.loop-i-preserved
loop-i-preserved c = going_on c.loop-i.invariant c.entry_at.ensures c.in-Some.is c.lay_bytes-at.ensures

pub shape_of-out-in_default : goal.shape_of-out-in_default
shape_of-out-in_default c = c.loop-i.invariant.reaching.same

pub returns-in_default : goal.returns-in_default
returns-in_default c = broken-gone c.loop-i.invariant (omega arith) c.entry_at.ensures c.in_default.is

pub shape_of-out : goal.shape_of-out
shape_of-out c = c.loop-i.invariant.reaching.same

pub returns : goal.returns
returns c = all-gone c.loop-i.invariant (omega arith)
