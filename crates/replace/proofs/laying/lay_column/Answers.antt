use native.Mathlib.Omega.{arith}
use Rattle.replace.proofs.Columns.{none_going, place-room, going_on, going_less, broken-gone, all-gone, carried-wide}
use Rattle.replace.proofs.laying.lay_column.Goals as goal

pub loop-k-init : goal.loop-k-init
loop-k-init c = none_going _ (carried-wide _ _) c.requires

pub lay_offsets-at-requires : goal.lay_offsets-at-requires
lay_offsets-at-requires c = place-room c.loop-k.invariant c.entry_at.ensures c.in-Some.is

pub loop-k-smaller : goal.loop-k-smaller
loop-k-smaller c = omega (arith, going_less c.loop-k.invariant c.entry_at.ensures c.in-Some.is)

pub loop-k-preserved : goal.loop-k-preserved
loop-k-preserved c = going_on c.loop-k.invariant c.entry_at.ensures c.in-Some.is c.lay_offsets-at.ensures

pub shape_of-out-in_default : goal.shape_of-out-in_default
shape_of-out-in_default c = c.loop-k.invariant.reaching.same

pub returns-in_default : goal.returns-in_default
returns-in_default c = broken-gone c.loop-k.invariant (omega arith) c.entry_at.ensures c.in_default.is

pub shape_of-out : goal.shape_of-out
shape_of-out c = c.loop-k.invariant.reaching.same

pub returns : goal.returns
returns c = all-gone c.loop-k.invariant (omega arith)
