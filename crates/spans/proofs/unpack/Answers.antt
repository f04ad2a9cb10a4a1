use native.Mathlib.Omega.{arith}
use Rattle.spans.proofs.Packing.{start_small, end-small, none-unpacked, unpack-room, one-unpacked, all-unpacked}
use Rattle.spans.proofs.unpack.Goals as goal

pub loop-k-init : goal.loop-k-init
loop-k-init c = none-unpacked c.requires

pub overflow_cast-starts : goal.overflow_cast-starts
overflow_cast-starts c = omega (arith, start_small _ c.span_start.ensures)

pub offset_bounds-starts-k : goal.offset_bounds-starts-k
offset_bounds-starts-k c =
    omega (arith, c.well_formed.1.0, c.loop-k.invariant.starts_laid.same, (unpack-room c.requires c.loop-k.invariant (omega arith)).0)

pub bounds-starts-k : goal.bounds-starts-k
bounds-starts-k c = (unpack-room c.requires c.loop-k.invariant (omega arith)).0

pub overflow_cast-ends : goal.overflow_cast-ends
overflow_cast-ends c = omega (arith, end-small _ c.span_end.ensures (omega (arith, c.type_inv.spans c.loop-k.k)))

pub offset_bounds-ends-k : goal.offset_bounds-ends-k
offset_bounds-ends-k c =
    omega (arith, c.well_formed.1.1.0, c.loop-k.invariant.ends_laid.same, (unpack-room c.requires c.loop-k.invariant (omega arith)).1)

pub bounds-ends-k : goal.bounds-ends-k
bounds-ends-k c = (unpack-room c.requires c.loop-k.invariant (omega arith)).1

pub loop-k-preserved : goal.loop-k-preserved
loop-k-preserved c =
    one-unpacked c.requires c.loop-k.invariant (omega arith) c.span_start.ensures c.span_end.ensures

pub shape_of-starts : goal.shape_of-starts
shape_of-starts c = c.loop-k.invariant.starts_laid.same

pub shape_of-ends : goal.shape_of-ends
shape_of-ends c = c.loop-k.invariant.ends_laid.same

pub returns : goal.returns
returns c = all-unpacked c.requires c.loop-k.invariant (omega arith)
