use Prim.Native.Nat.{◌+◌, ◌*◌}
use native.Mathlib.Omega.{arith}
use Rattle.word_pairs.proofs.Words.{both_read, next-cut}
use Rattle.word_pairs.proofs.Counts.{none-counted, column-room, one-counted, all-counted}
use Rattle.word_pairs.proofs.count_words.Goals as goal

pub loop-k-init : goal.loop-k-init
loop-k-init c = none-counted _ c.requires

pub bounds-sizes-k : goal.bounds-sizes-k
bounds-sizes-k c = (both_read c.loop-k.invariant.read (omega arith)).0

pub overflow_cast-middle : goal.overflow_cast-middle
overflow_cast-middle c = omega (arith, c.type_inv.sizes (2 * c.loop-k.k))

pub overflow_add-middle : goal.overflow_add-middle
overflow_add-middle c =
    omega (arith, (next-cut c.loop-k.invariant.read (omega arith)).second, (next-cut c.loop-k.invariant.read (omega arith)).inside)

pub bounds-sizes-k-in-loop-k : goal.bounds-sizes-k-in-loop-k
bounds-sizes-k-in-loop-k c = (both_read c.loop-k.invariant.read (omega arith)).1

pub overflow_cast-end : goal.overflow_cast-end
overflow_cast-end c = omega (arith, c.type_inv.sizes (2 * c.loop-k.k + 1))

pub overflow_add-end-in-loop-k : goal.overflow_add-end-in-loop-k
overflow_add-end-in-loop-k c = omega (arith, (next-cut c.loop-k.invariant.read (omega arith)).inside)

pub count_pair-requires : goal.count_pair-requires
count_pair-requires c = (
  c.requires.short,
  next-cut c.loop-k.invariant.read (omega arith),
)

pub bounds-column-k : goal.bounds-column-k
bounds-column-k c = column-room c.loop-k.invariant (omega arith)

pub loop-k-preserved : goal.loop-k-preserved
loop-k-preserved c = one-counted c.loop-k.invariant (omega arith) c.count_pair.ensures

pub shape_of-column : goal.shape_of-column
shape_of-column c = c.loop-k.invariant.laid.same

pub returns : goal.returns
returns c = all-counted c.loop-k.invariant (omega arith)
