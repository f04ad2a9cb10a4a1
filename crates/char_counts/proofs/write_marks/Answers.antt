use Rattle.std.proofs.Common.{◌+◌, ◌-◌, ◌*◌, arith}
use Rattle.char_counts.proofs.Counts.{begun-most, first-mark, next-mark}
use Rattle.char_counts.proofs.write_marks.Goals as goal

pub loop-k-init : goal.loop-k-init
loop-k-init c = first-mark c.args.marks.now c.requires.some c.requires.room

pub loop-k-preserved : goal.loop-k-preserved
loop-k-preserved c = next-mark c.loop-k.invariant c.loop-k.auto.k (omega arith) c.count_leads.ensures

pub overflow_add-count : goal.overflow_add-count
overflow_add-count c =
    omega (arith, (loop-k-preserved c).count_is, begun-most c.args.text.now ((c.loop-k.k + 1 - 1) * 128), c.requires.short)

pub overflow_cast-count : goal.overflow_cast-count
overflow_cast-count c = omega (arith, overflow_add-count c)
