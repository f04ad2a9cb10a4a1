use native.Mathlib.Omega.{arith}
use Rattle.word_pairs.proofs.Judging.{none-judged, word-judged, words-short, words_long, words-torn, words-formed}
use Rattle.word_pairs.proofs.judge_words.Goals as goal

pub loop-size-init : goal.loop-size-init
loop-size-init c = none-judged _ _

pub overflow_cast-size : goal.overflow_cast-size
overflow_cast-size c = omega (arith, c.type_inv.sizes c.loop-size.size-index)

pub overflow_sub-bytes : goal.overflow_sub-bytes
overflow_sub-bytes c = omega (arith, c.loop-size.invariant.most)

pub returns-then-bytes-at : goal.returns-then-bytes-at
returns-then-bytes-at c = words-short c.loop-size.invariant (omega arith) c.if-bytes-at.true

pub overflow_add-end : goal.overflow_add-end
overflow_add-end c = omega (arith, c.loop-size.invariant.most)

pub slice_bounds-well_formed-end : goal.slice_bounds-well_formed-end
slice_bounds-well_formed-end c = omega (arith, c.loop-size.invariant.most)

pub loop-size-preserved : goal.loop-size-preserved
loop-size-preserved c = word-judged c.loop-size.invariant (omega arith) (omega arith) c.well_formed-formed.ensures

pub returns-then-at-bytes : goal.returns-then-at-bytes
returns-then-at-bytes c = words_long c.loop-size.invariant (omega arith) c.if-at-bytes.true

pub returns-then-not-formed : goal.returns-then-not-formed
returns-then-not-formed c = words-torn c.loop-size.invariant (omega arith) c.if-at-bytes.false c.if-not-formed.true

pub returns : goal.returns
returns c = words-formed c.loop-size.invariant (omega arith) c.if-at-bytes.false c.if-not-formed.false
