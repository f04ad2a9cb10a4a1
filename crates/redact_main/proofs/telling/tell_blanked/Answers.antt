use native.Mathlib.Omega.{arith}
use Rattle.word_pairs.proofs.Words.{even-at, next-cut, next-at}
use Rattle.redact_main.proofs.telling.tell_blanked.Goals as goal

pub loop-k-init : goal.loop-k-init
loop-k-init g c = even-at _ _ c.requires.even

pub slice_bounds-say_not_found-end : goal.slice_bounds-say_not_found-end
slice_bounds-say_not_found-end g c = let cut = next-cut c.loop-k.invariant c.loop-k-test.true in omega (arith, cut.second, cut.inside)

pub loop-k-preserved : goal.loop-k-preserved
loop-k-preserved g c = next-at c.loop-k.invariant c.loop-k-test.true
