use mathlib.Core.Path.{◌≡◌, ◌∙◌, sym}
use native.Mathlib.Omega.{arith}
use lib.ListN.{length}
use Rattle.utf8.proofs.CharRanges.{end_step, end_found, end-last}
use Rattle.utf8.proofs.ranges.char_end.Goals as goal

pub returns-then-not-continues : goal.returns-then-not-continues
returns-then-not-continues c =
    end_found c.requires.0 c.loop-k.invariant c.loop-k-test.true (sym c.continues.ensures ∙ c.if-not-continues.true)

pub loop-k-preserved : goal.loop-k-preserved
loop-k-preserved c = end_step c.loop-k.invariant c.loop-k-test.true (sym c.continues.ensures ∙ c.if-not-continues.false)

pub returns : goal.returns
returns c =
    let end : c.loop-k.k ≡ length c.args.text.now = omega (arith, c.loop-k.invariant.most) in
    end-last c.requires.0 (rw end at c.loop-k.invariant) (omega arith)
