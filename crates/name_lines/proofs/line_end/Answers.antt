use native.Mathlib.Omega.{arith}
use mathlib.Core.Path.{◌≡◌}
use lib.ListN.{length}
use Rattle.name_lines.proofs.Lines.{none_within, byte-within, line-ends, text-ends}
use Rattle.name_lines.proofs.line_end.Goals as goal

pub loop-i-init : goal.loop-i-init
loop-i-init c = none_within c.requires

pub returns-then-end_len-ne0 : goal.returns-then-end_len-ne0
returns-then-end_len-ne0 c = line-ends c.loop-i.invariant c.loop-i-test.true c.end_len.ensures c.if-end_len-ne0.true

pub loop-i-preserved : goal.loop-i-preserved
loop-i-preserved c = byte-within c.loop-i.invariant c.loop-i-test.true c.end_len.ensures c.if-end_len-ne0.false

pub returns : goal.returns
returns c =
    let end : c.loop-i.i ≡ length c.args.text.now = omega (arith, c.loop-i.invariant.most) in
    rw end at (text-ends c.loop-i.invariant (omega arith))
