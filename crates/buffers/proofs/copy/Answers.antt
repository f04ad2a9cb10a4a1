use mathlib.Core.Path.{◌≡◌, ◌∙◌, ap}
use native.Mathlib.Numerals.{add-one}
use native.Mathlib.Omega.{arith}
use lib.ListN.{length, set, length-set}
use lib.Seq.{paste, paste-suc, take-length}
use Rattle.std.proofs.Common.{◌+◌}
use Rattle.buffers.specs.Splice.{splice}
use Rattle.buffers.proofs.copy.Goals as goal

pub loop-k-preserved : goal.loop-k-preserved
loop-k-preserved g c =
    let more = paste-suc c.args.dst.now c.args.at c.args.src.now c.loop-k.k c.index-src-k.result (omega arith) c.loop-k-test.true in (
      rw (c.loop-k.invariant.0, add-one c.loop-k.k) (ap (λ x. set (paste c.args.dst.now c.args.at c.args.src.now c.loop-k.k) (c.args.at + c.loop-k.k) x) c.index-src-k.is ∙ more),
      simp length-set c.loop-k.invariant.1,
    )

pub returns : goal.returns
unfolding splice
returns g c =
    let full : c.loop-k.k ≡ length c.args.src.now = omega arith in
    c.loop-k.invariant.0 ∙ rw (full, take-length c.args.src.now)
