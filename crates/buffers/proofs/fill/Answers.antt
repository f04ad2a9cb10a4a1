use mathlib.Core.Path.{◌≡◌, ◌∙◌, ap, sym}
use native.Mathlib.Numerals.{add-one}
use native.Mathlib.Omega.{arith}
use lib.ListN.{length, set, length-set, replicate, length-replicate, get_or-replicate}
use lib.Seq.{paste, paste-suc, take-length}
use Rattle.std.proofs.Common.{◌+◌}
use Rattle.buffers.specs.Splice.{splice}
use Rattle.buffers.proofs.fill.Goals as goal

pub loop-j-preserved : goal.loop-j-preserved
loop-j-preserved g c =
    let run = replicate c.args.count c.args.value in
    let long : length run ≡ c.args.count = length-replicate c.args.count c.args.value in
    let more = paste-suc c.args.dst.now c.args.at run c.loop-j.j c.args.value (omega (arith, long)) (omega (arith, long)) in
    let here = get_or-replicate c.args.count c.loop-j.j c.args.value c.args.value c.loop-j-test.true in (
      rw (c.loop-j.invariant.0, add-one c.loop-j.j) (ap (λ x. set (paste c.args.dst.now c.args.at run c.loop-j.j) (c.args.at + c.loop-j.j) x) (sym here) ∙ more),
      simp length-set c.loop-j.invariant.1,
    )

pub returns : goal.returns
unfolding splice
returns g c =
    let run = replicate c.args.count c.args.value in
    let full : c.loop-j.j ≡ length run = omega (arith, length-replicate c.args.count c.args.value) in
    c.loop-j.invariant.0 ∙ rw (full, take-length run)
