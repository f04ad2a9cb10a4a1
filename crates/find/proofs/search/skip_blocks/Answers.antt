use Rattle.std.proofs.Common.{◌≡◌, ◌+◌, ◌*◌, arith, refl, length-take, length-drop}
use native.Mathlib.Nat.{add-zero}
use Rattle.find.proofs.Candidates.{apart-candidate, absent_none, absent-block}
use Rattle.find.proofs.search.skip_blocks.Goals as goal

pub loop-k-init : goal.loop-k-init
loop-k-init c = rw add-zero (absent_none (omega arith))

pub has_candidate-requires : goal.has_candidate-requires
has_candidate-requires c = (simp (length-take, length-drop) (omega arith), simp (length-take, length-drop) (omega arith))

pub loop-k-preserved : goal.loop-k-preserved
loop-k-preserved c =
    let on : c.args.from + 64 * (c.loop-k.k + 1) ≡ c.args.from + 64 * c.loop-k.k + 64 = omega arith in
    rw on
    (absent-block _ _ _ c.requires.0 refl refl _ c.loop-k.invariant (apart-candidate _ _ _ _ c.has_candidate.ensures c.if-has_candidate.false)
    (omega arith) (omega arith) (omega arith))
