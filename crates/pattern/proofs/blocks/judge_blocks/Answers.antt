use mathlib.Core.Path.{ap}
use mathlib.Core.Bool.{not}
use native.Mathlib.Nat.{add-zero}
use native.Mathlib.Omega.{arith}
use Rattle.std.proofs.Common.{◌≡◌, ◌+◌, ◌*◌, ◌/◌}
use Rattle.pattern.proofs.Placed.{broken-first, unfit-first, first-going, block-going, block-unfit, blocks-short, blocks-judged}
use Rattle.pattern.proofs.blocks.judge_blocks.Goals as goal

pub returns-in_default : goal.returns-in_default
returns-in_default c = broken-first _ _ c.entry_at.ensures c.in_default.is

pub returns-then-not-fits_at : goal.returns-then-not-fits_at
returns-then-not-fits_at c = unfit-first _ _ c.entry_at.ensures c.in-Some.is c.fits_at.ensures (ap not c.if-not-fits_at.true)

pub overflow_add-second : goal.overflow_add-second
overflow_add-second c =
    omega (arith, (first-going _ _ c.entry_at.ensures c.in-Some.is c.fits_at.ensures (ap not c.if-not-fits_at.false)).most)

pub loop-k-init : goal.loop-k-init
loop-k-init c =
    rw add-zero (first-going _ _ c.entry_at.ensures c.in-Some.is c.fits_at.ensures (ap not c.if-not-fits_at.false))

pub block_fits-requires : goal.block_fits-requires
block_fits-requires c = (omega (arith, c.loop-k.invariant.after_five), omega arith)

pub judged_to-requires : goal.judged_to-requires
judged_to-requires c = let g = c.loop-k.invariant in (omega (arith, g.after_five), g.most)

pub returns-then-not-block_fits : goal.returns-then-not-block_fits
returns-then-not-block_fits c =
    blocks-judged _ _ c.entry_at.ensures c.in-Some.is c.fits_at.ensures (ap not c.if-not-fits_at.false) (block-unfit c.loop-k.invariant c.block_fits.ensures (ap not c.if-not-block_fits.true)) c.judged_to.ensures

pub loop-k-preserved : goal.loop-k-preserved
loop-k-preserved c =
    let on : c.in-Some.second + 80 * (c.loop-k.k + 1) ≡ c.in-Some.second + 80 * c.loop-k.k + 80 = omega arith in
    rw on (block-going c.loop-k.invariant (omega arith) c.block_fits.ensures (ap not c.if-not-block_fits.false))

pub judged_to-requires-2 : goal.judged_to-requires-2
judged_to-requires-2 c =
    let all : c.loop-k.k ≡ c.saturating_sub-blocks.result / 80 = omega arith in
    let g = rw all at c.loop-k.invariant in
    (omega (arith, g.after_five), g.most)

pub returns : goal.returns
returns c =
    let all : c.loop-k.k ≡ c.saturating_sub-blocks.result / 80 = omega arith in
    blocks-judged _ _ c.entry_at.ensures c.in-Some.is c.fits_at.ensures (ap not c.if-not-fits_at.false) (blocks-short (rw all at c.loop-k.invariant) (omega arith)) c.judged_to-2.ensures
