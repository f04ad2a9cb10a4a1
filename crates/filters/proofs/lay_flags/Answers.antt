use Prim.Native.Nat.{◌+◌, ◌≤◌}
use lib.ListN.{length}
use native.Mathlib.Omega.{arith}
use Rattle.filters.proofs.Kept.{char-there}
use Rattle.filters.proofs.Flagged.{none-flagged, flag-room, next-flagged, all-flagged}
use Rattle.filters.proofs.lay_flags.Goals as goal

pub loop-flag-init : goal.loop-flag-init
loop-flag-init c = none-flagged c.requires

pub char_len-size-requires : goal.char_len-size-requires
char_len-size-requires c = char-there c.loop-flag.invariant.beside c.loop-flag-test.true

pub lay_flag-written-requires : goal.lay_flag-written-requires
lay_flag-written-requires c = flag-room c.requires c.loop-flag.invariant c.loop-flag-test.true c.char_len-size.ensures

pub skip-p-requires : goal.skip-p-requires
skip-p-requires c = c.loop-flag.invariant.beside.standing

pub overflow_add-q : goal.overflow_add-q
overflow_add-q c =
    let inside : c.loop-flag.q + c.char_len-size.result ≤ length c.args.text.now = c.char_len-size.ensures.inside in
    omega (arith, inside)

pub loop-flag-preserved : goal.loop-flag-preserved
loop-flag-preserved c =
    next-flagged c.requires c.loop-flag.invariant c.loop-flag-test.true c.char_len-size.ensures
    c.lay_flag-written.ensures c.skip-p.ensures

pub shape_of-out : goal.shape_of-out
shape_of-out c = c.loop-flag.invariant.going.text_laid.same

pub shape_of-out_starts : goal.shape_of-out_starts
shape_of-out_starts c = c.loop-flag.invariant.going.starts_laid.same

pub shape_of-out_ends : goal.shape_of-out_ends
shape_of-out_ends c = c.loop-flag.invariant.going.ends_laid.same

pub returns : goal.returns
returns c = all-flagged c.requires c.loop-flag.invariant c.loop-flag-test.false
