use Prim.Native.Nat.{◌^◌, ◌<◌}
use lib.ListN.{length}
use native.Mathlib.Omega.{arith}
use Rattle.filters.proofs.Kept.{char-there, none-filtered, flag-starves, next-filtered, all-filtered, counts-most}
use Rattle.filters.proofs.measure_flags.Goals as goal

pub loop-flag-init : goal.loop-flag-init
loop-flag-init c = none-filtered c.requires

pub char_len-size-requires : goal.char_len-size-requires
char_len-size-requires c = char-there c.loop-flag.invariant.beside c.loop-flag-test.true

pub returns-then-flag_starves : goal.returns-then-flag_starves
returns-then-flag_starves c =
    flag-starves c.loop-flag.invariant c.loop-flag-test.true c.char_len-size.ensures c.flag_starves.ensures c.if-flag_starves.true

pub overflow_add-written : goal.overflow_add-written
overflow_add-written c =
    let long : length c.args.text.now < 2 ^ 64 = c.well_formed.0.0 in
    omega (arith, long, counts-most _ _ c.kept_len-written.ensures, c.char_len-size.ensures.inside, c.loop-flag.invariant.small)

pub skip-p-requires : goal.skip-p-requires
skip-p-requires c = c.loop-flag.invariant.beside.standing

pub overflow_add-q : goal.overflow_add-q
overflow_add-q c =
    let long : length c.args.text.now < 2 ^ 64 = c.well_formed.0.0 in
    omega (arith, long, c.char_len-size.ensures.inside)

pub loop-flag-preserved : goal.loop-flag-preserved
loop-flag-preserved c =
    next-filtered c.loop-flag.invariant c.loop-flag-test.true c.char_len-size.ensures
    c.flag_starves.ensures c.if-flag_starves.false c.kept_len-written.ensures c.skip-p.ensures

pub returns : goal.returns
returns c = all-filtered c.loop-flag.invariant c.loop-flag-test.false
