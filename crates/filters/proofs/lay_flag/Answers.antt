-- A dropped character leaves all as it was; a kept one gives its bytes, and as many times the alignment at the position.
use Prim.Native.Nat.{◌+◌, ◌*◌, ◌^◌, ◌<◌}
use lib.ListN.{length}
use native.Mathlib.Omega.{arith}
use borrow.Author.Tests.{ne_eqb}
use Rattle.buffers.proofs.Splice.{length_part}
use Rattle.filters.proofs.Flagged.{flag-dropped, flag-kept, kept-room}
use Rattle.filters.proofs.lay_flag.Goals as goal

pub returns-then-flag-eq0 : goal.returns-then-flag-eq0
returns-then-flag-eq0 c = flag-dropped c.if-flag-eq0.true

pub copy-requires : goal.copy-requires
copy-requires c =
    omega (arith, length_part c.args.text.now c.args.q (c.args.q + c.args.size) c.requires.inside, (kept-room c.requires c.if-flag-eq0.false).0)

pub offset_bounds-starts-p : goal.offset_bounds-starts-p
offset_bounds-starts-p c =
    let long : length c.args.starts.now * 2 < 2 ^ 63 = c.well_formed.1.1.0.1 in
    let found : c.args.position.0 < length c.args.starts.now = c.requires.start_found (ne_eqb _ 0 c.if-flag-eq0.false) in
    omega (arith, long, found)

pub bounds-starts-p : goal.bounds-starts-p
bounds-starts-p c = c.requires.start_found (ne_eqb _ 0 c.if-flag-eq0.false)

pub fill-requires : goal.fill-requires
fill-requires c = (kept-room c.requires c.if-flag-eq0.false).1.0

pub offset_bounds-ends-p : goal.offset_bounds-ends-p
offset_bounds-ends-p c =
    let long : length c.args.ends.now * 2 < 2 ^ 63 = c.well_formed.1.1.1.0.1 in
    let found : c.args.position.0 < length c.args.ends.now = c.requires.end_found (ne_eqb _ 0 c.if-flag-eq0.false) in
    omega (arith, long, found)

pub bounds-ends-p : goal.bounds-ends-p
bounds-ends-p c = c.requires.end_found (ne_eqb _ 0 c.if-flag-eq0.false)

pub fill-requires-2 : goal.fill-requires-2
fill-requires-2 c = (kept-room c.requires c.if-flag-eq0.false).1.1

pub returns : goal.returns
returns c = flag-kept c.if-flag-eq0.false c.copy.ensures c.fill.ensures c.fill-2.ensures
