use Prim.Native.Nat.{◌+◌, ◌*◌, ◌/◌, ◌≤◌}
use lib.ListN.{length, length-take, length-drop}
use mathlib.Core.Bool.{not}
use mathlib.Core.Path.{◌≡◌, ap, sym}
use native.Mathlib.Omega.{arith}
use Rattle.boundaries.proofs.Monotone.{uncut-none}
use Rattle.boundaries.proofs.Spanning.{inside-part, blocks_more, blocks-cut, blocks-rest}
use Rattle.boundaries.proofs.uncut_blocks.Goals as goal

pub loop-k-init : goal.loop-k-init
loop-k-init c = sym (uncut-none _ _ _)

pub block_uncut-requires : goal.block_uncut-requires
block_uncut-requires c =
    let room : c.loop-k.k * 64 + 64 ≤ length c.args.starts.now = omega arith in
    record { starts_len = (simp (length-take, length-drop) (omega arith), simp (length-take, length-drop) (omega arith)); starts_inside = inside-part (c.loop-k.k * 64) c.requires.starts_inside room }

pub returns-then-not-block_uncut : goal.returns-then-not-block_uncut
returns-then-not-block_uncut c =
    blocks-cut _ _ _ _ c.loop-k.invariant c.block_uncut.ensures (ap not c.if-not-block_uncut.true) (omega arith)

pub loop-k-preserved : goal.loop-k-preserved
loop-k-preserved c =
    let next : (c.loop-k.k + 1) * 64 ≡ c.loop-k.k * 64 + 64 = omega arith in
    rw next (blocks_more _ _ _ _ c.loop-k.invariant c.block_uncut.ensures (ap not c.if-not-block_uncut.false))

pub all_uncut-requires : goal.all_uncut-requires
all_uncut-requires c = simp (length-take, length-drop) (omega arith)

pub returns : goal.returns
returns c =
    let all : c.loop-k.k ≡ length c.args.starts.now / 64 = omega arith in
    blocks-rest _ _ _ _ (omega arith) c.requires.ends_len (rw all at c.loop-k.invariant) c.all_uncut.ensures
