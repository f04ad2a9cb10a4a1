use Prim.Native.Nat.{◌+◌, ◌*◌, ◌/◌}
use mathlib.Core.Path.{◌≡◌, sym, ◌∙◌}
use lib.ListN.{length-take, length-drop}
use native.Mathlib.Omega.{arith}
use Rattle.validity.proofs.Ascii.{ascii-formed}
use Rattle.validity.proofs.ValidAt.{valid-none, valid-rest, valid-more, valid-not, block-valid, from_all}
use Rattle.validity.proofs.well_formed.Goals as goal

pub returns-then-is_ascii : goal.returns-then-is_ascii
returns-then-is_ascii c = sym (ascii-formed _ (sym c.is_ascii.ensures ∙ c.if-is_ascii.true))

-- no byte is judged yet, and then the first three
pub returns-then-not-valid_between : goal.returns-then-not-valid_between
returns-then-not-valid_between c =
    sym (from_all _ ∙ valid-not (valid-none (omega arith)) 3 (omega arith) _ c.valid_between.ensures c.if-not-valid_between.true)

pub loop-k-init : goal.loop-k-init
loop-k-init c =
    valid-more (valid-none (omega arith)) 3 (omega arith) _ c.valid_between.ensures c.if-not-valid_between.false

pub valid_block-requires : goal.valid_block-requires
valid_block-requires c = simp (length-take, length-drop) (omega arith)

-- one more block
pub returns-then-not-valid_block : goal.returns-then-not-valid_block
returns-then-not-valid_block c =
    let head = c.loop-k in
    sym (from_all _ ∙ valid-not head.invariant (3 + head.k * 384 + 384) (omega arith) _ (c.valid_block.ensures ∙ block-valid _ _ _ (omega arith) (omega arith)) c.if-not-valid_block.true)

pub loop-k-preserved : goal.loop-k-preserved
loop-k-preserved c =
    let head = c.loop-k in
    let next : 3 + (head.k + 1) * 384 ≡ 3 + head.k * 384 + 384 = omega arith in
    rw next
    (valid-more head.invariant (3 + head.k * 384 + 384) (omega arith) _ (c.valid_block.ensures ∙ block-valid _ _ _ (omega arith) (omega arith)) c.if-not-valid_block.false)

pub returns : goal.returns
returns c =
    let all : c.saturating_sub-blocks.result / 384 ≡ c.loop-k.k = omega arith in
    rw all at c.valid_rest.ensures ∙ sym (from_all _ ∙ valid-rest c.loop-k.invariant _ (omega arith))
