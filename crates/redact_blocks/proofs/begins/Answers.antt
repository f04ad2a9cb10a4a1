-- The first bytes decide, or where there are more all of them.
use native.Mathlib.Omega.{arith}
use Rattle.redact_blocks.proofs.Front.{front-differs, front_is_all}
use Rattle.redact_blocks.proofs.begins.Goals as goal

pub returns-then-not-same_front : goal.returns-then-not-same_front
returns-then-not-same_front c =
    front-differs c.requires c.least_of_two-front_len.ensures c.same_front.ensures c.if-not-same_front.true

pub returns-then-literal-le16 : goal.returns-then-literal-le16
returns-then-literal-le16 c =
    front_is_all c.requires c.least_of_two-front_len.ensures c.same_front.ensures c.if-not-same_front.false (omega arith)
