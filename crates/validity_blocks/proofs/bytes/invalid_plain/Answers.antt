-- The larger of b1 and b2 tells whether a character is pending.
use Rattle.std.proofs.Common.{◌∙◌, arith}
use Rattle.validity_blocks.proofs.Invalid.{invalid-plain, no_third}
use Rattle.validity_blocks.proofs.bytes.invalid_plain.Goals as goal

pub returns : goal.returns
returns c =
    let pre = c.requires in
    c.standing.ensures ∙ invalid-plain pre.1 pre.2 pre.3 c.max.ensures ∙ no_third _ _ _ _ pre.0
