-- No lead byte asks for an odd second byte.
use Rattle.std.proofs.Common.{◌∙◌, arith}
use Rattle.validity_blocks.proofs.Invalid.{invalid-two, no_second, no_third}
use Rattle.validity_blocks.proofs.bytes.invalid_two.Goals as goal

pub returns : goal.returns
returns c =
    let pre = c.requires in
    c.standing.ensures ∙ invalid-two pre.2 pre.3 ∙ no_second _ _ _ pre.1 ∙ no_third _ _ _ _ pre.0
