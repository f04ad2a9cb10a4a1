-- Three stages, one after the other.
use mathlib.Core.Path.{◌∙◌}
use native.Mathlib.Omega.{arith}
use Rattle.redact_blocks.proofs.Blanks.{blankable-on, bounded-on, blanked-on, all_laid}
use Rattle.redact_blocks.proofs.blank.Goals as goal

pub blank_blocks-laid-requires : goal.blank_blocks-laid-requires
blank_blocks-laid-requires c =
    let stage = c.blank_bytes-begun.ensures in
    (blankable-on c.requires.0 stage.0, bounded-on c.requires.0 stage.0 c.requires.1, (λ h. omega (arith, stage.1, c.least_of_two-stop.ensures)), c.front_of-front.ensures)

pub blank_bytes-all-requires : goal.blank_bytes-all-requires
blank_bytes-all-requires c =
    let r = c.requires.0 in
    (blankable-on r (blanked-on r c.blank_bytes-begun.ensures.0 c.blank_blocks-laid.ensures), omega arith)

pub shape_of-out : goal.shape_of-out
shape_of-out c =
    c.blank_bytes-all.ensures.0.text_on.same ∙ c.blank_blocks-laid.ensures.text_on.same ∙ c.blank_bytes-begun.ensures.0.text_on.same

pub shape_of-out_starts : goal.shape_of-out_starts
shape_of-out_starts c =
    c.blank_bytes-all.ensures.0.starts_on.same ∙ c.blank_blocks-laid.ensures.starts_on.same ∙ c.blank_bytes-begun.ensures.0.starts_on.same

pub shape_of-out_ends : goal.shape_of-out_ends
shape_of-out_ends c =
    c.blank_bytes-all.ensures.0.ends_on.same ∙ c.blank_blocks-laid.ensures.ends_on.same ∙ c.blank_bytes-begun.ensures.0.ends_on.same

pub returns : goal.returns
returns c =
    let r = c.requires.0 in
    all_laid r (blanked-on r (blanked-on r c.blank_bytes-begun.ensures.0 c.blank_blocks-laid.ensures) c.blank_bytes-all.ensures.0) c.blank_bytes-all.ensures.1
