-- The bytes at the starts, their widths, and that each alignment is as long as its width.
use mathlib.Core.Bool.{false}
use mathlib.Core.Path.{◌∙◌, refl, sym}
use native.Mathlib.Omega.{arith}
use Rattle.buffers.proofs.Cases.{clash}
use Rattle.boundaries.proofs.Spanning.{all-spans}
use Rattle.boundaries.proofs.whole_chars.Goals as goal

pub returns-then-not-all_lead : goal.returns-then-not-all_lead
returns-then-not-all_lead c t = clash false t refl

pub returns : goal.returns
returns c t =
    all-spans _ c.requires.starts_inside c.requires.starts_len.0 (omega arith) refl c.read_at.ensures c.write_widths.ensures (sym c.all_lead.ensures ∙ c.if-not-all_lead.false) (sym c.widths_match.ensures ∙ t)
