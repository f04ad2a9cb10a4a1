-- A starting note is aligned; of another, the alignments one beside the other, then the transcript's boundaries.
use mathlib.Core.Bool.{not}
use mathlib.Core.Path.{sym, ap, ◌∙◌}
use Rattle.validity.specs.Texts.{ascii}
use Rattle.boundaries.proofs.Monotone.{not-monotone, monotone-ascii, monotone-uncut}
use Rattle.aligned.proofs.IsStarting.{starting-aligned}
use Rattle.aligned.proofs.aligned.Goals as goal

pub is_starting-requires : goal.is_starting-requires
is_starting-requires c =
    let known = c.requires in
    record {
      plain_value = known.kind ∙ ap ascii (known.alike c.if-same.true);
      text_len_bound = known.normalized_short;
      starts_len = (known.starts_paired, known.ends_paired);
    }

pub returns-then-is_starting : goal.returns-then-is_starting
returns-then-is_starting c =
    let known = c.requires in
    starting-aligned _ _ _ _ _ known.formed known.starts_paired known.ends_paired (known.alike c.if-same.true) c.is_starting.ensures c.if-is_starting.true

pub returns-then-not-monotone : goal.returns-then-not-monotone
returns-then-not-monotone c = not-monotone _ _ _ _ c.monotone.ensures (ap not c.if-not-monotone.true)

pub returns-then-plain : goal.returns-then-plain
returns-then-plain c =
    monotone-ascii _ _ _ _ c.monotone.ensures (ap not c.if-not-monotone.false) (sym c.requires.kind ∙ c.if-plain.true)

pub uncut_all-requires : goal.uncut_all-requires
uncut_all-requires c =
    let known = c.requires in
    record {
      original_value = (known.original_formed, known.starts_paired);
      ends_len = (known.ends_paired, sym c.monotone.ensures ∙ c.if-not-monotone.false);
    }

pub returns : goal.returns
returns c =
    monotone-uncut _ _ _ _ c.monotone.ensures (ap not c.if-not-monotone.false) c.uncut_all.ensures c.requires.starts_paired
