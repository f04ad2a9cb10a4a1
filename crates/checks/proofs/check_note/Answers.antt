-- Each way out is the first condition met.
use mathlib.Core.Path.{ap}
use mathlib.Core.Bool.{not}
use mathlib.Core.Path.{sym, ◌∙◌}
use mathlib.Mathlib.Data.Bool.Basic.{and_elim_left, and_elim_right}
use Rattle.buffers.proofs.Same.{same-equal}
use Rattle.utf8.specs.Formed.{well_formed}
use Rattle.checks.proofs.Lengths.{too_long, unpaired, ill-formed, by-alignments, fit-original, fit-normalized, pair-starts, pair_ends}
use Rattle.checks.proofs.check_note.Goals as goal

pub returns-then-not-lengths_fit : goal.returns-then-not-lengths_fit
returns-then-not-lengths_fit c = too_long _ _ _ _ _ _ c.lengths_fit.ensures (ap not c.if-not-lengths_fit.true)

pub returns-then-not-lengths_paired : goal.returns-then-not-lengths_paired
returns-then-not-lengths_paired c =
    unpaired _ _ _ _ _ _ c.lengths_fit.ensures (ap not c.if-not-lengths_fit.false) c.lengths_paired.ensures (ap not c.if-not-lengths_paired.true)

pub texts_formed-requires : goal.texts_formed-requires
texts_formed-requires c =
    record { plain_value = c.is_ascii-plain.ensures; original_value = λ t. same-equal _ _ (sym c.same-same.ensures ∙ t) }

pub returns-then-not-texts_formed : goal.returns-then-not-texts_formed
returns-then-not-texts_formed c =
    ill-formed _ _ _ _ _ _ c.lengths_fit.ensures (ap not c.if-not-lengths_fit.false) c.lengths_paired.ensures (ap not c.if-not-lengths_paired.false) c.texts_formed.ensures (ap not c.if-not-texts_formed.true)

pub aligned-requires : goal.aligned-requires
aligned-requires c =
    let fit = sym c.lengths_fit.ensures ∙ c.if-not-lengths_fit.false in
    let pair = sym c.lengths_paired.ensures ∙ c.if-not-lengths_paired.false in
    record {
      short = fit-original _ _ _ _ fit;
      normalized_short = fit-normalized _ _ _ _ fit;
      starts_paired = pair-starts _ _ _ pair;
      ends_paired = pair_ends _ _ _ pair;
      original_formed = and_elim_left (well_formed _) _ (sym c.texts_formed.ensures ∙ c.if-not-texts_formed.false);
      formed = and_elim_right (well_formed _) _ (sym c.texts_formed.ensures ∙ c.if-not-texts_formed.false);
      kind = c.is_ascii-plain.ensures;
      alike = λ t. same-equal _ _ (sym c.same-same.ensures ∙ t);
    }

pub returns : goal.returns
returns c =
    by-alignments _ _ _ _ _ _ c.lengths_fit.ensures (ap not c.if-not-lengths_fit.false) c.lengths_paired.ensures (ap not c.if-not-lengths_paired.false) c.texts_formed.ensures (ap not c.if-not-texts_formed.false) c.aligned.ensures c.refused_if.ensures
