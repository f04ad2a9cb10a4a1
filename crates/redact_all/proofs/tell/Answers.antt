-- Everything is laid in front of the passed buffers, and counted there.
use mathlib.Core.Path.{refl, sym}
use lib.Seq.{length-take-le}
use Rattle.buffers.specs.Splice.{overlay}
use Rattle.redact_all.proofs.Telling.{counts_long, all_told}
use Rattle.redact_all.proofs.tell.Goals as goal

pub slice_bounds-nonzeros-end : goal.slice_bounds-nonzeros-end
slice_bounds-nonzeros-end c = counts_long _ _ _ _ _ c.count_words.ensures c.requires.counts_long

pub slice_bounds-nonzeros-end-2 : goal.slice_bounds-nonzeros-end-2
slice_bounds-nonzeros-end-2 c = sym (length-take-le _ _ (counts_long _ _ _ _ _ c.count_words.ensures c.requires.counts_long))

pub slice_bounds-nonzeros-end-3 : goal.slice_bounds-nonzeros-end-3
slice_bounds-nonzeros-end-3 c = counts_long _ _ _ _ _ c.count_words-2.ensures c.requires.counts_long

pub slice_bounds-nonzeros-end-4 : goal.slice_bounds-nonzeros-end-4
slice_bounds-nonzeros-end-4 c = sym (length-take-le _ _ (counts_long _ _ _ _ _ c.count_words-2.ensures c.requires.counts_long))

pub returns : goal.returns
unfolding overlay
returns c =
    all_told c.copy.ensures c.copy-2.ensures c.copy-3.ensures
    (rw c.copy_from_slice.ensures.after refl) c.count_words.ensures c.count_words-2.ensures c.requires.counts_long
    c.zeros.ensures c.nonzeros.ensures c.nonzeros-2.ensures
