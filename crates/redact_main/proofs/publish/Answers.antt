-- The columns of the fresh note, and what is published, lie within the buffers.
use mathlib.Core.Path.{sym}
use lib.Seq.{length-take-le}
use Rattle.redact_all.proofs.Reported.{report-fits}
use Rattle.redact_main.proofs.Gathers.{front_long, fronts-even}
use Rattle.redact_main.proofs.Started.{starts_long, ends_long}
use Rattle.redact_main.proofs.publish.Goals as goal

pub slice_bounds-starts-end : goal.slice_bounds-starts-end
slice_bounds-starts-end g c = starts_long c.from_text.ensures c.in_default.is

pub slice_bounds-redact_all-end : goal.slice_bounds-redact_all-end
slice_bounds-redact_all-end g c = sym (length-take-le _ _ (starts_long c.from_text.ensures c.in_default.is))

pub slice_bounds-ends-end : goal.slice_bounds-ends-end
slice_bounds-ends-end g c = ends_long c.from_text.ensures c.in_default.is

pub slice_bounds-redact_all-end-2 : goal.slice_bounds-redact_all-end-2
slice_bounds-redact_all-end-2 g c = sym (length-take-le _ _ (ends_long c.from_text.ensures c.in_default.is))

pub slice_bounds-blanked-end : goal.slice_bounds-blanked-end
slice_bounds-blanked-end g c = (report-fits _ _ _ _ c.redact_all.ensures c.in-Ok.is).blanked_long

pub slice_bounds-tell_counts-end : goal.slice_bounds-tell_counts-end
slice_bounds-tell_counts-end g c = sym (length-take-le _ _ (report-fits _ _ _ _ c.redact_all.ensures c.in-Ok.is).blanked_long)

pub slice_bounds-left-end : goal.slice_bounds-left-end
slice_bounds-left-end g c = (report-fits _ _ _ _ c.redact_all.ensures c.in-Ok.is).left_long

pub slice_bounds-tell_counts-end-in-Ok : goal.slice_bounds-tell_counts-end-in-Ok
slice_bounds-tell_counts-end-in-Ok g c = sym (length-take-le _ _ (report-fits _ _ _ _ c.redact_all.ensures c.in-Ok.is).left_long)

pub slice_bounds-fillers-end : goal.slice_bounds-fillers-end
slice_bounds-fillers-end g c = (report-fits _ _ _ _ c.redact_all.ensures c.in-Ok.is).fillers_long

pub slice_bounds-tell_counts-end-in-Ok-2 : goal.slice_bounds-tell_counts-end-in-Ok-2
slice_bounds-tell_counts-end-in-Ok-2 g c = sym (length-take-le _ _ (report-fits _ _ _ _ c.redact_all.ensures c.in-Ok.is).fillers_long)

pub tell_counts-requires : goal.tell_counts-requires
tell_counts-requires g c =
    let fits = report-fits _ _ _ _ c.redact_all.ensures c.in-Ok.is in
    record { even = fits.even; counts_long = front_long _ _ fits.blanked_long }

pub slice_bounds-out-end : goal.slice_bounds-out-end
slice_bounds-out-end g c = (report-fits _ _ _ _ c.redact_all.ensures c.in-Ok.is).text_long

pub slice_bounds-finish-end : goal.slice_bounds-finish-end
slice_bounds-finish-end g c = sym (length-take-le _ _ (report-fits _ _ _ _ c.redact_all.ensures c.in-Ok.is).text_long)

pub slice_bounds-out_starts-end : goal.slice_bounds-out_starts-end
slice_bounds-out_starts-end g c = (report-fits _ _ _ _ c.redact_all.ensures c.in-Ok.is).starts_long

pub slice_bounds-finish-end-in-Ok : goal.slice_bounds-finish-end-in-Ok
slice_bounds-finish-end-in-Ok g c = sym (length-take-le _ _ (report-fits _ _ _ _ c.redact_all.ensures c.in-Ok.is).starts_long)

pub slice_bounds-out_ends-end : goal.slice_bounds-out_ends-end
slice_bounds-out_ends-end g c = (report-fits _ _ _ _ c.redact_all.ensures c.in-Ok.is).ends_long

pub slice_bounds-finish-end-in-Ok-2 : goal.slice_bounds-finish-end-in-Ok-2
slice_bounds-finish-end-in-Ok-2 g c = sym (length-take-le _ _ (report-fits _ _ _ _ c.redact_all.ensures c.in-Ok.is).ends_long)

pub finish-requires : goal.finish-requires
finish-requires g c =
    let fits = report-fits _ _ _ _ c.redact_all.ensures c.in-Ok.is in
    fronts-even _ _ _ fits.starts_long fits.ends_long fits.short
