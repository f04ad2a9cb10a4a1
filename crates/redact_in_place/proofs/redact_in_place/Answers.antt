-- The call, and what it has published copied to where the note was.
use mathlib.Core.Path.{◌∙◌, sym}
use lib.Seq.{length-take-le}
use Rattle.buffers.proofs.Cases.{passed-on}
use Rattle.redact_note.proofs.Moved.{call_fits, moved-refused, moved-published}
use Rattle.redact_in_place.proofs.Holding.{text-copied, starts-copied, ends-copied, text-within, starts-within, ends-within}
use Rattle.redact_in_place.proofs.redact_in_place.Goals as goal

pub slice_bounds-redact_note-end-2 : goal.slice_bounds-redact_note-end-2
slice_bounds-redact_note-end-2 c = sym (length-take-le _ _ (text-within c.requires))

pub slice_bounds-redact_note-end-4 : goal.slice_bounds-redact_note-end-4
slice_bounds-redact_note-end-4 c = sym (length-take-le _ _ (starts-within c.requires))

pub slice_bounds-redact_note-end-6 : goal.slice_bounds-redact_note-end-6
slice_bounds-redact_note-end-6 c = sym (length-take-le _ _ (ends-within c.requires))

pub slice_bounds-out-end : goal.slice_bounds-out-end
slice_bounds-out-end c = (call_fits c.redact_note.ensures c.in_ok-n.was).text_fits

pub slice_bounds-copy-end : goal.slice_bounds-copy-end
slice_bounds-copy-end c = sym (length-take-le _ _ (call_fits c.redact_note.ensures c.in_ok-n.was).text_fits)

pub copy-requires : goal.copy-requires
copy-requires c = text-copied (call_fits c.redact_note.ensures c.in_ok-n.was) c.requires

pub slice_bounds-out_starts-end : goal.slice_bounds-out_starts-end
slice_bounds-out_starts-end c = (call_fits c.redact_note.ensures c.in_ok-n.was).starts_fit

pub slice_bounds-copy-end-2 : goal.slice_bounds-copy-end-2
slice_bounds-copy-end-2 c = sym (length-take-le _ _ (call_fits c.redact_note.ensures c.in_ok-n.was).starts_fit)

pub copy-requires-2 : goal.copy-requires-2
copy-requires-2 c = starts-copied (call_fits c.redact_note.ensures c.in_ok-n.was) c.requires

pub slice_bounds-out_ends-end : goal.slice_bounds-out_ends-end
slice_bounds-out_ends-end c = (call_fits c.redact_note.ensures c.in_ok-n.was).ends_fit

pub slice_bounds-copy-end-3 : goal.slice_bounds-copy-end-3
slice_bounds-copy-end-3 c = sym (length-take-le _ _ (call_fits c.redact_note.ensures c.in_ok-n.was).ends_fit)

pub copy-requires-3 : goal.copy-requires-3
copy-requires-3 c = ends-copied (call_fits c.redact_note.ensures c.in_ok-n.was) c.requires

pub returns : goal.returns
returns c =
    record {
      list₀ = _;
      list = _;
      list_room = sym c.list_buffer-list.ensures;
      call =
          moved-published c.redact_note.ensures _ _ _ (sym c.text_buffer-out.ensures ∙ sym c.requires.text_long)
          (sym c.column_buffer-out_starts.ensures ∙ sym c.requires.starts_long) (sym c.column_buffer-out_ends.ensures ∙ sym c.requires.ends_long)
          c.in_ok-n.was c.copy.ensures c.copy-2.ensures c.copy-3.ensures;
    }

pub returns-in_err-n : goal.returns-in_err-n
returns-in_err-n c = rw (passed-on _ c.from_residual.ensures.1) (record {
  list₀ = _;
  list = _;
  list_room = sym c.list_buffer-list.ensures;
  call =
      moved-refused c.redact_note.ensures _ _ _ (sym c.text_buffer-out.ensures ∙ sym c.requires.text_long)
      (sym c.column_buffer-out_starts.ensures ∙ sym c.requires.starts_long) (sym c.column_buffer-out_ends.ensures ∙ sym c.requires.ends_long)
      c.in_err-n.was;
})
