-- The passed buffers hold what their fields do.
use Rattle.stored_answers.proofs.Differences.{offsets-filled}
use Rattle.replayed_edits.proofs.Replaying.{buffers-lent, bytes-filled}
use Rattle.replayed_edits.proofs.publishing.on_publishing.Goals as goal

pub returns : goal.returns
returns g c =
    let replayed = buffers-lent (bytes-filled _ c.bytes-o.ensures.laid c.large_buffer-out.ensures) (offsets-filled _ c.offsets-s.ensures.laid c.zeros-out_starts.ensures) (offsets-filled _ c.offsets-e.ensures.laid c.zeros-out_ends.ensures) c.published.ensures in
    (_, (c.into.ensures, replayed))
