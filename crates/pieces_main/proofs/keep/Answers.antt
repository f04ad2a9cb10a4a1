-- What was read lies within the buffer; what is kept of it, and seen to its end, is what is printed.
use mathlib.Core.Path.{◌∙◌, sym}
use native.Mathlib.Omega.{arith}
use Rattle.pieces_main.proofs.Chunks.{short-kept, long_kept}
use Rattle.pieces_main.proofs.keep.Goals as goal

pub returns-then-n-head : goal.returns-then-n-head
returns-then-n-head g c =
    record { within = c.in_ok-n.ensures.counted; is_kept = short-kept _ _ (omega arith) c.scan-seen.ensures }

pub returns : goal.returns
returns g c =
    record {
      within = c.in_ok-n.ensures.counted;
      is_kept = long_kept _ _ (omega arith) c.in_ok-n.ensures.counted (c.fill.ensures.same_len ∙ sym c.requires) c.scan-seen.ensures c.in_ok-last.ensures;
    }
