-- Laws of the lines of pieces of a starting note: their transcript numbers are their cleaned ones.
use Prim.Native.Nat.{ℕ, ◌+◌, ◌-◌, ◌≤◌}
use mathlib.Core.Path.{◌≡◌, ◌∙◌, refl}
use mathlib.Core.Bool.{true}
use mathlib.Core.List.{List, [], ◌∷◌}
use native.Mathlib.Omega.{arith}
use lib.ListN.{length, length-take, length-drop, length-map}
use Rattle.std.specs.Prelude.{Ok}
use Rattle.buffers.specs.Splice.{part}
use Rattle.utf8.specs.Formed.{well_formed, boundary}
use Rattle.utf8.proofs.Boundaries.{boundary-most, between-char-range}
use Rattle.note.specs.Notes.{limit}
use Rattle.note.specs.Starting.{starting}
use Rattle.note.proofs.Starting.{starting-accepted}
use Rattle.convert.specs.Converting.{in_original, in_normalized, convert_offsets}
use Rattle.convert.proofs.Answered.{answered-accepted, converted-missing}
use Rattle.convert.proofs.Itself.{converted-itself}
use Rattle.convert.specs.Converting.{as_original, as_normalized}
use Rattle.slice.specs.Slicing.{slice_of, sliced, slice_note}
use Rattle.slice.specs.Bytes.{normalized_slice}
use Rattle.pattern.specs.declared.Place.{Place}
use Rattle.behaviors.specs.Joining.{starts_of, ends_of}
use Rattle.piece_lines.specs.Spans.{line, span_lines, spans_text}
use Rattle.piece_lines.specs.Printing.{piece_line, piece_lines, pieces_text}
use Rattle.piece_lines.proofs.Fitting.{AllLie}

-- a piece between boundaries of a fresh text
module _ (s : List ℕ) (p : well_formed s ≡ true) (short : length s ≤ limit) (a b : ℕ) (at_a : boundary s a ≡ true) (at_b : boundary s b ≡ true) (on : a ≤ b) where
  original-itself : as_original (starting s).starts (starting s).ends (in_normalized a b) ≡ Ok (in_original a b)
  unfolding as_original convert_offsets
  original-itself =
      answered-accepted limit (starting s) _ refl (starting-accepted limit s p short) (converted-missing _ _ (in_normalized a b))
      ∙ converted-itself limit s p short (in_normalized a b) (between-char-range s a b on at_a at_b)

  part-long : length (part s a b) ≡ b - a
  part-long = simp (length-take, length-drop) (omega (arith, boundary-most s b at_b))

  pub piece-line : piece_line (normalized_slice (starting s) a b) ≡ line a b (part s a b)
  unfolding piece_line slice_note sliced slice_of as_normalized starting
  piece-line =
      let shift : 0 + a ≡ a = omega arith in
      let end : a + length (part s a b) ≡ b = omega (arith, part-long) in
      rw (original-itself, shift, end)

-- all of them
pub pieces-spans : (s : List ℕ) → well_formed s ≡ true → length s ≤ limit → (ps : List Place) → AllLie s ps → piece_lines (starting s) ps ≡ span_lines s (starts_of ps) (ends_of ps)
unfolding piece_lines span_lines
pieces-spans s p short [] l = refl
pieces-spans s p short (q ∷ qs) l =
    rw (piece-line s p short q.start.0 q.end.0 l.0.from l.0.to l.0.onward, pieces-spans s p short qs l.1)

pub pieces-text : (s : List ℕ) → well_formed s ≡ true → length s ≤ limit → (ps : List Place) → AllLie s ps → pieces_text (starting s) ps ≡ spans_text s (starts_of ps) (ends_of ps)
unfolding pieces_text spans_text
pieces-text s p short ps l = rw (pieces-spans s p short ps l, length-map)
