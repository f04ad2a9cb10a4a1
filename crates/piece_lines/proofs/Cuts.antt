-- Laws of a note that is cut: room for its pieces and for what is printed of them; and how a literal's search is judged.
use Prim.Native.Nat.{ℕ, ◌+◌, ◌*◌, ◌-◌, ◌≤◌}
use mathlib.Core.Path.{◌≡◌, ◌∙◌, sym}
use mathlib.Core.List.{List, [], ◌∷◌, ◌++◌}
use native.Mathlib.Omega.{arith}
use lib.ListN.{length, take, length-append, length-take, length-map}
use Rattle.buffers.specs.Splice.{part, Laid}
use Rattle.buffers.proofs.Splice.{take-overlay, overlay-long}
use Rattle.numbers.specs.Decimal.{field}
use Rattle.numbers.proofs.Decimal.{field-bounded-5}
use Rattle.utf8.proofs.Boundaries.{boundary-most, boundary-zero}
use Rattle.note.specs.Notes.{limit}
use Rattle.note.specs.Starting.{starting}
use Rattle.pattern.specs.declared.Place.{Place}
use Rattle.pattern.specs.Entries.{places_of}
use Rattle.pattern.proofs.Places.{covers-places, covers-whole}
use Rattle.behaviors.specs.declared.SplitDelimiterBehavior.{SplitDelimiterBehavior}
use Rattle.behaviors.specs.declared.EmptyPieces.{EmptyPieces}
use Rattle.behaviors.specs.Joining.{starts_of, ends_of}
use Rattle.behaviors.specs.Runs.{total_length, list_pieces}
use Rattle.spans.specs.Packing.{SpansLaid, SpansRoom}
use Rattle.piece_lines.specs.Input.{longest}
use Rattle.piece_lines.specs.Spans.{line, span_lines, pieces_word, spans_text, LineSpans, Cuttable}
use Rattle.piece_lines.specs.Printing.{most, pieces_text}
use Rattle.behaviors.proofs.Runs.{pieces-few}
use Rattle.piece_lines.proofs.Fitting.{AllLie, pieces-lie, spans-lie}
use Rattle.piece_lines.proofs.Fresh.{pieces-text}
use Rattle.piece_lines.proofs.Written.{length-line}

-- a line has 13 bytes at most besides its own
line-bounded : (text : List ℕ) (a e : ℕ) → a ≤ e → e ≤ longest → length (line a e (part text a e)) ≤ 13 + (e - a)
line-bounded text a e on low =
    let own : length (part text a e) ≤ e - a = simp length-take (omega arith) in
    omega (arith, length-line a e (part text a e), field-bounded-5 a 0x20 (omega arith), field-bounded-5 e 0x20 (omega arith))

lines-bounded : (text : List ℕ) → length text ≤ longest → (ps : List Place) → AllLie text ps → length (span_lines text (starts_of ps) (ends_of ps)) ≤ 13 * length ps + total_length ps
unfolding span_lines total_length
lines-bounded text brief [] l = omega arith
lines-bounded text brief (p ∷ ps) l =
    let first = line p.start.0 p.end.0 (part text p.start.0 p.end.0) in
    omega (arith, length-append first (span_lines text (starts_of ps) (ends_of ps)), line-bounded text p.start.0 p.end.0 l.0.onward (omega (arith, boundary-most text p.end.0 l.0.to)), lines-bounded text brief ps l.1)

pub text-bounded : (text : List ℕ) → length text ≤ longest → (ps : List Place) → AllLie text ps → total_length ps ≤ length text → length ps ≤ 2 * longest + 1 → length (spans_text text (starts_of ps) (ends_of ps)) ≤ most
unfolding spans_text
text-bounded text brief ps l own few =
    let count = field (length (starts_of ps)) 0x0A in
    omega (arith, length-append (pieces_word ++ count) (span_lines text (starts_of ps) (ends_of ps)), length-append pieces_word count, field-bounded-5 (length (starts_of ps)) 0x0A (omega (arith, length-map ps (λ p. p.start.0))), lines-bounded text brief ps l)

module _ {list text : List ℕ} (c : Cuttable list text) (behavior : SplitDelimiterBehavior) (empty : EmptyPieces) where
  lie : AllLie text (list_pieces behavior empty list) × (total_length (list_pieces behavior empty list) ≤ length text)
  lie = pieces-lie text behavior empty (places_of list) (boundary-zero text c.formed) (covers-places text list c.covered)

  few : length (list_pieces behavior empty list) ≤ 2 * longest + 1
  few = omega (arith, pieces-few behavior empty (places_of list), c.few)

  pub spans-room : {spans starts ends : List ℕ} → 2 * longest + 1 ≡ length spans → 2 * longest + 1 ≡ length starts → 2 * longest + 1 ≡ length ends → SpansRoom limit list behavior empty spans starts ends
  spans-room p s e =
      record {
        packed_room = record {
          listed = record { text = text; short = omega (arith, c.brief); covered = covers-places text list c.covered };
          unbroken = covers-whole text list c.covered;
          room = omega (arith, few);
        };
        starts_room = omega (arith, few);
        ends_room = omega (arith, few);
      }

  module _ {spans₀ starts₀ ends₀ : List ℕ} {r : ℕ} {spans starts ends : List ℕ} (l : SpansLaid (list_pieces behavior empty list) spans₀ starts₀ ends₀ r spans starts ends) where
    starts-count : length (starts_of (list_pieces behavior empty list)) ≡ r
    starts-count = length-map (list_pieces behavior empty list) _ ∙ sym l.reach

    ends-count : length (ends_of (list_pieces behavior empty list)) ≡ r
    ends-count = length-map (list_pieces behavior empty list) _ ∙ sym l.reach

    pub starts_long : r ≤ length starts
    starts_long = rw (← starts-count, l.starts_are) (overlay-long (starts_of (list_pieces behavior empty list)) starts₀)

    pub ends_long : r ≤ length ends
    ends_long = rw (← ends-count, l.ends_are) (overlay-long (ends_of (list_pieces behavior empty list)) ends₀)

    starts-front : take r starts ≡ starts_of (list_pieces behavior empty list)
    starts-front = rw (← starts-count, l.starts_are) (take-overlay (starts_of (list_pieces behavior empty list)) starts₀)

    ends-front : take r ends ≡ ends_of (list_pieces behavior empty list)
    ends-front = rw (← ends-count, l.ends_are) (take-overlay (ends_of (list_pieces behavior empty list)) ends₀)

    pub pieces-spanned : LineSpans text (take r starts) (take r ends)
    pieces-spanned = rw (starts-front, ends-front) (spans-lie text (list_pieces behavior empty list) lie.0)

    pub pieces_room : {room : ℕ} → most ≤ room → length (spans_text text (take r starts) (take r ends)) ≤ room
    pieces_room h = rw (starts-front, ends-front) (omega (arith, text-bounded text c.brief (list_pieces behavior empty list) lie.0 lie.1 few))

    pub pieces-laid : {d₀ d : List ℕ} {q : ℕ} → Laid (spans_text text (take r starts) (take r ends)) d₀ 0 q d → Laid (pieces_text (starting text) (list_pieces behavior empty list)) d₀ 0 q d
    pieces-laid laid = rw (pieces-text text c.formed (omega (arith, c.brief)) (list_pieces behavior empty list) lie.0, ← starts-front, ← ends-front) laid

  pub pieces-bounded : length (pieces_text (starting text) (list_pieces behavior empty list)) ≤ most
  pieces-bounded =
      rw (pieces-text text c.formed (omega (arith, c.brief)) (list_pieces behavior empty list) lie.0) (text-bounded text c.brief (list_pieces behavior empty list) lie.0 lie.1 few)
