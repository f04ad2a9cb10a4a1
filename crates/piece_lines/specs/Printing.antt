-- RULES 14.5: what `pieces` prints.
use Rattle.std.specs.Prelude.{ℕ, ◌+◌, ◌*◌, ◌≤◌, cond, List, [], ◌∷◌, ◌++◌, eqb, length, get_or}
use Rattle.numbers.specs.Decimal.{field}
use Rattle.note.specs.declared.Refusal.{Refusal}
use Rattle.note.specs.declared.Refusal.TheVariants.{BadScript}
use Rattle.note.specs.Refusals.{number_of, unless_refused}
use Rattle.note.specs.Notes.{Note}
use Rattle.note.specs.Starting.{starting}
use Rattle.slice.specs.Bytes.{normalized_slice}
use Rattle.pattern.specs.declared.Place.{Place}
use Rattle.find.specs.Matching.{found_places}
use Rattle.behaviors.specs.declared.SplitDelimiterBehavior.{SplitDelimiterBehavior}
use Rattle.behaviors.specs.declared.SplitDelimiterBehavior.TheVariants.{
  Removed,
  Isolated,
  MergedWithPrevious,
  MergedWithNext,
  Contiguous,
}
use Rattle.behaviors.specs.declared.EmptyPieces.TheVariants.{Kept}
use Rattle.behaviors.specs.Splits.{pieces}
use Rattle.piece_lines.specs.Input.{literal_of, behavior_line, note_of, shaped, longest, lines_verdict}
use Rattle.piece_lines.specs.Spans.{line, pieces_word}

-- the behaviour that a digit chooses
unfoldable pub behavior_of_digit : ℕ → SplitDelimiterBehavior
behavior_of_digit b =
    cond (eqb b 0x31) Removed (cond (eqb b 0x32) Isolated
    (cond (eqb b 0x33) MergedWithPrevious (cond (eqb b 0x34) MergedWithNext Contiguous)))

-- `refused `, and the refusal's number
abbrev pub refused_word : List ℕ
refused_word = 0x72 ∷ 0x65 ∷ 0x66 ∷ 0x75 ∷ 0x73 ∷ 0x65 ∷ 0x64 ∷ 0x20 ∷ []

unfoldable pub refusal : Refusal → List ℕ
refusal k = refused_word ++ field (number_of k) 0x0A

-- the line of a piece, which is a note of its own (RULES 6): where its transcript starts and ends in the whole one, and
-- its cleaned text (Rust: `offsets_original`, `get`)
unfoldable pub piece_line : Note → List ℕ
piece_line piece =
    line piece.original_shift (piece.original_shift + length piece.original) piece.normalized

-- the lines of the pieces that places cut out of a note
unfoldable pub piece_lines : Note → List Place → List ℕ
piece_lines n [] = []
piece_lines n (p ∷ ps) = piece_line (normalized_slice n p.start.0 p.end.0) ++ piece_lines n ps

-- `pieces `, their number, and their lines
unfoldable pub pieces_text : Note → List Place → List ℕ
pieces_text n ps = pieces_word ++ field (length ps) 0x0A ++ piece_lines n ps

-- what is printed of a literal, a behaviour and a note: a refusal, or the pieces of its starting note, empty ones too
-- (Rust: `NormalizedString::split`)
unfoldable pub told : List ℕ → SplitDelimiterBehavior → List ℕ → List ℕ
told literal behavior note =
    unless_refused refusal (lines_verdict literal note)
    (pieces_text (starting note) (pieces behavior Kept (found_places note literal)))

-- WHAT IS PRINTED of an input
unfoldable pub printed : List ℕ → List ℕ
printed input =
    cond (shaped input) (told (literal_of input) (behavior_of_digit (get_or (behavior_line input) 0 0)) (note_of input))
    (refusal BadScript)

-- bytes that are enough for what is printed of any input: the line in front, 13 for each piece besides its own bytes,
-- the bytes of the note; `PRINTED` in the code
abbrev pub most : ℕ
most = 13 + 13 * (2 * longest + 1) + longest

-- CLAIM: so they are.
abbrev pub PrintedBounded : Type 0
PrintedBounded = (input : List ℕ) → length (printed input) ≤ most
