-- Worked notes of RULES 4, 8, 10, 11, 12 and 16, of what the calls answer: one list, and one claim about the list.
use Rattle.std.specs.Prelude.{ℕ, ◌+◌, ◌≡◌, Bool, true, false, ◌&&◌, List, [], ◌∷◌, eqb, length, Result, Ok, Err}
use Rattle.buffers.specs.Same.{same}
use Rattle.note.specs.Refusals.{number_of, verdict, unless_refused, Verdict}
use Rattle.note.specs.Notes.{Note, limit}
use Rattle.note.specs.Starting.{starting}
use Rattle.convert.specs.declared.Range.{Range}
use Rattle.convert.specs.declared.Range.TheVariants.{Original, Normalized}
use Rattle.convert.specs.Converting.{in_original, in_normalized, convert_offsets}
use Rattle.char_offsets.specs.Positions.{char_offsets}
use Rattle.pattern.specs.Entries.{places_of}
use Rattle.find.specs.Finding.{found_bytes}
use Rattle.replace.specs.Replacing.{PublishedNote, replaced, replace_faults}
use Rattle.behaviors.specs.declared.SplitDelimiterBehavior.{SplitDelimiterBehavior}
use Rattle.behaviors.specs.declared.SplitDelimiterBehavior.TheVariants.{
  Removed,
  Isolated,
  MergedWithPrevious,
  Contiguous,
}
use Rattle.behaviors.specs.declared.EmptyPieces.TheVariants.{Kept}
use Rattle.split.specs.Splitting.{PieceColumns, cut_by, split_faults}
use Rattle.edit_steps.specs.Edits.{transformed}
use Rattle.note.specs.Faults.{string_faults}
use Rattle.transform.specs.Transforming.{call_faults}
use Rattle.edits.specs.Whole.{prepend_edit, clear_edit, clear_faults}
use Rattle.lowercase.specs.Lowering.{lowercase_edit, lowercase_faults}
use Rattle.replace_by_edits.specs.Road.{road_back, road_on}
use Rattle.replace_by_edits.specs.ByEdits.{by_edits_faults}
use Rattle.note.specs.declared.CharIndex.{CharIndex}
use Rattle.note.specs.declared.Refusal.{Refusal}

-- whether an answer is this range, of this text
abbrev pub same_range : Range → Range → Bool
same_range (Original a b) (Original c d) = eqb a.0 c.0 && eqb b.0 d.0
same_range (Original a b) (Normalized c d) = false
same_range (Normalized a b) (Original c d) = false
same_range (Normalized a b) (Normalized c d) = eqb a.0 c.0 && eqb b.0 d.0

abbrev pub gives : Result Range Refusal → Range → Bool
gives (Ok range) expected = same_range range expected
gives (Err k) expected = false

-- whether it is these two characters
abbrev pub names : Result (CharIndex × CharIndex) Refusal → ℕ → ℕ → Bool
names (Ok (i, j)) a e = eqb i.0 a && eqb j.0 e
names (Err k) a e = false

abbrev pub accepts : Verdict → Bool
accepts (Ok tt) = true
accepts (Err k) = false

abbrev pub refuses : Verdict → ℕ → Bool
refuses (Ok tt) number = false
refuses (Err k) number = eqb (number_of k) number

abbrev pub is_note : PublishedNote → List ℕ → List ℕ → List ℕ → Bool
is_note p text starts ends = same p.text text && same p.starts starts && same p.ends ends

-- whether replacing accepts, in buffers as long as the result, and publishes this text with these alignments
abbrev pub publishes : Note → List ℕ → List ℕ → List ℕ → List ℕ → List ℕ → Bool
publishes n list content text starts ends =
    accepts (verdict (replace_faults limit n list content (length text)))
    && is_note (replaced (places_of list) content n) text starts ends

-- whether splitting accepts, in columns as long as the pieces and their alignments, and gives the pieces from..to
abbrev pub are_spans : PieceColumns → List ℕ → List ℕ → Bool
are_spans c from to = same c.starts from && same c.ends to

abbrev pub cuts_into : Note → List ℕ → SplitDelimiterBehavior → List ℕ → List ℕ → Bool
cuts_into n list behavior from to =
    accepts (verdict (split_faults limit n list behavior Kept (length from)
    (length (cut_by n list behavior Kept).alignment_starts)))
    && are_spans (cut_by n list behavior Kept) from to

-- by the list that finding a literal in its text gives
abbrev pub cuts_at : Note → List ℕ → SplitDelimiterBehavior → List ℕ → List ℕ → Bool
cuts_at n literal behavior from to = cuts_into n (found_bytes n.normalized literal) behavior from to

-- whether a note has this text with these alignments
abbrev pub holds : Note → List ℕ → List ℕ → List ℕ → Bool
holds n text starts ends = same n.normalized text && same n.starts starts && same n.ends ends

-- whether clearing answers these two lengths
abbrev pub clears : Result (ℕ × ℕ) Refusal → ℕ → ℕ → Bool
clears (Ok (before, left)) a b = eqb before a && eqb left b
clears (Err k) a b = false

-- whether replacing by edits accepts, in buffers as long as the result and scratch as long as both texts, and leaves this
-- text with these alignments, from the last place to the first and from the first to the last
abbrev pub edits : Note → List ℕ → List ℕ → List ℕ → List ℕ → List ℕ → Bool
edits n list content text starts ends =
    accepts (verdict (by_edits_faults limit n list content (length text) (length n.normalized + length text)))
    && holds (road_back (places_of list) content n) text starts ends
    && holds (road_on (places_of list) content n) text starts ends

-- whether lowercase accepts, in buffers as long as the result, and leaves this text with these alignments
abbrev pub lowers : Note → List ℕ → List ℕ → List ℕ → Bool
lowers n text starts ends =
    accepts (verdict (lowercase_faults limit n (length text)))
    && holds (transformed n (lowercase_edit n)) text starts ends

-- the starting note of `aé`, and that note after `prepend("")`
unfoldable pub aé : Note
aé = starting (0x61 ∷ 0xC3 ∷ 0xA9 ∷ [])

unfoldable pub prepended_nothing : Note
prepended_nothing = transformed aé (prepend_edit aé [])

-- the starting notes of `AÉ漢`, of `İA`, whose first letter is U+0130, and of the Kelvin sign (U+212A) and `É`
unfoldable pub AÉ漢 : Note
AÉ漢 = starting (0x41 ∷ 0xC3 ∷ 0x89 ∷ 0xE6 ∷ 0xBC ∷ 0xA2 ∷ [])

unfoldable pub İA : Note
İA = starting (0xC4 ∷ 0xB0 ∷ 0x41 ∷ [])

unfoldable pub kelvinÉ : Note
kelvinÉ = starting (0xE2 ∷ 0x84 ∷ 0xAA ∷ 0xC3 ∷ 0x89 ∷ [])

-- the starting note of `aéb`
unfoldable pub aéb : Note
aéb = starting (0x61 ∷ 0xC3 ∷ 0xA9 ∷ 0x62 ∷ [])

-- `nest `, two bytes that are blanked, and the list that says so
unfoldable pub nest : ℕ → ℕ → Note
nest a b = starting (0x6E ∷ 0x65 ∷ 0x73 ∷ 0x74 ∷ 0x20 ∷ a ∷ b ∷ [])

unfoldable pub blank : List ℕ
blank = 11 ∷ 0 ∷ 0 ∷ 5 ∷ 0 ∷ 12 ∷ 5 ∷ 0 ∷ 7 ∷ 0 ∷ []

-- `the-final--countdown`
unfoldable pub final : Note
final =
    starting (0x74 ∷ 0x68 ∷ 0x65 ∷ 0x2D ∷ 0x66 ∷ 0x69 ∷ 0x6E ∷ 0x61 ∷ 0x6C ∷ 0x2D ∷ 0x2D
    ∷ 0x63 ∷ 0x6F ∷ 0x75 ∷ 0x6E ∷ 0x74 ∷ 0x64 ∷ 0x6F ∷ 0x77 ∷ 0x6E ∷ [])

unfoldable pub worked : List Bool
worked =
    -- converting on `aéb`: a byte of é is all of é; half of é is no character; an end far past the text; an empty range
    gives (convert_offsets limit aéb (in_normalized 1 2)) (in_original 1 3)
    ∷ gives (convert_offsets limit aéb (in_original 1 2)) (in_normalized 1 1)
    ∷ gives (convert_offsets limit aéb (in_original 0 9)) (in_normalized 0 4)
    ∷ gives (convert_offsets limit aéb (in_normalized 900 900)) (in_original 900 900)
    -- the characters of `abc`, with an end far past the text
    ∷ names (char_offsets limit (0x61 ∷ 0x62 ∷ 0x63 ∷ []) 0 10) 0 2
    -- `nest 12` and `nest 47` with their numbers blanked by two stars are published alike
    ∷ publishes (nest 0x31 0x32) blank (0x2A ∷ 0x2A ∷ [])
    (0x6E ∷ 0x65 ∷ 0x73 ∷ 0x74 ∷ 0x20 ∷ 0x2A ∷ 0x2A ∷ [])
    (0 ∷ 1 ∷ 2 ∷ 3 ∷ 4 ∷ 6 ∷ 6 ∷ []) (1 ∷ 2 ∷ 3 ∷ 4 ∷ 5 ∷ 7 ∷ 7 ∷ [])
    ∷ publishes (nest 0x34 0x37) blank (0x2A ∷ 0x2A ∷ [])
    (0x6E ∷ 0x65 ∷ 0x73 ∷ 0x74 ∷ 0x20 ∷ 0x2A ∷ 0x2A ∷ [])
    (0 ∷ 1 ∷ 2 ∷ 3 ∷ 4 ∷ 6 ∷ 6 ∷ []) (1 ∷ 2 ∷ 3 ∷ 4 ∷ 5 ∷ 7 ∷ 7 ∷ [])
    -- an empty matched place at the beginning of `ab`, filled by `x`
    ∷ publishes (starting (0x61 ∷ 0x62 ∷ [])) (12 ∷ 0 ∷ 0 ∷ 0 ∷ 0 ∷ 11 ∷ 0 ∷ 0 ∷ 2 ∷ 0 ∷ []) (0x78 ∷ [])
    (0x78 ∷ 0x61 ∷ 0x62 ∷ []) (0 ∷ 0 ∷ 1 ∷ []) (0 ∷ 1 ∷ 2 ∷ [])
    -- `the-final--countdown` cut at `-`: the, final, countdown; then every place; the-, final-, -, countdown;
    -- and the, -, final, --, countdown
    ∷ cuts_at final (0x2D ∷ []) Removed (0 ∷ 4 ∷ 11 ∷ []) (3 ∷ 9 ∷ 20 ∷ [])
    ∷ cuts_at final (0x2D ∷ []) Isolated (0 ∷ 3 ∷ 4 ∷ 9 ∷ 10 ∷ 11 ∷ []) (3 ∷ 4 ∷ 9 ∷ 10 ∷ 11 ∷ 20 ∷ [])
    ∷ cuts_at final (0x2D ∷ []) MergedWithPrevious (0 ∷ 4 ∷ 10 ∷ 11 ∷ []) (4 ∷ 10 ∷ 11 ∷ 20 ∷ [])
    ∷ cuts_at final (0x2D ∷ []) Contiguous (0 ∷ 3 ∷ 4 ∷ 9 ∷ 11 ∷ []) (3 ∷ 4 ∷ 9 ∷ 11 ∷ 20 ∷ [])
    -- `prepend("")` on `aé` keeps the text, and its first character loses its alignment; `clear`
    -- then leaves that character
    ∷ accepts (verdict (call_faults limit aé (string_faults []) (prepend_edit aé []) 3))
    ∷ holds prepended_nothing (0x61 ∷ 0xC3 ∷ 0xA9 ∷ []) (0 ∷ 1 ∷ 1 ∷ []) (0 ∷ 3 ∷ 3 ∷ [])
    ∷ clears (unless_refused Err (verdict (clear_faults limit prepended_nothing 1))
    (Ok (length prepended_nothing.normalized, length (transformed prepended_nothing (clear_edit prepended_nothing)).normalized))) 3 1
    ∷ holds (transformed prepended_nothing (clear_edit prepended_nothing)) (0x61 ∷ []) (0 ∷ []) (0 ∷ [])
    -- `lowercase`: `aé漢`; `i`, U+0307 and `a`; that again is the same; the Kelvin sign stays; a head is 7; one byte less
    -- than the result has is 9
    ∷ lowers AÉ漢 (0x61 ∷ 0xC3 ∷ 0xA9 ∷ 0xE6 ∷ 0xBC ∷ 0xA2 ∷ [])
    (0 ∷ 1 ∷ 1 ∷ 3 ∷ 3 ∷ 3 ∷ []) (1 ∷ 3 ∷ 3 ∷ 6 ∷ 6 ∷ 6 ∷ [])
    ∷ lowers İA (0x69 ∷ 0xCC ∷ 0x87 ∷ 0x61 ∷ []) (0 ∷ 0 ∷ 0 ∷ 2 ∷ []) (2 ∷ 2 ∷ 2 ∷ 3 ∷ [])
    ∷ lowers (transformed İA (lowercase_edit İA)) (0x69 ∷ 0xCC ∷ 0x87 ∷ 0x61 ∷ [])
    (0 ∷ 0 ∷ 0 ∷ 2 ∷ []) (2 ∷ 2 ∷ 2 ∷ 3 ∷ [])
    ∷ lowers kelvinÉ (0xE2 ∷ 0x84 ∷ 0xAA ∷ 0xC3 ∷ 0xA9 ∷ []) (0 ∷ 0 ∷ 0 ∷ 3 ∷ 3 ∷ []) (3 ∷ 3 ∷ 3 ∷ 5 ∷ 5 ∷ [])
    ∷ refuses (verdict (lowercase_faults limit prepended_nothing 3)) 7
    ∷ refuses (verdict (lowercase_faults limit İA 3)) 9
    -- by edits, last place first and first place first: `nest 12` as above; `ab` with 0..1 and 1..2 by `**`; `ab` with 0..1
    -- and the empty place straight after it by `x`; and scratch of one element less than both texts have is 9
    ∷ edits (nest 0x31 0x32) blank (0x2A ∷ 0x2A ∷ [])
    (0x6E ∷ 0x65 ∷ 0x73 ∷ 0x74 ∷ 0x20 ∷ 0x2A ∷ 0x2A ∷ [])
    (0 ∷ 1 ∷ 2 ∷ 3 ∷ 4 ∷ 6 ∷ 6 ∷ []) (1 ∷ 2 ∷ 3 ∷ 4 ∷ 5 ∷ 7 ∷ 7 ∷ [])
    ∷ edits (starting (0x61 ∷ 0x62 ∷ [])) (12 ∷ 0 ∷ 0 ∷ 1 ∷ 0 ∷ 12 ∷ 1 ∷ 0 ∷ 2 ∷ 0 ∷ []) (0x2A ∷ 0x2A ∷ [])
    (0x2A ∷ 0x2A ∷ 0x2A ∷ 0x2A ∷ []) (0 ∷ 0 ∷ 1 ∷ 1 ∷ []) (1 ∷ 1 ∷ 2 ∷ 2 ∷ [])
    ∷ edits (starting (0x61 ∷ 0x62 ∷ []))
    (12 ∷ 0 ∷ 0 ∷ 1 ∷ 0 ∷ 12 ∷ 1 ∷ 0 ∷ 1 ∷ 0 ∷ 11 ∷ 1 ∷ 0 ∷ 2 ∷ 0 ∷ []) (0x78 ∷ [])
    (0x78 ∷ 0x78 ∷ 0x62 ∷ []) (0 ∷ 0 ∷ 1 ∷ []) (1 ∷ 1 ∷ 2 ∷ [])
    ∷ refuses (verdict (by_edits_faults limit (nest 0x31 0x32) blank (0x2A ∷ 0x2A ∷ []) 7 13)) 9
    ∷ []

unfoldable pub every : List Bool → Bool
every [] = true
every (b ∷ bs) = b && every bs

-- CLAIM: every worked note of the list is so.
abbrev pub WorkedNotes : Type 0
WorkedNotes = every worked ≡ true
