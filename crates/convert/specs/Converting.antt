-- RULES 4 (Rust: `convert_offsets`, `expand_alignments`): a range of one text as a range of the other.
-- The definitions go over the two columns of alignments; what the texts hold plays no part in them.
use Rattle.std.specs.Prelude.{ℕ, ◌+◌, ◌-◌, Bool, true, false, cond, ◌&&◌, not, List, [], ◌∷◌, leb, ltb, eqb, length, get_or, Result, Ok, Err}
use Rattle.note.specs.declared.OriginalByte.{OriginalByte}
use Rattle.note.specs.declared.NormalizedByte.{NormalizedByte}
use Rattle.note.specs.declared.Refusal.TheVariants.{Missing}
use Rattle.note.specs.Refusals.{number_of, none, meets, also, verdict, unless_refused}
use Rattle.note.specs.Notes.{Note}
use Rattle.note.specs.Faults.{note_faults}
use Rattle.convert.specs.declared.OffsetReferential.{OffsetReferential}
use Rattle.convert.specs.declared.OffsetReferential.TheVariants.{
  Original as OfOriginal,
  Normalized as OfNormalized,
}
use Rattle.convert.specs.declared.Range.{Range}
use Rattle.convert.specs.declared.Range.TheVariants.{Original, Normalized}
use Rattle.convert.specs.declared.Places.{Places}
use Rattle.convert.specs.declared.Places.TheVariants.{Neither, Last, Both}
use Rattle.note.specs.declared.Refusal.{Refusal}

-- a range by its numbers, and by the text that they are of
abbrev pub in_original : ℕ → ℕ → Range
in_original a b = Original (record { 0 = a }) (record { 0 = b })

abbrev pub in_normalized : ℕ → ℕ → Range
in_normalized a b = Normalized (record { 0 = a }) (record { 0 = b })

unfoldable pub range_of : OffsetReferential → ℕ → ℕ → Range
range_of OfOriginal a b = in_original a b
range_of OfNormalized a b = in_normalized a b

abbrev pub start_of : Range → ℕ
start_of (Original a b) = a.0
start_of (Normalized a b) = a.0

abbrev pub end_of : Range → ℕ
end_of (Original a b) = b.0
end_of (Normalized a b) = b.0

-- an answer in three numbers: 0, start and end, or the refusal's number, 0 and 0
abbrev pub number_in : Result Range Refusal → ℕ
number_in (Ok range) = 0
number_in (Err k) = number_of k

abbrev pub start_in : Result Range Refusal → ℕ
start_in (Ok range) = start_of range
start_in (Err k) = 0

abbrev pub end_in : Result Range Refusal → ℕ
end_in (Ok range) = end_of range
end_in (Err k) = 0

-- RULES 4.4: the cleaned bytes a..b in the transcript, from the first one's start to the last one's end
unfoldable pub expanded : List ℕ → List ℕ → ℕ → ℕ → Result Range Refusal
expanded starts ends a b =
    cond (leb b (length ends)) (Ok (in_original (get_or starts a 0) (get_or ends (b - 1) 0))) (Err Missing)

-- RULES 4.5: an alignment s..e at which a first place can be: not before the range's start, and not empty
abbrev pub can_be_first : ℕ → ℕ → ℕ → Bool
can_be_first from s e = leb from s && not (eqb s e)

-- the byte at i is walked, with the alignment s..e: where no first place is noted yet, and after any places
unfoldable pub first_places : ℕ → ℕ → ℕ → ℕ → Places
first_places from i s e =
    cond (can_be_first from s e) (Both (record { 0 = i }) (record { 0 = i + 1 })) (Last (record { 0 = i + 1 }))

unfoldable pub places_after : ℕ → ℕ → ℕ → ℕ → Places → Places
places_after from i s e (Both first last) = Both first (record { 0 = i + 1 })
places_after from i s e (Last last) = first_places from i s e
places_after from i s e Neither = first_places from i s e

-- the walk from the byte at i on: over at the first alignment that ends past the range
unfoldable pub walk_from : ℕ → List ℕ → List ℕ → ℕ → ℕ → Places → Places
walk_from i [] ends from to found = found
walk_from i (s ∷ starts) [] from to found = found
walk_from i (s ∷ starts) (e ∷ ends) from to found =
    cond (leb e to) (walk_from (i + 1) starts ends from to (places_after from i s e found)) found

unfoldable pub walked : List ℕ → List ℕ → ℕ → ℕ → Places
walked starts ends from to = walk_from 0 starts ends from to Neither

-- RULES 4.6: what the places answer
abbrev pub spanned : Places → Result Range Refusal
spanned (Both first last) = Ok (Normalized first last)
spanned (Last last) = Ok (Normalized last last)
spanned Neither = Err Missing

-- RULES 4.2, 4.3: an empty range is the same numbers of the other text, a reversed one has no answer
unfoldable pub to_original : List ℕ → List ℕ → NormalizedByte → NormalizedByte → Result Range Refusal
to_original starts ends a b =
    cond (eqb a.0 b.0) (Ok (in_original a.0 b.0))
    (cond (ltb b.0 a.0) (Err Missing)
    (expanded starts ends a.0 b.0))

unfoldable pub to_normalized : List ℕ → List ℕ → OriginalByte → OriginalByte → Result Range Refusal
to_normalized starts ends a b =
    cond (eqb a.0 b.0) (Ok (in_normalized a.0 b.0))
    (cond (ltb b.0 a.0) (Err Missing)
    (spanned (walked starts ends a.0 b.0)))

unfoldable pub converted : List ℕ → List ℕ → Range → Result Range Refusal
converted starts ends (Normalized a b) = to_original starts ends a b
converted starts ends (Original a b) = to_normalized starts ends a b

-- a range in the cleaned text, and one in the transcript: converted where it is of the other
unfoldable pub as_normalized : List ℕ → List ℕ → Range → Result Range Refusal
as_normalized starts ends (Original a b) = converted starts ends (Original a b)
as_normalized starts ends (Normalized a b) = Ok (Normalized a b)

unfoldable pub as_original : List ℕ → List ℕ → Range → Result Range Refusal
as_original starts ends (Original a b) = Ok (Original a b)
as_original starts ends (Normalized a b) = converted starts ends (Normalized a b)

-- RULES 4.1: what a call says that is passed a note and answers a range: the note's refusals, then `Missing`
abbrev pub missing : Result Range Refusal → Bool
missing (Ok range) = false
missing (Err k) = true

unfoldable pub answered : ℕ → Note → Result Range Refusal → Result Range Refusal
answered most n answer =
    unless_refused Err (verdict (also (note_faults most n) (meets Missing (missing answer) none))) answer

unfoldable pub convert_offsets : ℕ → Note → Range → Result Range Refusal
convert_offsets most n range = answered most n (converted n.starts n.ends range)
