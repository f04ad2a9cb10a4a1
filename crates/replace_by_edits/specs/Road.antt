-- RULES 16: replacing by edits (Rust: the call that a comment in `replace` names). Each matched place
-- is edited as a range of the cleaned text, by characters that are added after all of the place's own are skipped.
use Rattle.std.specs.Prelude.{ℕ, ◌+◌, ◌-◌, ◌≤◌, ◌≡◌, true, cond, List, [], ◌∷◌, ◌++◌, length}
use Rattle.buffers.specs.Splice.{part}
use Rattle.utf8.specs.Formed.{well_formed}
use Rattle.utf8.specs.Chars.{chars}
use Rattle.note.specs.Notes.{Note, Sound}
use Rattle.pattern.specs.declared.Place.{Place}
use Rattle.pattern.specs.Places.{covers_from}
use Rattle.edit_steps.specs.Edits.{Edit, edit, transformed}
use Rattle.edits.specs.Characters.{codes_of}
use Rattle.edits.specs.Whole.{all_adding}
use Rattle.edits.specs.Plain.{Makes}
use Rattle.replace.specs.Replacing.{replaced, resulting}

-- the edit of a range: as many characters are skipped as it has, and the content's are added
unfoldable pub place_edit : List ℕ → ℕ → ℕ → List ℕ → Edit
place_edit content from to text = edit from to (chars (part text from to)) (all_adding (codes_of content))

-- a note with that edit made
abbrev pub edited_place : List ℕ → ℕ → ℕ → Note → Note
edited_place content from to n = transformed n (place_edit content from to n.normalized)

-- LAST TO FIRST: a matched place is edited once all after it are
unfoldable pub road_back : List Place → List ℕ → Note → Note
road_back [] content n = n
road_back (p ∷ ps) content n =
    cond p.matched (edited_place content p.start.0 p.end.0 (road_back ps content n)) (road_back ps content n)

-- how many bytes matched places take away, and how many a content of `contentLen` bytes adds in their place
unfoldable pub taken_bytes : List Place → ℕ
taken_bytes [] = 0
taken_bytes (p ∷ ps) = cond p.matched (p.end.0 - p.start.0) 0 + taken_bytes ps

unfoldable pub added_bytes : ℕ → List Place → ℕ
added_bytes content_len [] = 0
added_bytes content_len (p ∷ ps) = cond p.matched content_len 0 + added_bytes content_len ps

-- where a position is once the places before it are edited
abbrev pub moved_by : ℕ → List Place → ℕ → ℕ
moved_by content_len before at = at + added_bytes content_len before - taken_bytes before

-- a matched place edited where it is then; an unmatched one leaves the note
unfoldable pub edited_next : List ℕ → List Place → Place → Note → Note
edited_next content before p n =
    cond p.matched
    (edited_place content (moved_by (length content) before p.start.0) (moved_by (length content) before p.end.0) n)
    n

-- FIRST TO LAST: the places after those of `before`, which are edited already
unfoldable pub road_after : List Place → List Place → List ℕ → Note → Note
road_after before [] content n = n
road_after before (p ∷ ps) content n = road_after (before ++ (p ∷ [])) ps content (edited_next content before p n)

abbrev pub road_on : List Place → List ℕ → Note → Note
road_on ps content n = road_after [] ps content n

-- a sound note, a content that is UTF-8, and places that cover the text
pub record Given (n : Note) (content : List ℕ) (ps : List Place) : Type 0 where
  pub sound : Sound n
  pub formed : well_formed content ≡ true
  pub covered : covers_from n.normalized 0 ps ≡ true

-- CLAIM: what was taken before a place is no more than the place's start, so that moving it subtracts exactly.
abbrev pub TakenWithin : Type 0
TakenWithin =
    (n : Note) (content : List ℕ) (before : List Place) (p : Place) (ps : List Place)
    → Given n content (before ++ (p ∷ ps)) → taken_bytes before ≤ p.start.0

-- an edit of a sound note that is refused neither for its range (5) nor for want of characters (7), and that leaves a
-- sound note
pub record RoadEdit (n : Note) (e : Edit) (made : Note) : Type 0 where
  pub of_sound : Sound n
  pub makes : Makes n e made
  pub leaves_sound : Sound made

-- CLAIM: each edit of either road is so, whichever matched place it is of.
abbrev pub RoadEdits : Type 0
RoadEdits =
    (n : Note) (content : List ℕ) (before : List Place) (p : Place) (ps : List Place)
    → Given n content (before ++ (p ∷ ps)) → p.matched ≡ true
    → RoadEdit (road_back ps content n)
    (place_edit content p.start.0 p.end.0 (road_back ps content n).normalized)
    (road_back (p ∷ ps) content n)
    × RoadEdit (road_on before content n)
    (place_edit content (moved_by (length content) before p.start.0) (moved_by (length content) before p.end.0)
    (road_on before content n).normalized)
    (road_on (before ++ (p ∷ [])) content n)

-- CLAIM: from the last place to the first, the road leaves the note that replacing leaves.
abbrev pub RoadBackReplaces : Type 0
RoadBackReplaces =
    (n : Note) (content : List ℕ) (ps : List Place) → Given n content ps
    → road_back ps content n ≡ resulting n (replaced ps content n)

-- CLAIM: so it does from the first place to the last.
abbrev pub RoadOnIsReplaced : Type 0
RoadOnIsReplaced =
    (n : Note) (content : List ℕ) (ps : List Place) → Given n content ps
    → road_on ps content n ≡ resulting n (replaced ps content n)

-- CLAIM: no text in between has more bytes than the cleaned text and the result together: neither where the last places
-- are edited nor where the first ones are.
abbrev pub RoadBounded : Type 0
RoadBounded =
    (n : Note) (content : List ℕ) (before ps : List Place) → Given n content (before ++ ps)
    → (length (road_back ps content n).normalized
    ≤ length n.normalized + length (replaced (before ++ ps) content n).text)
    × (length (road_on before content n).normalized
    ≤ length n.normalized + length (replaced (before ++ ps) content n).text)
