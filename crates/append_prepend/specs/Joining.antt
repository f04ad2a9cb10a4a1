-- RULES 8: `append` and `prepend` in plain words, beside their definitions by commands.
use Rattle.std.specs.Prelude.{ℕ, ◌+◌, ◌≡◌, true, cond, List, ◌++◌, eqb, length, get_or, drop, replicate}
use Rattle.utf8.specs.Formed.{announced, well_formed}
use Rattle.note.specs.Notes.{Note, lent, before_end, Sound}
use Rattle.edits.specs.Whole.{append_edit, prepend_edit}
use Rattle.edits.specs.Plain.{Makes}

-- the string after the text; each of its bytes carries the alignment of the text's last byte, (0,0) where there is
-- none
unfoldable pub appended : Note → List ℕ → Note
appended n string =
    lent n.original (n.normalized ++ string)
    (n.starts ++ replicate (length string) (before_end n.starts (length n.normalized)))
    (n.ends ++ replicate (length string) (before_end n.ends (length n.normalized)))
    n.original_shift

-- CLAIM: so does `append` leave every sound note.
abbrev pub AppendedClosed : Type 0
AppendedClosed =
    (n : Note) (string : List ℕ) → Sound n → well_formed string ≡ true
    → Makes n (append_edit n string) (appended n string)

-- what the text's first character carries of a column then: its own, but 0 where the string is empty
unfoldable pub front_of : List ℕ → List ℕ → ℕ
front_of string xs = cond (eqb (length string) 0) 0 (get_or xs 0 0)

-- the string before the text: its bytes carry the alignment of the text's first character, which that keeps; but before
-- an empty string that character is carried to (0,0). An empty text stays empty.
unfoldable pub prepended : Note → List ℕ → Note
prepended n string =
    cond (eqb (length n.normalized) 0) n
    (lent n.original (string ++ n.normalized)
    (replicate (length string + announced (get_or n.normalized 0 0)) (front_of string n.starts)
    ++ drop (announced (get_or n.normalized 0 0)) n.starts)
    (replicate (length string + announced (get_or n.normalized 0 0)) (front_of string n.ends)
    ++ drop (announced (get_or n.normalized 0 0)) n.ends)
    n.original_shift)

-- CLAIM: so does `prepend` leave every sound note.
abbrev pub PrependedClosed : Type 0
PrependedClosed =
    (n : Note) (string : List ℕ) → Sound n → well_formed string ≡ true
    → Makes n (prepend_edit n string) (prepended n string)
