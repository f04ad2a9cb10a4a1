-- RULES 8: `clear`, `map` and `filter` in plain words, beside their definitions by commands.
use Rattle.std.specs.Prelude.{ℕ, suc, ◌-◌, ◌≡◌, Bool, true, false, cond, List, [], ◌∷◌, ◌++◌, ltb, eqb, length, take, drop}
use Rattle.utf8.specs.Formed.{boundary}
use Rattle.utf8.specs.Chars.{chars}
use Rattle.note.specs.Notes.{Note, lent, Sound}
use Rattle.script.specs.declared.Command.{Command}
use Rattle.code_point_blocks.specs.Codes.{text_of}
use Rattle.map_columns.specs.Spreading.{of_chars, spread}
use Rattle.utf8.specs.Formed.{char_range}
use Rattle.edit_steps.specs.Edits.{starved, Edit, first_position, transformed}
use Rattle.transform.specs.Transforming.{range_edit}
use Rattle.edits.specs.Characters.{codes_of}
use Rattle.edits.specs.Whole.{whole_range, clear_edit, map_edit, any_kept, filter_edit}

-- an edit that neither 5 nor 7 refuses, and the note that it makes
pub record Makes (n : Note) (e : Edit) (made : Note) : Type 0 where
  pub lies : char_range n.normalized e.from e.to ≡ true
  pub feeds : starved n.normalized e.to (first_position n.normalized e) e.commands ≡ false
  pub leaves : transformed n e ≡ made

-- an edit that 5 does not refuse and 7 refuses where `short` says so, nowhere else, and the note that it makes there
pub record MakesUnless (n : Note) (e : Edit) (short : Bool) (made : Note) : Type 0 where
  pub lies : char_range n.normalized e.from e.to ≡ true
  pub exhausts : starved n.normalized e.to (first_position n.normalized e) e.commands ≡ short
  pub leaves : short ≡ false → transformed n e ≡ made

-- CLAIM: an edit of the whole transcript is never refused for its range (5).
abbrev pub WholePlaced : Type 0
WholePlaced =
    (n : Note) (skip : ℕ) (cs : List Command) → Sound n
    → char_range n.normalized (range_edit n (whole_range n) skip cs).from (range_edit n (whole_range n) skip cs).to
    ≡ true

-- how many alignments, one after the other from the first on, have no width
unfoldable pub widthless : List ℕ → List ℕ → ℕ
widthless [] ends = 0
widthless (s ∷ starts) [] = 0
widthless (s ∷ starts) (e ∷ ends) = cond (eqb s e) (suc (widthless starts ends)) 0

-- THE HEAD, which an edit of the whole transcript leaves: the cleaned text before the first alignment that has width,
-- all of it where none has; how many bytes it has
abbrev pub head_bytes : Note → ℕ
head_bytes n = widthless n.starts n.ends

-- CLAIM: the head ends between two characters.
abbrev pub HeadWhole : Type 0
HeadWhole = (n : Note) → Sound n → boundary n.normalized (head_bytes n) ≡ true

-- what follows holds for a head of any length h that ends between two characters; how many characters it has
unfoldable pub head_chars : ℕ → Note → ℕ
head_chars h n = chars (take h n.normalized)

-- CLEAR: the head stays, with its alignments
unfoldable pub cleared : ℕ → Note → Note
cleared h n = lent n.original (take h n.normalized) (take h n.starts) (take h n.ends) n.original_shift

-- CLAIM: so does `clear` leave every sound note; it is never refused for what it does (5, 7).
abbrev pub ClearedClosed : Type 0
ClearedClosed = (n : Note) → Sound n → Makes n (clear_edit n) (cleared (head_bytes n) n)

-- MAP: the code points, each with the alignment of the character that it replaces
unfoldable pub mapped : Note → List ℕ → Note
mapped n codes =
    lent n.original (text_of codes) (spread codes (of_chars n.normalized n.starts))
    (spread codes (of_chars n.normalized n.ends)) n.original_shift

-- CLAIM: so does `map` leave every sound note that has no head; one that has a head it refuses (7).
abbrev pub MappedClosed : Type 0
MappedClosed =
    (n : Note) (codes : List ℕ) → Sound n → length codes ≡ chars n.normalized
    → MakesUnless n (map_edit n codes) (ltb 0 (head_chars (head_bytes n) n)) (mapped n codes)

-- the elements whose flag is not 0
unfoldable pub sifted : List ℕ → List ℕ → List ℕ
sifted [] xs = []
sifted (k ∷ ks) [] = []
sifted (k ∷ ks) (x ∷ xs) = cond (eqb k 0) (sifted ks xs) (x ∷ sifted ks xs)

-- FILTER, with any code points in the place of the characters: the head stays, and after it come the kept ones, each
-- with the alignment of the character that is as many characters further as the head has
unfoldable pub sieved : ℕ → Note → List ℕ → List ℕ → Note
sieved h n codes flags =
    lent n.original (take h n.normalized ++ text_of (sifted flags codes))
    (take h n.starts
    ++ spread (sifted flags codes) (sifted flags (drop (head_chars h n) (of_chars n.normalized n.starts))))
    (take h n.ends
    ++ spread (sifted flags codes) (sifted flags (drop (head_chars h n) (of_chars n.normalized n.ends))))
    n.original_shift

-- one of the last characters, as many as the head has, is kept
unfoldable pub tail_kept : ℕ → Note → List ℕ → Bool
tail_kept h n flags = any_kept (drop (chars n.normalized - head_chars h n) flags)

-- CLAIM: so does `filter` leave every sound note; but it refuses where such a character is kept (7).
abbrev pub FilteredClosed : Type 0
FilteredClosed =
    (n : Note) (flags : List ℕ) → Sound n → length flags ≡ chars n.normalized
    → MakesUnless n (filter_edit n flags) (tail_kept (head_bytes n) n flags)
    (sieved (head_bytes n) n (codes_of n.normalized) flags)
