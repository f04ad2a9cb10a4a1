-- RULES 1: the note, its limits, and when it is sound.
use Rattle.std.specs.Prelude.{ℕ, zero, suc, ◌+◌, ◌-◌, ◌≡◌, Bool, true, cond, ◌&&◌, ◌||◌, not, List, leb, eqb, length, get_or}
use Rattle.buffers.specs.Every.{every_below}
use Rattle.note.specs.declared.NormalizedString.{NormalizedString}
use Rattle.utf8.specs.Formed.{well_formed, continues, boundary}

-- transcript, cleaned text, one alignment (start, end) for each cleaned byte in two columns, shift; the Rust's names
pub record Note : Type 0 where
  pub original : List ℕ
  pub normalized : List ℕ
  pub starts : List ℕ
  pub ends : List ℕ
  pub original_shift : ℕ

-- the note that a call is given in five arguments
abbrev pub lent : List ℕ → List ℕ → List ℕ → List ℕ → ℕ → Note
lent original normalized starts ends shift =
    record { original = original; normalized = normalized; starts = starts; ends = ends; original_shift = shift }

-- the note that is passed to a call
abbrev pub passed : NormalizedString → Note
passed n = lent n.original.now n.normalized.now n.starts.now n.ends.now n.original_shift

-- the most bytes that a text has, and that a shift and a transcript have together; `LIMIT` in the code
abbrev pub limit : ℕ
limit = 65535

-- both texts, and the shift and the transcript together, are within a limit
unfoldable pub fits : ℕ → Note → Bool
fits most n =
    leb (length n.original) most && leb (length n.normalized) most
    && leb (n.original_shift + length n.original) most

-- a start and an end for each cleaned byte
unfoldable pub paired : Note → Bool
paired n = eqb (length n.starts) (length n.normalized) && eqb (length n.ends) (length n.normalized)

-- both texts are UTF-8
unfoldable pub texts_formed : Note → Bool
texts_formed n = well_formed n.original && well_formed n.normalized

abbrev pub start_at : Note → ℕ → ℕ
start_at n i = get_or n.starts i 0

abbrev pub end_at : Note → ℕ → ℕ
end_at n i = get_or n.ends i 0

-- an alignment is not reversed, and lies inside the transcript
unfoldable pub inside : Note → ℕ → Bool
inside n i = leb (start_at n i) (end_at n i) && leb (end_at n i) (length n.original)

-- neither of its ends cuts a character of the transcript
unfoldable pub on_boundaries : Note → ℕ → Bool
on_boundaries n i = boundary n.original (start_at n i) && boundary n.original (end_at n i)

-- a byte that continues a cleaned character has the alignment of the byte before it
unfoldable pub shared : Note → ℕ → Bool
shared n zero = true
shared n (suc i) =
    not (continues (get_or n.normalized (suc i) 0))
    || (eqb (start_at n i) (start_at n (suc i)) && eqb (end_at n i) (end_at n (suc i)))

-- from byte to byte neither column falls
unfoldable pub forward : Note → ℕ → Bool
forward n zero = true
forward n (suc i) = leb (start_at n i) (start_at n (suc i)) && leb (end_at n i) (end_at n (suc i))

-- what soundness asks of the alignments
unfoldable pub aligned : Note → Bool
aligned n =
    every_below (length n.normalized) (inside n) && every_below (length n.normalized) (on_boundaries n)
    && every_below (length n.normalized) (shared n) && every_below (length n.normalized) (forward n)

pub record Sound (n : Note) : Type 0 where
  pub has_pairs : paired n ≡ true
  pub has_texts : texts_formed n ≡ true
  pub has_alignments : aligned n ≡ true

-- what a new character at a place that ends at `end` carries of a column: the number of the byte before that end, 0 at
-- the text's beginning (RULES 10: what a filler carries)
unfoldable pub before_end : List ℕ → ℕ → ℕ
before_end column end = cond (eqb end 0) 0 (get_or column (end - 1) 0)
