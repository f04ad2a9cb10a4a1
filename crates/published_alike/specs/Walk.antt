-- The working form: two columns compared place by place, without laying anything down.
use Rattle.std.specs.Prelude.{ℕ, ◌≡◌, Bool, true, cond, ◌&&◌, ◌||◌, List, [], ◌∷◌, eqb, length}
use Rattle.buffers.specs.Splice.{part}
use Rattle.buffers.specs.Same.{same}
use Rattle.note.specs.Notes.{before_end}
use Rattle.pattern.specs.declared.Place.{Place}
use Rattle.pattern.specs.Entries.{places_of}
use Rattle.pattern.specs.Places.{fits_at, covers_from}

abbrev pub same_part : List ℕ → List ℕ → Place → Bool
same_part xs ys p = same (part xs p.start.0 p.end.0) (part ys p.start.0 p.end.0)

-- what a place gives of two texts is the same
unfoldable pub text_alike : List ℕ → List ℕ → Place → Bool
text_alike xs ys p = cond p.matched true (same_part xs ys p)

-- and of two columns of alignments, beside a content of `contentLen` bytes
unfoldable pub column_alike : ℕ → List ℕ → List ℕ → Place → Bool
column_alike content_len xs ys p =
    cond p.matched (eqb content_len 0 || eqb (before_end xs p.end.0) (before_end ys p.end.0)) (same_part xs ys p)

unfoldable pub every_place : (Place → Bool) → List Place → Bool
every_place f [] = true
every_place f (p ∷ ps) = f p && every_place f ps

-- text, starts and ends of two notes
unfoldable pub all_alike : List ℕ → List ℕ → List ℕ → List ℕ → List ℕ → List ℕ → ℕ → List Place → Bool
all_alike t xs ys u vs ws content_len ps =
    every_place (text_alike t u) ps && every_place (column_alike content_len xs vs) ps
    && every_place (column_alike content_len ys ws) ps

-- a place that fits a text, of whose bytes the two lists have one each
pub record Lying (xs ys : List ℕ) (p : Place) : Type 0 where
  pub text : List ℕ
  pub from : ℕ
  pub fits : fits_at text from p ≡ true
  pub one : length xs ≡ length text
  pub other : length ys ≡ length text

-- places that cover such a text
pub record BothCovered (xs ys list : List ℕ) : Type 0 where
  pub text : List ℕ
  pub covered : covers_from text 0 (places_of list) ≡ true
  pub one : length xs ≡ length text
  pub other : length ys ≡ length text
