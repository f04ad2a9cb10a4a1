-- Laws of both roads on one column: the text by the content, or starts or ends by what the content carries. `fill` gives
-- what is put in the place of a range, from what is before the range's end.
use Prim.Native.Nat.{ℕ, ◌+◌, ◌-◌, ◌≤◌}
use mathlib.Core.Path.{◌≡◌, ◌∙◌, ap, refl, sym}
use mathlib.Core.Bool.{true, false, cond}
use mathlib.Core.List.{List, [], ◌∷◌, ◌++◌, append_assoc, append-nil}
use native.Mathlib.Omega.{arith}
use lib.ListN.{length, take, length-append, get_or-append}
use lib.Seq.{take-length, take-append-le, get_or-append-add, drop_at, take-take, get_or-take, length-take-le}
use Rattle.buffers.specs.Splice.{part}
use Rattle.buffers.proofs.Cases.{true-or-false, le-or-lt}
use Rattle.buffers.proofs.Splice.{length_part, part-index}
use Rattle.note.specs.Notes.{before_end}
use Rattle.note.proofs.BeforeEnd.{before-none, before-some}
use Rattle.edits.proofs.Head.{none_of}
use Rattle.pattern.specs.declared.Place.{Place}
use Rattle.pattern.specs.Places.{covers_from}
use Rattle.pattern.proofs.Places.{Span, covers-span, covers-rest}
use Rattle.replace.specs.Replacing.{piece, laid}
use Rattle.replace.proofs.Laid.{piece-matched, piece-unmatched}
use Rattle.replace_by_edits.specs.Road.{taken_bytes, added_bytes}
use Rattle.replace_by_edits.proofs.Parts.{take-parts}
use Rattle.replace_by_edits.proofs.PlaceEdit.{swapped}

-- what is before an end, in a list that begins alike
pub before-front : (xs ys : List ℕ) (e : ℕ) → e ≤ length xs → before_end (take e xs ++ ys) e ≡ before_end xs e
before-front xs ys e h =
    le-or-lt e 0
    (λ none. before-none _ e (omega arith) ∙ sym (before-none xs e (omega arith)))
    (λ some.
    let long : length (take e xs) ≡ e = length-take-le e xs h in
    before-some _ e some ∙ get_or-append (take e xs) ys 0 (e - 1) (omega arith) ∙ get_or-take e xs (e - 1) 0 (omega arith) ∙ sym (before-some xs e some))

pub before-seam : (xs ys : List ℕ) → before_end (xs ++ ys) (length xs) ≡ before_end xs (length xs)
before-seam xs ys = rw (take-length xs) at (before-front xs ys (length xs) (omega arith))

-- places one after the other are laid one after the other
pub laid-append : (f : ℕ → List ℕ) (ps qs : List Place) (xs : List ℕ) → laid f (ps ++ qs) xs ≡ laid f ps xs ++ laid f qs xs
unfolding laid
laid-append f [] qs xs = refl
laid-append f (p ∷ ps) qs xs = rw (laid-append f ps qs xs) (sym (append_assoc (piece f p xs) (laid f ps xs) (laid f qs xs)))

module _ (fill : ℕ → List ℕ) (s xs : List ℕ) (long : length xs ≡ length s) where
  abbrev pub laid_by : List Place → List ℕ
  laid_by ps = laid (λ end. fill (before_end xs end)) ps xs

  -- FROM THE LAST: the column before `at`, and what the places from there on give
  module _ (at : ℕ) (p : Place) (ps : List Place) (span : Span s at p) where
    pub back-unmatched : p.matched ≡ false → take p.end.0 xs ++ laid_by ps ≡ take at xs ++ laid_by (p ∷ ps)
    unfolding laid
    back-unmatched u =
        rw (piece-unmatched (λ end. fill (before_end xs end)) p xs u, span.from, take-parts xs at p.end.0 span.onward)
        (append_assoc (take at xs) (part xs at p.end.0) (laid_by ps))

    pub back-matched : p.matched ≡ true → swapped fill p.start.0 p.end.0 (take p.end.0 xs ++ laid_by ps) ≡ take at xs ++ laid_by (p ∷ ps)
    unfolding laid swapped
    back-matched t =
        let e : ℕ = p.end.0 in
        let inside : e ≤ length xs = omega (arith, span.inside) in
        let front : length (take e xs) ≡ e = length-take-le e xs inside in
        rw (
          piece-matched (λ end. fill (before_end xs end)) p xs t,
          span.from,
          before-front xs (laid_by ps) e inside,
          drop_at (take e xs) (laid_by ps) e front,
          take-append-le at (take e xs) (laid_by ps) (omega (arith, span.onward)),
          take-take at e xs span.onward,
        )

-- where places end that begin at `at`
unfoldable pub end_of : ℕ → List Place → ℕ
end_of at [] = at
end_of at (p ∷ ps) = end_of p.end.0 ps

pub end-append : (at : ℕ) (ps : List Place) (p : Place) → end_of at (ps ++ (p ∷ [])) ≡ p.end.0
unfolding end_of
end-append at [] p = refl
end-append at (q ∷ ps) p = end-append q.end.0 ps p

pub covers-after : (s : List ℕ) (at : ℕ) (ps qs : List Place) → covers_from s at (ps ++ qs) ≡ true → covers_from s (end_of at ps) qs ≡ true
unfolding end_of
covers-after s at [] qs c = c
covers-after s at (p ∷ ps) qs c = covers-after s p.end.0 ps qs (covers-rest s at p (ps ++ qs) c)

-- what is taken, beside where the places end
module _ (s : List ℕ) where
  pub taken-least : (at : ℕ) (ps qs : List Place) → covers_from s at (ps ++ qs) ≡ true → taken_bytes ps + at ≤ end_of at ps
  unfolding end_of taken_bytes
  taken-least at [] qs c = omega arith
  taken-least at (p ∷ ps) qs c =
      let span : Span s at p = covers-span s at p (ps ++ qs) c in
      let rest = taken-least p.end.0 ps qs (covers-rest s at p (ps ++ qs) c) in
      true-or-false p.matched
      (λ t. rw t (omega (arith, span.from, span.onward, rest)))
      (λ u. rw u (omega (arith, span.onward, rest)))

module _ (fill : ℕ → List ℕ) (wide : ℕ) (each : (v : ℕ) → length (fill v) ≡ wide) (s xs : List ℕ) (long : length xs ≡ length s) where
  abbrev laid_here : List Place → List ℕ
  laid_here ps = laid (λ end. fill (before_end xs end)) ps xs

  -- how many elements places give that begin at `at`
  pub length_moved : (at : ℕ) (ps qs : List Place) → covers_from s at (ps ++ qs) ≡ true → length (laid_here ps) + taken_bytes ps + at ≡ end_of at ps + added_bytes wide ps
  unfolding end_of taken_bytes added_bytes laid
  length_moved at [] qs c = omega arith
  length_moved at (p ∷ ps) qs c =
      let span : Span s at p = covers-span s at p (ps ++ qs) c in
      let rest = length_moved p.end.0 ps qs (covers-rest s at p (ps ++ qs) c) in
      let both = length-append (piece (λ end. fill (before_end xs end)) p xs) (laid_here ps) in
      true-or-false p.matched
      (λ t.
      let one = ap length (piece-matched (λ end. fill (before_end xs end)) p xs t) ∙ each (before_end xs p.end.0) in
      let taken : cond p.matched (p.end.0 - p.start.0) 0 ≡ p.end.0 - p.start.0 = rw t in
      let added : cond p.matched wide 0 ≡ wide = rw t in
      omega (arith, span.from, span.onward, rest, both, one, taken, added))
      (λ u.
      let taken : cond p.matched (p.end.0 - p.start.0) 0 ≡ 0 = rw u in
      let added : cond p.matched wide 0 ≡ 0 = rw u in
      let one = ap length (piece-unmatched (λ end. fill (before_end xs end)) p xs u) ∙ length_part xs p.start.0 p.end.0 (omega (arith, span.inside)) in
      omega (arith, span.from, span.onward, rest, both, one, taken, added))

  -- what is kept after a front ends as it ended in its column
  pub kept-alike : (front : List ℕ) (a e : ℕ) → a ≤ e → e ≤ length xs → fill (before_end front (length front)) ≡ fill (before_end xs a) → fill (before_end (front ++ part xs a e) (length (front ++ part xs a e))) ≡ fill (before_end xs e)
  kept-alike front a e h inside same =
      let size : length (part xs a e) ≡ e - a = length_part xs a e inside in
      le-or-lt e a
      (λ none.
      let here : a ≡ e = omega arith in
      let empty : part xs a e ≡ [] = none_of (part xs a e) (omega arith) in
      rw (empty, append-nil front) (same ∙ rw here))
      (λ some.
      let both : length (front ++ part xs a e) ≡ length front + (e - a) = length-append front (part xs a e) ∙ rw size in
      let last : length front + (e - a) - 1 ≡ length front + (e - a - 1) = omega arith in
      let there : a + (e - a - 1) ≡ e - 1 = omega arith in
      ap fill
      (rw (
        both,
        before-some (front ++ part xs a e) (length front + (e - a)) (omega arith),
        before-some xs e (omega arith),
        last,
        get_or-append-add front (part xs a e) (e - a - 1) 0,
        part-index xs a e (e - a - 1) (omega arith),
        there,
      )))

  -- FROM THE FIRST: what is put after the places that are edited is what is put after them in the column; `again` says that
  -- what is put after a fill is that fill once more
  module _ (again : (front : List ℕ) (v : ℕ) → fill (before_end (front ++ fill v) (length (front ++ fill v))) ≡ fill v) where
    pub fills_alike : (front : List ℕ) (at : ℕ) (ps qs : List Place) → covers_from s at (ps ++ qs) ≡ true → fill (before_end front (length front)) ≡ fill (before_end xs at)
        → fill (before_end (front ++ laid_here ps) (length (front ++ laid_here ps))) ≡ fill (before_end xs (end_of at ps))
    unfolding end_of laid
    fills_alike front at [] qs c e = rw (append-nil front) e
    fills_alike front at (p ∷ ps) qs c e =
        let span : Span s at p = covers-span s at p (ps ++ qs) c in
        let first : List ℕ = piece (λ end. fill (before_end xs end)) p xs in
        let here : fill (before_end (front ++ first) (length (front ++ first))) ≡ fill (before_end xs p.end.0) =
        true-or-false p.matched
        (λ t. rw (piece-matched (λ end. fill (before_end xs end)) p xs t) (again front (before_end xs p.end.0)))
        (λ u. rw (piece-unmatched (λ end. fill (before_end xs end)) p xs u, span.from) (kept-alike front at p.end.0 span.onward (omega (arith, span.inside)) e)) in
        rw (append_assoc front first (laid_here ps)) at (fills_alike (front ++ first) p.end.0 ps qs (covers-rest s at p (ps ++ qs) c) here)
