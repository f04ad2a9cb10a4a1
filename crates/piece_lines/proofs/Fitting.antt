-- Laws of the pieces of places that cover a text: each lies between boundaries, and they have no more bytes than the text.
use Prim.Native.Nat.{ℕ, zero, suc, ◌+◌, ◌≤◌, ◌<◌}
use mathlib.Core.Path.{◌≡◌, ◌∙◌, sym}
use mathlib.Core.Bool.{true}
use mathlib.Core.List.{List, [], ◌∷◌}
use native.Mathlib.Omega.{arith}
use lib.ListN.{length, get_or, length-map}
use Rattle.buffers.proofs.Cases.{true-or-false}
use Rattle.utf8.specs.Formed.{boundary}
use Rattle.utf8.proofs.Boundaries.{boundary-most}
use Rattle.pattern.specs.declared.Place.{Place}
use Rattle.pattern.specs.Places.{fits_at, covers_from}
use Rattle.behaviors.specs.declared.SplitDelimiterBehavior.{SplitDelimiterBehavior}
use Rattle.behaviors.specs.declared.EmptyPieces.{EmptyPieces}
use Rattle.behaviors.specs.Splits.{is_piece, remaining, splits, pieces}
use Rattle.behaviors.specs.Joining.{starts_of, ends_of}
use Rattle.behaviors.specs.Runs.{total_length}
use Rattle.pattern.proofs.Places.{Span, fits-span, covers-first, covers-rest, covers-none}
use Rattle.behaviors.proofs.Gathered.{splits-cover}
use Rattle.piece_lines.specs.Spans.{LineSpans}

-- a place of a text, from boundary to boundary
pub record Lies (text : List ℕ) (p : Place) : Type 0 where
  pub from : boundary text p.start.0 ≡ true
  pub to : boundary text p.end.0 ≡ true
  pub onward : p.start.0 ≤ p.end.0

abbrev pub AllLie : List ℕ → List Place → Type 0
AllLie text [] = Unit {0}
AllLie text (p ∷ ps) = Lies text p × AllLie text ps

-- the first of places that cover a text
fits-lies : (text : List ℕ) (at : ℕ) (p : Place) → boundary text at ≡ true → fits_at text at p ≡ true → (p.start.0 ≡ at) × Lies text p
fits-lies text at p h e =
    let s : Span text at p = fits-span text at p e in
    (s.from, record { from = rw s.from h; to = s.stands; onward = omega (arith, s.from, s.onward) })

pub remaining-lie : (text : List ℕ) (at : ℕ) (empty : EmptyPieces) (ps : List Place) → boundary text at ≡ true → covers_from text at ps ≡ true → AllLie text (remaining empty ps) × (at + total_length (remaining empty ps) ≤ length text)
unfolding remaining total_length
remaining-lie text at empty [] h e = (tt, omega (arith, covers-none text at e))
remaining-lie text at empty (p ∷ ps) h e =
    let first = fits-lies text at p h (covers-first text at p ps e) in
    let rest = remaining-lie text p.end.0 empty ps first.1.to (covers-rest text at p ps e) in
    true-or-false (is_piece empty p)
    (λ t. rw t ((first.1, rest.0), omega (arith, first.0, first.1.onward, rest.1)))
    (λ f. rw f (rest.0, omega (arith, first.0, first.1.onward, rest.1)))

-- all pieces
module _ (text : List ℕ) (behavior : SplitDelimiterBehavior) (empty : EmptyPieces) (ps : List Place) (h : boundary text 0 ≡ true) (e : covers_from text 0 ps ≡ true) where
  pub pieces-lie : AllLie text (pieces behavior empty ps) × (total_length (pieces behavior empty ps) ≤ length text)
  unfolding pieces
  pieces-lie =
      let both = remaining-lie text 0 empty (splits behavior ps) h (splits-cover text 0 behavior ps e) in
      (both.0, omega (arith, both.1))

-- in two columns
ordered : (text : List ℕ) (ps : List Place) → AllLie text ps → (i : ℕ) → i < length (starts_of ps) → get_or (starts_of ps) i 0 ≤ get_or (ends_of ps) i 0
ordered text [] l i h = absurd (omega arith)
ordered text (p ∷ ps) l zero h = l.0.onward
ordered text (p ∷ ps) l (suc i) h = ordered text ps l.1 i (omega arith)

inside : (text : List ℕ) (ps : List Place) → AllLie text ps → (i : ℕ) → i < length (starts_of ps) → get_or (ends_of ps) i 0 ≤ length text
inside text [] l i h = absurd (omega arith)
inside text (p ∷ ps) l zero h = boundary-most text p.end.0 l.0.to
inside text (p ∷ ps) l (suc i) h = inside text ps l.1 i (omega arith)

pub spans-lie : (text : List ℕ) (ps : List Place) → AllLie text ps → LineSpans text (starts_of ps) (ends_of ps)
spans-lie text ps l =
    record { alike = length-map ps _ ∙ sym (length-map ps _); ordered = ordered text ps l; inside = inside text ps l }
