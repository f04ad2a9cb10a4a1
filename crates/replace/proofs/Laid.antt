-- Laws of `laid`: two columns are laid alike exactly when they agree outside the matched places and on what is in theirs.
use Prim.Native.Nat.{ℕ, ◌-◌, ◌≤◌, ◌<◌}
use mathlib.Core.Path.{◌≡◌, ◌∙◌, ap, refl, sym}
use mathlib.Core.Bool.{true, false}
use mathlib.Core.List.Memᴰ
use mathlib.Core.List.{List, [], ◌∷◌, Memᴰ}
use mathlib.Core.Logic.{⊎_elim}
use native.Mathlib.Omega.{arith}
use lib.ListN.{length, get_or}
use Rattle.buffers.specs.Splice.{part}
use Rattle.buffers.proofs.Cases.{true-or-false, le-or-lt, clash}
use Rattle.buffers.proofs.Splice.{append-cut, length_part, part_at, part_same}
use Rattle.pattern.specs.declared.Place.{Place}
use Rattle.pattern.specs.Places.{covers_from}
use Rattle.pattern.proofs.Places.{Span, covers-span, covers-rest, covers-none}
use Rattle.replace.specs.Replacing.{piece, laid}
use Rattle.replace.specs.Blanking.{Outside}

pub piece-matched : (f : ℕ → List ℕ) (p : Place) (xs : List ℕ) → p.matched ≡ true → piece f p xs ≡ f p.end.0
unfolding piece
piece-matched f p xs e = rw e

pub piece-unmatched : (f : ℕ → List ℕ) (p : Place) (xs : List ℕ) → p.matched ≡ false → piece f p xs ≡ part xs p.start.0 p.end.0
unfolding piece
piece-unmatched f p xs e = rw e

-- what is outside of places is outside of the later ones, and back where the first one does not hold it
outside-rest : {q : Place} {ps : List Place} {p : ℕ} → Outside (q ∷ ps) p → Outside ps p
outside-rest o r m = o r (Memᴰ.tail m)

outside-first : (q : Place) (ps : List Place) (p : ℕ) → (q.matched ≡ true → q.end.0 ≤ p) → Outside ps p → Outside (q ∷ ps) p
outside-first q ps p h o r m t from to =
    ⊎_elim
    (λ is. let same : r.end.0 ≡ q.end.0 = ap (λ (x : Place). x.end.0) is in
    absurd (omega (arith, h (sym (ap (λ (x : Place). x.matched) is) ∙ t))))
    (λ more. o r more t from to)
    (Memᴰ.cases_cons m)

-- the matched places of a list that covers from `at` on begin there or later
place-from : (text : List ℕ) (at : ℕ) (ps : List Place) → covers_from text at ps ≡ true → (q : Place) → Memᴰ q ps → at ≤ q.start.0
place-from text at [] c q m = absurd (Memᴰ.not-nil m)
place-from text at (p ∷ ps) c q m =
    let span : Span text at p = covers-span text at p ps c in
    ⊎_elim
    (λ is. let same : q.start.0 ≡ p.start.0 = ap (λ (x : Place). x.start.0) is in omega (arith, span.from))
    (λ more. omega (arith, span.onward, place-from text p.end.0 ps (covers-rest text at p ps c) q more))
    (Memᴰ.cases_cons m)

-- two columns agree from `at` on: outside, and on what is in the place of the matched ones
pub record SameColumn (f g : ℕ → List ℕ) (at : ℕ) (ps : List Place) (xs ys : List ℕ) : Type 0 where
  pub outside : (p : ℕ) → at ≤ p → p < length xs → Outside ps p → get_or xs p 0 ≡ get_or ys p 0
  pub filled : (q : Place) → Memᴰ q ps → q.matched ≡ true → f q.end.0 ≡ g q.end.0

module _ (text xs ys : List ℕ) (f g : ℕ → List ℕ) (lx : length xs ≡ length text) (ly : length ys ≡ length text) (alike : (e : ℕ) → length (f e) ≡ length (g e)) where
  module _ (at : ℕ) (p : Place) (ps : List Place) (c : covers_from text at (p ∷ ps) ≡ true) where
    span : Span text at p
    span = covers-span text at p ps c

    -- an unmatched first place is outside
    first-outside : p.matched ≡ false → (k : ℕ) → k < p.end.0 → Outside (p ∷ ps) k
    first-outside u k below q m t from to =
        ⊎_elim
        (λ is. clash p.matched (sym (ap (λ (x : Place). x.matched) is) ∙ t) u)
        (λ more. absurd (omega (arith, place-from text p.end.0 ps (covers-rest text at p ps c) q more)))
        (Memᴰ.cases_cons m)

    piece-agree : SameColumn f g at (p ∷ ps) xs ys → piece f p xs ≡ piece g p ys
    piece-agree same =
        true-or-false p.matched
        (λ t. piece-matched f p xs t ∙ same.filled p (Memᴰ.head refl) t ∙ sym (piece-matched g p ys t))
        (λ u.
        piece-unmatched f p xs u
        ∙ part_same xs ys p.start.0 p.end.0 (omega (arith, span.inside)) (omega (arith, span.inside))
        (λ k from to. same.outside k (omega (arith, span.from)) (omega (arith, span.inside)) (first-outside u k to))
        ∙ sym (piece-unmatched g p ys u))

    rest-agree : SameColumn f g at (p ∷ ps) xs ys → SameColumn f g p.end.0 ps xs ys
    rest-agree same =
        record {
          outside = λ k from to o. same.outside k (omega (arith, span.onward)) to (outside-first p ps k (λ t. from) o);
          filled = λ q m. same.filled q (Memᴰ.tail m);
        }

    piece-length : length (piece f p xs) ≡ length (piece g p ys)
    piece-length =
        true-or-false p.matched
        (λ t. ap length (piece-matched f p xs t) ∙ alike p.end.0 ∙ sym (ap length (piece-matched g p ys t)))
        (λ u.
        ap length (piece-unmatched f p xs u)
        ∙ length_part xs p.start.0 p.end.0 (omega (arith, span.inside))
        ∙ sym (length_part ys p.start.0 p.end.0 (omega (arith, span.inside)))
        ∙ sym (ap length (piece-unmatched g p ys u)))

    back-agree : piece f p xs ≡ piece g p ys → SameColumn f g p.end.0 ps xs ys → SameColumn f g at (p ∷ ps) xs ys
    back-agree here more =
        record {
          outside = λ k from to o. le-or-lt p.end.0 k
              (λ behind. more.outside k behind to (outside-rest o))
              (λ inside. true-or-false p.matched
              (λ t. absurd (o p (Memᴰ.head refl) t (omega (arith, span.from)) inside))
              (λ u.
              let low : p.start.0 ≤ k = omega (arith, span.from) in
              let parts : part xs p.start.0 p.end.0 ≡ part ys p.start.0 p.end.0 =
              sym (piece-unmatched f p xs u) ∙ here ∙ piece-unmatched g p ys u in
              sym (part_at xs p.start.0 p.end.0 k low inside)
              ∙ ap (λ (l : List ℕ). get_or l (k - p.start.0) 0) parts
              ∙ part_at ys p.start.0 p.end.0 k low inside));
          filled = λ q m t. ⊎_elim
              (λ is.
              let end : q.end.0 ≡ p.end.0 = ap (λ (x : Place). x.end.0) is in
              let first : p.matched ≡ true = sym (ap (λ (x : Place). x.matched) is) ∙ t in
              rw end (sym (piece-matched f p xs first) ∙ here ∙ piece-matched g p ys first))
              (λ rest. more.filled q rest t)
              (Memᴰ.cases_cons m);
        }

  pub agree-laid : (at : ℕ) (ps : List Place) → covers_from text at ps ≡ true → SameColumn f g at ps xs ys → laid f ps xs ≡ laid g ps ys
  unfolding laid
  agree-laid at [] c same = refl
  agree-laid at (p ∷ ps) c same =
      rw (piece-agree at p ps c same, agree-laid p.end.0 ps (covers-rest text at p ps c) (rest-agree at p ps c same))

  pub laid-agree : (at : ℕ) (ps : List Place) → covers_from text at ps ≡ true → laid f ps xs ≡ laid g ps ys → SameColumn f g at ps xs ys
  unfolding laid
  laid-agree at [] c eq =
      record { outside = λ p from to o. absurd (omega (arith, covers-none text at c)); filled = λ q m. absurd (Memᴰ.not-nil m) }
  laid-agree at (p ∷ ps) c eq =
      let both = append-cut (piece f p xs) (piece g p ys) (laid f ps xs) (laid g ps ys) (piece-length at p ps c) eq in
      back-agree at p ps c both.0 (laid-agree p.end.0 ps (covers-rest text at p ps c) both.1)
