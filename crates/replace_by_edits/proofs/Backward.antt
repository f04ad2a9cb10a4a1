-- The road from the last place to the first: before a place is what the note has, after it what replacing gives.
use Prim.Native.Nat.{ℕ, ◌≤◌}
use mathlib.Core.Path.{◌≡◌, ◌∙◌, ap, refl}
use mathlib.Core.Bool.{true, false}
use mathlib.Core.List.{List, [], ◌∷◌, ◌++◌, append-nil}
use native.Mathlib.Omega.{arith}
use lib.ListN.{length, take, replicate, length-append, length-replicate}
use lib.Seq.{take-append-le, take-take, take_all, length-take-le}
use Rattle.buffers.proofs.Cases.{true-or-false}
use Rattle.utf8.specs.Formed.{formed, well_formed, boundary, char_range}
use Rattle.utf8.proofs.Formed.{formed-append}
use Rattle.utf8.proofs.Boundaries.{boundary-of-take, between-char-range, formed-take, formed-part}
use Rattle.note.specs.Notes.{Note, lent}
use Rattle.pattern.specs.declared.Place.{Place}
use Rattle.pattern.specs.Places.{covers_from}
use Rattle.pattern.proofs.Places.{Span, covers-span, covers-rest, covers-none}
use Rattle.edit_steps.specs.Laying.{Editable}
use Rattle.edits.specs.Plain.{Makes}
use Rattle.replace.specs.Replacing.{piece, laid, carried}
use Rattle.replace.proofs.Laid.{piece-matched, piece-unmatched}
use Rattle.replace.proofs.Sizes.{length-laid}
use Rattle.replace_by_edits.specs.Road.{place_edit, edited_place, road_back}
use Rattle.replace_by_edits.proofs.PlaceEdit.{swapped_note, place-makes}
use Rattle.replace_by_edits.proofs.Columns.{back-unmatched, back-matched}

-- what places give of a text is UTF-8
module _ (s content : List ℕ) (whole : well_formed s ≡ true) (well : well_formed content ≡ true) where
  pub piece-formed : (at : ℕ) (p : Place) → Span s at p → boundary s at ≡ true → well_formed (piece (λ end. content) p s) ≡ true
  piece-formed at p span here =
      true-or-false p.matched
      (λ t. rw (piece-matched (λ end. content) p s t) well)
      (λ u. rw (piece-unmatched (λ end. content) p s u, span.from) (formed-part s at p.end.0 whole here span.stands span.onward))

  pub laid-formed : (at : ℕ) (ps qs : List Place) → covers_from s at (ps ++ qs) ≡ true → boundary s at ≡ true → well_formed (laid (λ end. content) ps s) ≡ true
  unfolding laid formed
  laid-formed at [] qs c here = refl
  laid-formed at (p ∷ ps) qs c here =
      let span : Span s at p = covers-span s at p (ps ++ qs) c in
      formed-append [] (piece (λ end. content) p s) (laid (λ end. content) ps s) (piece-formed at p span here)
      (laid-formed p.end.0 ps qs (covers-rest s at p (ps ++ qs) c) span.stands)

-- one place of the road
module _ (content : List ℕ) (n : Note) (p : Place) (ps : List Place) where
  pub road-matched : p.matched ≡ true → road_back (p ∷ ps) content n ≡ edited_place content p.start.0 p.end.0 (road_back ps content n)
  unfolding road_back
  road-matched t = rw t

  pub road-unmatched : p.matched ≡ false → road_back (p ∷ ps) content n ≡ road_back ps content n
  unfolding road_back
  road-unmatched u = rw u

-- the note in between: as it was before `at`, and what the places from there on give
abbrev pub back_note : Note → List ℕ → ℕ → List Place → Note
back_note n content at ps =
    lent n.original
    (take at n.normalized ++ laid (λ end. content) ps n.normalized)
    (take at n.starts ++ laid (carried (length content) n.starts) ps n.starts)
    (take at n.ends ++ laid (carried (length content) n.ends) ps n.ends)
    n.original_shift

module _ (n : Note) (content : List ℕ) (e : Editable n.normalized n.starts n.ends) (well : well_formed content ≡ true) where
  abbrev s : List ℕ
  s = n.normalized

  -- an edit can be made of it at the place before
  module _ (at : ℕ) (p : Place) (ps : List Place) (here : boundary s at ≡ true) (c : covers_from s at (p ∷ ps) ≡ true) where
    abbrev m : Note
    m = back_note n content p.end.0 ps

    span : Span s at p
    span = covers-span s at p ps c

    rest : covers_from s p.end.0 ps ≡ true
    rest = covers-rest s at p ps c

    text_formed : well_formed (take p.end.0 s ++ laid (λ end. content) ps s) ≡ true
    text_formed =
        formed-append [] (take p.end.0 s) (laid (λ end. content) ps s) (formed-take s p.end.0 e.formed span.stands)
        (laid-formed s content e.formed well p.end.0 ps [] (rw (append-nil ps) rest) span.stands)

    -- both ends of the place are boundaries there
    stays : (k : ℕ) → k ≤ p.end.0 → boundary s k ≡ true → boundary (take p.end.0 s ++ laid (λ end. content) ps s) k ≡ true
    stays k low there =
        let front : length (take p.end.0 s) ≡ p.end.0 = length-take-le p.end.0 s span.inside in
        boundary-of-take (take p.end.0 s ++ laid (λ end. content) ps s) k text_formed
        (omega (arith, front, length-append (take p.end.0 s) (laid (λ end. content) ps s)))
        (rw (take-append-le k (take p.end.0 s) (laid (λ end. content) ps s) (omega arith), take-take k p.end.0 s low) (formed-take s k e.formed there))

    column-long : (xs : List ℕ) → length xs ≡ length s → length (take p.end.0 xs ++ laid (carried (length content) xs) ps xs) ≡ length (take p.end.0 s ++ laid (λ end. content) ps s)
    column-long xs long =
        let one = length-laid s xs (carried (length content) xs) (length content) p.end.0 ps long (λ k. length-replicate (length content) _) rest in
        let two = length-laid s s (λ end. content) (length content) p.end.0 ps refl (λ k. refl) rest in
        omega (
          arith,
          one,
          two,
          length-append (take p.end.0 xs) (laid (carried (length content) xs) ps xs),
          length-append (take p.end.0 s) (laid (λ end. content) ps s),
          length-take-le p.end.0 xs (omega (arith, span.inside)),
          length-take-le p.end.0 s span.inside,
        )

    pub back-editable : Editable m.normalized m.starts m.ends
    back-editable = record { formed = text_formed; one_start = column-long n.starts e.one_start; one_end = column-long n.ends e.one_end }

    pub back-lies : char_range m.normalized p.start.0 p.end.0 ≡ true
    back-lies =
        rw span.from
        (between-char-range m.normalized at p.end.0 span.onward (stays at span.onward here) (stays p.end.0 (omega arith) span.stands))

    back-swapped : p.matched ≡ true → swapped_note content p.start.0 p.end.0 m ≡ back_note n content at (p ∷ ps)
    back-swapped t =
        rw (
          back-matched (λ v. content) s s refl at p ps span t,
          back-matched (replicate (length content)) s n.starts e.one_start at p ps span t,
          back-matched (replicate (length content)) s n.ends e.one_end at p ps span t,
        )

    pub back-makes : p.matched ≡ true → Makes m (place_edit content p.start.0 p.end.0 m.normalized) (back_note n content at (p ∷ ps))
    back-makes t = rw (back-swapped t) at (place-makes m content p.start.0 p.end.0 back-editable back-lies well)

    pub back-kept : p.matched ≡ false → m ≡ back_note n content at (p ∷ ps)
    back-kept u =
        rw (
          back-unmatched (λ v. content) s s refl at p ps span u,
          back-unmatched (replicate (length content)) s n.starts e.one_start at p ps span u,
          back-unmatched (replicate (length content)) s n.ends e.one_end at p ps span u,
        )

  whole-column : (xs : List ℕ) (at : ℕ) → length xs ≡ length s → at ≡ length s → take at xs ++ [] ≡ xs
  whole-column xs at long is = append-nil (take at xs) ∙ take_all at xs (omega arith)

  -- THE ROAD from the last place to `at`
  pub road-back : (at : ℕ) (ps : List Place) → boundary s at ≡ true → covers_from s at ps ≡ true → road_back ps content n ≡ back_note n content at ps
  unfolding road_back laid
  road-back at [] here c =
      let is = covers-none s at c in
      rw (whole-column s at refl is, whole-column n.starts at e.one_start is, whole-column n.ends at e.one_end is)
  road-back at (p ∷ ps) here c =
      let before = road-back p.end.0 ps (span at p ps here c).stands (covers-rest s at p ps c) in
      true-or-false p.matched
      (λ t. road-matched content n p ps t ∙ ap (edited_place content p.start.0 p.end.0) before ∙ (back-makes at p ps here c t).leaves)
      (λ u. road-unmatched content n p ps u ∙ before ∙ back-kept at p ps here c u)
