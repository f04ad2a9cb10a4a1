-- The road from the first place to the last: before a place is what replacing gives, after it what the note has.
use Prim.Native.Nat.{ℕ, zero, suc, ◌+◌, ◌-◌, ◌≤◌}
use mathlib.Core.Path.{◌≡◌, ◌∙◌, ap, refl, sym}
use mathlib.Core.Bool.{true, false}
use mathlib.Core.List.{List, [], ◌∷◌, ◌++◌, append-nil, append_assoc}
use native.Mathlib.Omega.{arith}
use lib.ListN.{length, drop, replicate, length-append, length-drop, length-replicate, get_or-replicate}
use lib.Seq.{take-append_seam, take-append-add, drop-append-add, drop-drop, get_or-append-add}
use Rattle.buffers.specs.Splice.{part}
use Rattle.buffers.proofs.Cases.{true-or-false}
use Rattle.buffers.proofs.Splice.{length_part}
use Rattle.utf8.specs.Formed.{well_formed, boundary, char_range}
use Rattle.utf8.proofs.Formed.{formed-append}
use Rattle.utf8.proofs.Boundaries.{boundary-of-take, boundary-zero, between-char-range, formed-drop, formed-part}
use Rattle.note.specs.Notes.{Note, lent, before_end}
use Rattle.note.proofs.BeforeEnd.{before-none, before-some}
use Rattle.pattern.specs.declared.Place.{Place}
use Rattle.pattern.specs.Places.{covers_from}
use Rattle.pattern.proofs.Places.{Span, covers-span, covers-rest}
use Rattle.edit_steps.specs.Laying.{Editable}
use Rattle.edits.specs.Plain.{Makes}
use Rattle.replace.specs.Replacing.{laid, carried}
use Rattle.replace.proofs.Laid.{piece-matched, piece-unmatched}
use Rattle.replace_by_edits.specs.Road.{taken_bytes, added_bytes, moved_by, place_edit, edited_place, edited_next, road_after}
use Rattle.replace_by_edits.proofs.Parts.{drop-parts}
use Rattle.replace_by_edits.proofs.PlaceEdit.{swapped, swapped_note, place-makes}
use Rattle.replace_by_edits.proofs.Columns.{before-seam, laid-append, end_of, end-append, covers-after, taken-least, length_moved, kept-alike, fills_alike}
use Rattle.replace_by_edits.proofs.Backward.{laid-formed}

-- what is before the end of a front, and after a run of one number
pub filled-again : (wide : ℕ) (front : List ℕ) (v : ℕ) → replicate wide (before_end (front ++ replicate wide v) (length (front ++ replicate wide v))) ≡ replicate wide v
filled-again zero front v = refl
filled-again (suc k) front v =
    let run : List ℕ = replicate (suc k) v in
    let both : length (front ++ run) ≡ length front + suc k = length-append front run ∙ rw (length-replicate (suc k) v) in
    let last : length front + suc k - 1 ≡ length front + k = omega arith in
    ap (replicate (suc k))
    (rw (both, before-some (front ++ run) (length front + suc k) (omega arith), last, get_or-append-add front run k 0) (get_or-replicate (suc k) k v 0 (omega arith)))

-- one column: `before` is edited, and p is the next place, of which the text `s` is covered on
module _ (fill : ℕ → List ℕ) (wide : ℕ) (each : (v : ℕ) → length (fill v) ≡ wide) (again : (front : List ℕ) (v : ℕ) → fill (before_end (front ++ fill v) (length (front ++ fill v))) ≡ fill v)
    (s xs : List ℕ) (long : length xs ≡ length s) (before : List Place) (p : Place) (ps : List Place) (c : covers_from s 0 (before ++ (p ∷ ps)) ≡ true) where
  abbrev f : ℕ → List ℕ
  f end = fill (before_end xs end)

  abbrev made : List ℕ
  made = laid f before xs

  abbrev reach : ℕ
  reach = end_of 0 before

  span : Span s reach p
  span = covers-span s reach p ps (covers-after s 0 before (p ∷ ps) c)

  size : length made + taken_bytes before ≡ reach + added_bytes wide before
  size = omega (arith, length_moved fill wide each s xs long 0 before (p ∷ ps) c)

  -- where the place is then
  pub start-moved : moved_by wide before p.start.0 ≡ length made
  start-moved = omega (arith, size, span.from)

  pub end_moved : moved_by wide before p.end.0 ≡ length made + (p.end.0 - reach)
  end_moved = omega (arith, size, span.onward, taken-least s 0 before (p ∷ ps) c)

  -- what is before its end carries what it carried
  carries-on : fill (before_end (made ++ drop reach xs) (length made + (p.end.0 - reach))) ≡ fill (before_end xs p.end.0)
  carries-on =
      let e : ℕ = p.end.0 in
      let inside : e ≤ length xs = omega (arith, span.inside) in
      let begun : fill (before_end made (length made)) ≡ fill (before_end xs reach) = fills_alike fill wide each s xs long again [] 0 before (p ∷ ps) c (ap fill (before-none [] 0 refl ∙ sym (before-none xs 0 refl))) in
      let kept : List ℕ = made ++ part xs reach e in
      let size : length kept ≡ length made + (e - reach) = length-append made (part xs reach e) ∙ rw (length_part xs reach e inside) in
      let cut : made ++ drop reach xs ≡ kept ++ drop e xs = ap (◌++◌ made) (drop-parts xs reach e span.onward) ∙ sym (append_assoc made (part xs reach e) (drop e xs)) in
      rw (cut, ← size, before-seam kept (drop e xs)) (kept-alike fill wide each s xs long made reach e span.onward inside begun)

  -- the place edited there
  pub on-matched : p.matched ≡ true → swapped fill (moved_by wide before p.start.0) (moved_by wide before p.end.0) (made ++ drop reach xs) ≡ laid f (before ++ (p ∷ [])) xs ++ drop (end_of 0 (before ++ (p ∷ []))) xs
  unfolding swapped laid
  on-matched t =
      let e : ℕ = p.end.0 in
      let there : reach + (e - reach) ≡ e = omega (arith, span.onward) in
      rw (
        start-moved,
        end_moved,
        carries-on,
        take-append_seam made (drop reach xs),
        drop-append-add made (drop reach xs) (e - reach),
        drop-drop (e - reach) reach xs,
        there,
        end-append 0 before p,
        laid-append f before (p ∷ []) xs,
        piece-matched f p xs t,
        append-nil (fill (before_end xs e)),
      )
      (sym (append_assoc made (fill (before_end xs e)) (drop e xs)))

  pub on-unmatched : p.matched ≡ false → made ++ drop reach xs ≡ laid f (before ++ (p ∷ [])) xs ++ drop (end_of 0 (before ++ (p ∷ []))) xs
  unfolding laid
  on-unmatched u =
      let e : ℕ = p.end.0 in
      let after : laid f (before ++ (p ∷ [])) xs ++ drop (end_of 0 (before ++ (p ∷ []))) xs ≡ made ++ part xs reach e ++ drop e xs =
      rw (end-append 0 before p, laid-append f before (p ∷ []) xs, piece-unmatched f p xs u, span.from, append-nil (part xs reach e)) in
      ap (◌++◌ made) (drop-parts xs reach e span.onward) ∙ sym (append_assoc made (part xs reach e) (drop e xs)) ∙ sym after

-- one place of the road
module _ (content : List ℕ) (before : List Place) (p : Place) (n : Note) where
  next-matched : p.matched ≡ true → edited_next content before p n ≡ edited_place content (moved_by (length content) before p.start.0) (moved_by (length content) before p.end.0) n
  unfolding edited_next
  next-matched t = rw t

  next-unmatched : p.matched ≡ false → edited_next content before p n ≡ n
  unfolding edited_next
  next-unmatched u = rw u

-- the note in between: what the places of `before` give, and what the note has after them
abbrev pub on_note : Note → List ℕ → List Place → Note
on_note n content before =
    lent n.original
    (laid (λ end. content) before n.normalized ++ drop (end_of 0 before) n.normalized)
    (laid (carried (length content) n.starts) before n.starts ++ drop (end_of 0 before) n.starts)
    (laid (carried (length content) n.ends) before n.ends ++ drop (end_of 0 before) n.ends)
    n.original_shift

module _ (n : Note) (content : List ℕ) (e : Editable n.normalized n.starts n.ends) (well : well_formed content ≡ true) where
  abbrev s : List ℕ
  s = n.normalized

  abbrev wide : ℕ
  wide = length content

  pub end_stands : (at : ℕ) (ps qs : List Place) → boundary s at ≡ true → covers_from s at (ps ++ qs) ≡ true → boundary s (end_of at ps) ≡ true
  unfolding end_of
  end_stands at [] qs here c = here
  end_stands at (p ∷ ps) qs here c = end_stands p.end.0 ps qs (covers-span s at p (ps ++ qs) c).stands (covers-rest s at p (ps ++ qs) c)

  module _ (before : List Place) (p : Place) (ps : List Place) (c : covers_from s 0 (before ++ (p ∷ ps)) ≡ true) where
    abbrev m : Note
    m = on_note n content before

    abbrev at : ℕ
    at = end_of 0 before

    abbrev front : List ℕ
    front = laid (λ end. content) before s

    spans : Span s at p
    spans = covers-span s at p ps (covers-after s 0 before (p ∷ ps) c)

    here : boundary s at ≡ true
    here = end_stands 0 before (p ∷ ps) (boundary-zero s e.formed) c

    front-formed : well_formed front ≡ true
    front-formed = laid-formed s content e.formed well 0 before (p ∷ ps) c (boundary-zero s e.formed)

    text_formed : well_formed (front ++ drop at s) ≡ true
    text_formed = formed-append [] front (drop at s) front-formed (formed-drop s at e.formed here)

    column-long : (xs : List ℕ) → length xs ≡ length s → length (laid (carried wide xs) before xs ++ drop at xs) ≡ length (front ++ drop at s)
    column-long xs long =
        omega (
          arith,
          length-append (laid (carried wide xs) before xs) (drop at xs),
          length-append front (drop at s),
          length-drop at xs,
          length-drop at s,
          length_moved (replicate wide) wide (λ v. length-replicate wide v) s xs long 0 before (p ∷ ps) c,
          length_moved (λ v. content) wide (λ v. refl) s s refl 0 before (p ∷ ps) c,
        )

    pub on-editable : Editable m.normalized m.starts m.ends
    on-editable = record { formed = text_formed; one_start = column-long n.starts e.one_start; one_end = column-long n.ends e.one_end }

    from-stands : boundary (front ++ drop at s) (length front) ≡ true
    from-stands =
        boundary-of-take (front ++ drop at s) (length front) text_formed (omega (arith, length-append front (drop at s)))
        (rw (take-append_seam front (drop at s)) front-formed)

    to-stands : boundary (front ++ drop at s) (length front + (p.end.0 - at)) ≡ true
    to-stands =
        boundary-of-take (front ++ drop at s) (length front + (p.end.0 - at)) text_formed
        (omega (arith, length-append front (drop at s), length-drop at s, spans.inside, spans.onward))
        (rw (take-append-add front (drop at s) (p.end.0 - at))
        (formed-append [] front (part s at p.end.0) front-formed (formed-part s at p.end.0 e.formed here spans.stands spans.onward)))

    pub on-lies : char_range m.normalized (moved_by wide before p.start.0) (moved_by wide before p.end.0) ≡ true
    on-lies =
        rw (
          start-moved (λ v. content) wide (λ v. refl) (λ f v. refl) s s refl before p ps c,
          end_moved (λ v. content) wide (λ v. refl) (λ f v. refl) s s refl before p ps c,
        )
        (between-char-range (front ++ drop at s) (length front) (length front + (p.end.0 - at)) (omega arith) from-stands to-stands)

    on-swapped : p.matched ≡ true → swapped_note content (moved_by wide before p.start.0) (moved_by wide before p.end.0) m ≡ on_note n content (before ++ (p ∷ []))
    on-swapped t =
        rw (
          on-matched (λ v. content) wide (λ v. refl) (λ f v. refl) s s refl before p ps c t,
          on-matched (replicate wide) wide (λ v. length-replicate wide v) (filled-again wide) s n.starts e.one_start before p ps c t,
          on-matched (replicate wide) wide (λ v. length-replicate wide v) (filled-again wide) s n.ends e.one_end before p ps c t,
        )

    pub on-makes : p.matched ≡ true → Makes m (place_edit content (moved_by wide before p.start.0) (moved_by wide before p.end.0) m.normalized) (on_note n content (before ++ (p ∷ [])))
    on-makes t = rw (on-swapped t) at (place-makes m content (moved_by wide before p.start.0) (moved_by wide before p.end.0) on-editable on-lies well)

    pub on-kept : p.matched ≡ false → m ≡ on_note n content (before ++ (p ∷ []))
    on-kept u =
        rw (
          on-unmatched (λ v. content) wide (λ v. refl) (λ f v. refl) s s refl before p ps c u,
          on-unmatched (replicate wide) wide (λ v. length-replicate wide v) (filled-again wide) s n.starts e.one_start before p ps c u,
          on-unmatched (replicate wide) wide (λ v. length-replicate wide v) (filled-again wide) s n.ends e.one_end before p ps c u,
        )

    pub on_step : edited_next content before p m ≡ on_note n content (before ++ (p ∷ []))
    on_step =
        true-or-false p.matched
        (λ t. next-matched content before p m t ∙ (on-makes t).leaves)
        (λ u. next-unmatched content before p m u ∙ on-kept u)

  -- THE ROAD over the places ps, after those of `before`
  pub road-on : (before ps qs : List Place) → covers_from s 0 (before ++ (ps ++ qs)) ≡ true → road_after before ps content (on_note n content before) ≡ on_note n content (before ++ ps)
  unfolding road_after
  road-on before [] qs c = rw (append-nil before)
  road-on before (p ∷ ps) qs c =
      let one : before ++ (p ∷ []) ++ (ps ++ qs) ≡ before ++ (p ∷ (ps ++ qs)) = append_assoc before (p ∷ []) (ps ++ qs) in
      rw (on_step before p (ps ++ qs) c)
      (road-on (before ++ (p ∷ [])) ps qs (rw one c) ∙ ap (on_note n content) (append_assoc before (p ∷ []) ps))
