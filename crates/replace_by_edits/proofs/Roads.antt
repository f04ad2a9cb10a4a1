-- The claims about both roads, as definitions.
use Prim.Native.Nat.{ℕ, ◌+◌, ◌≤◌}
use mathlib.Core.Path.{◌≡◌, ◌∙◌, ap, refl, sym}
use mathlib.Core.Bool.{true}
use mathlib.Mathlib.Data.Bool.Basic.{and_intro}
use mathlib.Core.List.{List, [], ◌∷◌, ◌++◌, append-nil, append_assoc}
use native.Mathlib.Omega.{arith}
use lib.ListN.{length, take, drop, length-append, length-drop, length-take, drop_of_length-le}
use borrow.Author.Tests.{le-leb}
use Rattle.buffers.proofs.Cases.{true-or-false}
use Rattle.utf8.specs.Formed.{boundary}
use Rattle.utf8.proofs.Boundaries.{boundary-zero}
use Rattle.note.specs.Notes.{Note, fits, Sound}
use Rattle.note.proofs.Faults.{sound-accepted}
use Rattle.note.proofs.Sound.{length-starts, length-ends, normalized-formed}
use Rattle.pattern.specs.declared.Place.{Place}
use Rattle.pattern.specs.Places.{covers_from}
use Rattle.pattern.proofs.Places.{Span, covers-span, covers-none}
use Rattle.edit_steps.specs.Edits.{Edit, characters, edited}
use Rattle.edit_steps.specs.Laying.{Editable}
use Rattle.transform.proofs.Verdicts.{small-enough}
use Rattle.transform.proofs.Soundness.{transformed-sound}
use Rattle.edits.specs.Plain.{Makes}
use Rattle.replace.specs.Replacing.{laid, carried, replaced}
use Rattle.replace_by_edits.specs.Road.{place_edit, road_back, moved_by, road_on, Given, TakenWithin, RoadEdits, RoadBackReplaces, RoadOnIsReplaced, RoadBounded}
use Rattle.replace_by_edits.proofs.Columns.{laid-append, end_of, end-append, covers-after, taken-least}
use Rattle.replace_by_edits.proofs.Backward.{back_note, back-makes, road-back, road-unmatched}
use Rattle.replace_by_edits.proofs.Onward.{on_note, end_stands, on-makes, on-kept, road-on}

pub sound-editable : (n : Note) → Sound n → Editable n.normalized n.starts n.ends
sound-editable n sound = record { formed = normalized-formed n sound; one_start = length-starts n sound; one_end = length-ends n sound }

pub taken-within : TakenWithin
taken-within n content before p ps g =
    let s : List ℕ = n.normalized in
    let span : Span s (end_of 0 before) p = covers-span s (end_of 0 before) p ps (covers-after s 0 before (p ∷ ps) g.covered) in
    omega (arith, span.from, taken-least s 0 before (p ∷ ps) g.covered)

-- both roads up to a place
module _ (n : Note) (content : List ℕ) (before ps : List Place) (g : Given n content (before ++ ps)) where
  abbrev s : List ℕ
  s = n.normalized

  editable : Editable n.normalized n.starts n.ends
  editable = sound-editable n g.sound

  reached : boundary s (end_of 0 before) ≡ true
  reached = end_stands n content editable g.formed 0 before ps (boundary-zero s editable.formed) g.covered

  rest-covered : covers_from s (end_of 0 before) ps ≡ true
  rest-covered = covers-after s 0 before ps g.covered

  pub back_is : road_back ps content n ≡ back_note n content (end_of 0 before) ps
  back_is = road-back n content editable g.formed (end_of 0 before) ps reached rest-covered

  pub on-is : road_on before content n ≡ on_note n content before
  unfolding end_of laid
  on-is = road-on n content editable g.formed [] before ps g.covered

  bounded : (length (road_back ps content n).normalized ≤ length s + length (replaced (before ++ ps) content n).text)
      × (length (road_on before content n).normalized ≤ length s + length (replaced (before ++ ps) content n).text)
  unfolding replaced
  bounded =
      let at : ℕ = end_of 0 before in
      let all : length (laid (λ end. content) (before ++ ps) s) ≡ length (laid (λ end. content) before s) + length (laid (λ end. content) ps s) =
      ap length (laid-append (λ end. content) before ps s) ∙ length-append (laid (λ end. content) before s) (laid (λ end. content) ps s) in
      let back : length (road_back ps content n).normalized ≡ length (take at s) + length (laid (λ end. content) ps s) =
      ap (λ (m : Note). length m.normalized) back_is ∙ length-append (take at s) (laid (λ end. content) ps s) in
      let on : length (road_on before content n).normalized ≡ length (laid (λ end. content) before s) + length (drop at s) =
      ap (λ (m : Note). length m.normalized) on-is ∙ length-append (laid (λ end. content) before s) (drop at s) in
      (omega (arith, all, back, length-take at s), omega (arith, all, on, length-drop at s))

pub road-bounded : RoadBounded
road-bounded = bounded

pub road-back-replaces : RoadBackReplaces
unfolding replaced end_of
road-back-replaces n content ps g = back_is n content [] ps g

pub road-on-is-replaced : RoadOnIsReplaced
unfolding replaced
road-on-is-replaced n content ps g =
    let s : List ℕ = n.normalized in
    let given : Given n content (ps ++ []) = rw (append-nil ps) g in
    let past : end_of 0 ps ≡ length s = covers-none s (end_of 0 ps) (covers-after s 0 ps [] given.covered) in
    let none : (xs : List ℕ) → length xs ≡ length s → drop (end_of 0 ps) xs ≡ [] = λ xs long. let h : length xs ≤ end_of 0 ps = omega arith in drop_of_length-le xs h in
    on-is n content ps [] given
    ∙ rw (
      none s refl,
      none n.starts (length-starts n g.sound),
      none n.ends (length-ends n g.sound),
      append-nil (laid (λ end. content) ps s),
      append-nil (laid (carried (length content) n.starts) ps n.starts),
      append-nil (laid (carried (length content) n.ends) ps n.ends),
    )

-- SOUNDNESS: under a limit that all of it fits, an edit is accepted and leaves a sound note
makes-sound : {n made : Note} {e : Edit} → Sound n → Makes n e made → Sound made
unfolding fits
makes-sound {n} {made} {e} sound m =
    let size : ℕ = length (edited characters n.normalized e n.normalized) in
    let most : ℕ = length n.original + length n.normalized + n.original_shift + size in
    let fit : fits most n ≡ true = and_intro (and_intro (le-leb _ most (omega arith)) (le-leb _ most (omega arith))) (le-leb _ most (omega arith)) in
    rw m.leaves at
    (transformed-sound most n e most (sound-accepted most n sound fit) (sym (small-enough most n.normalized e most m.lies m.feeds (omega arith)))).0

-- each edit of either road
module _ (n : Note) (content : List ℕ) (before : List Place) (p : Place) (ps : List Place) (g : Given n content (before ++ (p ∷ ps))) (t : p.matched ≡ true) where
  rest-given : Given n content (before ++ (p ∷ []) ++ ps)
  rest-given = rw (append_assoc before (p ∷ []) ps) g

  back-edit : Makes (road_back ps content n) (place_edit content p.start.0 p.end.0 (road_back ps content n).normalized) (road_back (p ∷ ps) content n)
  back-edit =
      rw (back_is n content (before ++ (p ∷ [])) ps rest-given, end-append 0 before p, back_is n content before (p ∷ ps) g)
      (back-makes n content (editable n content before (p ∷ ps) g) g.formed (end_of 0 before) p ps (reached n content before (p ∷ ps) g) (rest-covered n content before (p ∷ ps) g) t)

  on-edit : Makes (road_on before content n)
      (place_edit content (moved_by (length content) before p.start.0) (moved_by (length content) before p.end.0) (road_on before content n).normalized)
      (road_on (before ++ (p ∷ [])) content n)
  on-edit =
      rw (on-is n content before (p ∷ ps) g, on-is n content (before ++ (p ∷ [])) ps rest-given)
      (on-makes n content (editable n content before (p ∷ ps) g) g.formed before p ps g.covered t)

-- the road back over the last places, and on over the first ones, leaves sound notes
back-sound : (n : Note) (content : List ℕ) (before ps : List Place) → Given n content (before ++ ps) → Sound (road_back ps content n)
unfolding road_back
back-sound n content before [] g = g.sound
back-sound n content before (p ∷ ps) g =
    let given : Given n content (before ++ (p ∷ []) ++ ps) = rw (append_assoc before (p ∷ []) ps) g in
    let rest = back-sound n content (before ++ (p ∷ [])) ps given in
    true-or-false p.matched
    (λ t. makes-sound rest (back-edit n content before p ps g t))
    (λ u. rw (road-unmatched content n p ps u) rest)

next-sound : (n : Note) (content : List ℕ) (before ps qs : List Place) → Given n content (before ++ (ps ++ qs)) → Sound (on_note n content before) → Sound (on_note n content (before ++ ps))
next-sound n content before [] qs g sound = rw (append-nil before) sound
next-sound n content before (p ∷ ps) qs g sound =
    let e = sound-editable n g.sound in
    let given : Given n content (before ++ (p ∷ []) ++ (ps ++ qs)) = rw (append_assoc before (p ∷ []) (ps ++ qs)) g in
    let next : Sound (on_note n content (before ++ (p ∷ []))) =
    true-or-false p.matched
    (λ t. makes-sound sound (on-makes n content e g.formed before p (ps ++ qs) g.covered t))
    (λ u. rw (on-kept n content e g.formed before p (ps ++ qs) g.covered u) at sound) in
    rw (append_assoc before (p ∷ []) ps) at (next-sound n content (before ++ (p ∷ [])) ps qs given next)

on-sound : (n : Note) (content : List ℕ) (before ps : List Place) → Given n content (before ++ ps) → Sound (road_on before content n)
unfolding end_of laid
on-sound n content before ps g = rw (on-is n content before ps g) (next-sound n content [] before ps g g.sound)

pub road-edits : RoadEdits
road-edits n content before p ps g t =
    let given : Given n content (before ++ (p ∷ []) ++ ps) = rw (append_assoc before (p ∷ []) ps) g in (
      record { of_sound = back-sound n content (before ++ (p ∷ [])) ps given; makes = back-edit n content before p ps g t; leaves_sound = back-sound n content before (p ∷ ps) g },
      record { of_sound = on-sound n content before (p ∷ ps) g; makes = on-edit n content before p ps g t; leaves_sound = on-sound n content (before ++ (p ∷ [])) ps given },
    )
