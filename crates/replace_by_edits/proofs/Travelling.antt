-- The loop of the road: k places are left to be edited, and the sets hold the note with all after them edited.
use Prim.Native.Nat.{ℕ, ◌+◌, ◌-◌, ◌≤◌, ◌<◌}
use mathlib.Core.Path.{◌≡◌, ◌∙◌, ap, refl, sym}
use mathlib.Core.Bool.{true, false}
use mathlib.Core.List.{List, [], ◌∷◌, ◌++◌}
use native.Mathlib.Omega.{arith}
use lib.ListN.{length, take, drop, length-append, take-append-drop, drop_of_length-le}
use lib.Seq.{length-take-le, take-length}
use Rattle.buffers.specs.Splice.{part, splice, overlay}
use Rattle.buffers.specs.Keeping.{PartKept}
use Rattle.buffers.proofs.Cases.{true-or-false}
use Rattle.buffers.proofs.Splice.{splice-overlay}
use Rattle.utf8.specs.Formed.{well_formed, boundary}
use Rattle.utf8.proofs.Boundaries.{boundary-zero}
use Rattle.note.specs.Notes.{Note, lent}
use Rattle.pattern.specs.declared.Place.{Place}
use Rattle.pattern.specs.Entries.{places_of, whole_list, most_places}
use Rattle.pattern.specs.Places.{covers_from}
use Rattle.pattern.proofs.Entries.{places-exact}
use Rattle.pattern.proofs.Places.{Span, covers-span, covers-whole, covers-places}
use Rattle.edit_steps.specs.Laying.{Editable}
use Rattle.replace.specs.Replacing.{laid}
use Rattle.replace.specs.Sizes.{places_size}
use Rattle.replace.proofs.Laid.{piece-matched}
use Rattle.replace.proofs.Sizes.{length-laid}
use Rattle.replace_by_edits.specs.declared.road.Current.{Current}
use Rattle.replace_by_edits.specs.Road.{edited_place, road_back}
use Rattle.replace_by_edits.specs.ByEdits.{Scratch, scratch, scratch_room}
use Rattle.replace_by_edits.specs.Stepping.{PlaceReady, size_left, NoteLaid, at_first, held_note, SameRooms, Holds, StepReady, StepTaken, HeldRoom, RoadReady, RoadTaken, RoadRoom, RoadLaid}
use Rattle.replace_by_edits.proofs.Columns.{laid-append, end_of, covers-after}
use Rattle.replace_by_edits.proofs.Backward.{back_note, back-editable, back-lies, road-back, road-matched, road-unmatched}
use Rattle.replace_by_edits.proofs.Onward.{end_stands}
use Rattle.replace_by_edits.proofs.Holding.{Sized, front_long, laid-front, laid_same, unmoved, moved_on, same-room}

-- the place p is edited next, once the places ps after it are
module _ (n : Note) (content : List ℕ) (e : Editable n.normalized n.starts n.ends) (well : well_formed content ≡ true) (before : List Place) (p : Place) (ps : List Place)
    (c : covers_from n.normalized 0 (before ++ (p ∷ ps)) ≡ true) where
  abbrev s : List ℕ
  s = n.normalized

  abbrev at : ℕ
  at = end_of 0 before

  here : boundary s at ≡ true
  here = end_stands n content e well 0 before (p ∷ ps) (boundary-zero s e.formed) c

  rest : covers_from s at (p ∷ ps) ≡ true
  rest = covers-after s 0 before (p ∷ ps) c

  span : Span s at p
  span = covers-span s at p ps rest

  between : road_back ps content n ≡ back_note n content p.end.0 ps
  unfolding end_of
  between = road-back n content e well p.end.0 ps span.stands (covers-after s at (p ∷ []) ps rest)

  pub next-ready : PlaceReady (road_back ps content n) p content
  next-ready = rw between (record { editable = back-editable n content e well at p ps here rest; lies = back-lies n content e well at p ps here rest; formed = well })

  pub next-size : p.matched ≡ true → size_left (road_back ps content n) p content ≤ length s + places_size (length content) (before ++ (p ∷ ps))
  unfolding laid
  next-size t =
      let f : ℕ → List ℕ = λ end. content in
      let all : length (laid f (before ++ (p ∷ ps)) s) ≡ places_size (length content) (before ++ (p ∷ ps)) = length-laid s s f (length content) 0 (before ++ (p ∷ ps)) refl (λ k. refl) c in
      let two : length (laid f (before ++ (p ∷ ps)) s) ≡ length (laid f before s) + length (laid f (p ∷ ps) s) = ap length (laid-append f before (p ∷ ps) s) ∙ length-append (laid f before s) (laid f (p ∷ ps) s) in
      let one : length (laid f (p ∷ ps) s) ≡ length content + length (laid f ps s) = ap (λ (r : List ℕ). length (r ++ laid f ps s)) (piece-matched f p s t) ∙ length-append content (laid f ps s) in
      let now : length (road_back ps content n).normalized ≡ length (take p.end.0 s) + length (laid f ps s) =
      ap (λ (m : Note). length m.normalized) between ∙ length-append (take p.end.0 s) (laid f ps s) in
      omega (arith, all, two, one, now, length-take-le p.end.0 s span.inside, span.from, span.onward, span.inside)

within : {w x y z spare : ℕ} → w ≡ x → x ≤ y → y ≤ z → spare ≡ z → w ≤ spare
within e h k r = omega arith

pub record OnRoad (n : Note) (list content : List ℕ) (a₀ b₀ : Scratch) (h : Current) (k : ℕ) (a b : Scratch) : Type 0 where
  pub holds : Holds (road_back (drop k (places_of list)) content n) h a b
  pub rooms : SameRooms a₀ b₀ a b
  pub most : k ≤ length (places_of list)

module _ {n : Note} {list content : List ℕ} {a₀ b₀ : Scratch} (r : RoadReady n list content a₀ b₀) where
  pub none-edited : {len k : ℕ} → held_note (at_first len) a₀ b₀ ≡ n → len ≤ scratch_room a₀ b₀ → k ≡ most_places list → OnRoad n list content a₀ b₀ (at_first len) k a₀ b₀
  unfolding road_back
  none-edited {len} {k} is inside all =
      let count : length (places_of list) ≡ k = places-exact list all (covers-whole n.normalized list r.covered) in
      let none : length (places_of list) ≤ k = omega arith in
      let past : drop k (places_of list) ≡ [] = drop_of_length-le (places_of list) none in
      record {
        holds = record { note_is = rw past is; inside = inside };
        rooms = record { first_same = unmoved a₀; second_same = unmoved b₀ };
        most = omega arith;
      }

  pub whole : whole_list list ≡ true
  whole = covers-whole n.normalized list r.covered

  module _ {h : Current} {k : ℕ} {a b : Scratch} {p : Place} (o : OnRoad n list content a₀ b₀ h k a b) (more : 0 < k) (is : drop (k - 1) (places_of list) ≡ p ∷ drop (k - 1 + 1) (places_of list)) where
    after : drop (k - 1 + 1) (places_of list) ≡ drop k (places_of list)
    after = let one : k - 1 + 1 ≡ k = omega arith in rw one

    places : places_of list ≡ take (k - 1) (places_of list) ++ (p ∷ drop k (places_of list))
    places = sym (take-append-drop (k - 1) (places_of list)) ∙ ap (◌++◌ (take (k - 1) (places_of list))) (is ∙ ap (◌∷◌ p) after)

    covered : covers_from n.normalized 0 (take (k - 1) (places_of list) ++ (p ∷ drop k (places_of list))) ≡ true
    covered = rw (← places) (covers-places n.normalized list r.covered)

    pub step-ready : p.matched ≡ true → StepReady h p content a b
    step-ready t =
        let ready = next-ready n content r.editable r.formed (take (k - 1) (places_of list)) p (drop k (places_of list)) covered in
        let size = rw (← places) at (next-size n content r.editable r.formed (take (k - 1) (places_of list)) p (drop k (places_of list)) covered t) in
        record {
          ready = rw o.holds.note_is ready;
          inside = o.holds.inside;
          room = within (ap (λ (m : Note). size_left m p content) o.holds.note_is) size r.room (same-room o.rooms);
        }

    here-matched : p.matched ≡ true → road_back (drop (k - 1) (places_of list)) content n ≡ edited_place content p.start.0 p.end.0 (road_back (drop k (places_of list)) content n)
    here-matched t = ap (λ (ps : List Place). road_back ps content n) (is ∙ ap (◌∷◌ p) after) ∙ road-matched content n p (drop k (places_of list)) t

    pub next-edited : {g : Current} {a₁ b₁ : Scratch} → p.matched ≡ true → StepTaken h p content a b g a₁ b₁ → OnRoad n list content a₀ b₀ g (k - 1) a₁ b₁
    next-edited t s =
        record {
          holds = record {
            note_is = s.holds.note_is ∙ ap (edited_place content p.start.0 p.end.0) o.holds.note_is ∙ sym (here-matched t);
            inside = s.holds.inside;
          };
          rooms = moved_on o.rooms s.rooms;
          most = omega (arith, o.most);
        }

    pub next-kept : p.matched ≡ false → OnRoad n list content a₀ b₀ h (k - 1) a b
    next-kept u =
        record {
          holds = record {
            note_is = o.holds.note_is ∙ sym (ap (λ (ps : List Place). road_back ps content n) (is ∙ ap (◌∷◌ p) after) ∙ road-unmatched content n p (drop k (places_of list)) u);
            inside = o.holds.inside;
          };
          rooms = o.rooms;
          most = omega (arith, o.most);
        }

  pub all-edited : {h : Current} {k : ℕ} {a b : Scratch} → OnRoad n list content a₀ b₀ h k a b → k ≤ 0 → RoadTaken n list content a₀ b₀ h a b
  all-edited {k = k} o none = let z : k ≡ 0 = omega arith in record { holds = rw z at o.holds; rooms = o.rooms }

-- how many bytes the road leaves, and how many the sets hold
road-size : {n : Note} {list content : List ℕ} {a b : Scratch} → RoadReady n list content a b → length (road_back (places_of list) content n).normalized ≡ places_size (length content) (places_of list)
road-size {n} {list} {content} r =
    let s : List ℕ = n.normalized in
    let c = covers-places s list r.covered in
    ap (λ (m : Note). length m.normalized) (road-back n content r.editable r.formed 0 (places_of list) (boundary-zero s r.editable.formed) c)
    ∙ length-laid s s (λ end. content) (length content) 0 (places_of list) refl (λ k. refl) c

held-long : (h : Current) (a b : Scratch) → h.len ≤ scratch_room a b → h.len ≡ length (held_note h a b).normalized
held-long h a b inside =
    true-or-false h.in_second
    (λ t. rw t (front_long h.len b.text (omega arith)))
    (λ u. rw u (front_long h.len a.text (omega arith)))

-- THE WHOLE ROAD: the note goes into the first set, is edited, and is handed out
module _ {text starts ends list content out₀ starts₀ ends₀ : List ℕ} {a₀ b : Scratch} (r : RoadRoom (lent [] text starts ends 0) list content out₀ starts₀ ends₀ a₀ b) where
  abbrev note : Note
  note = lent [] text starts ends 0

  noted : Sized note (length text)
  noted = record { text_size = refl; starts_size = r.ready.editable.one_start; ends_size = r.ready.editable.one_end }

  module _ {t s e : List ℕ} (k : PartKept text starts ends 0 (length text) a₀.text a₀.starts a₀.ends 0 t s e) where
    abbrev a₁ : Scratch
    a₁ = scratch t s e

    whole_part : (xs d₀ : List ℕ) {d : List ℕ} → length xs ≡ length text → d ≡ splice d₀ 0 (part xs 0 (length text)) → d ≡ overlay xs d₀
    whole_part xs d₀ long is =
        let all : length text - 0 ≡ length xs = omega arith in
        (rw (all, take-length xs) at is) ∙ splice-overlay d₀ xs

    kept : NoteLaid note a₀.text a₀.starts a₀.ends (length text) t s e
    kept =
        record {
          reached = refl;
          text_is = whole_part text a₀.text refl k.text_is;
          starts_are = whole_part starts a₀.starts r.ready.editable.one_start k.starts_are;
          ends_are = whole_part ends a₀.ends r.ready.editable.one_end k.ends_are;
        }

    pub kept-note : held_note (at_first (length text)) a₁ b ≡ note
    kept-note = laid-front noted kept refl refl

    pub kept-rooms : SameRooms a₀ b a₁ b
    kept-rooms =
        record {
          first_same = laid_same noted kept (omega (arith, r.ready.room)) (omega (arith, r.ready.room)) (omega (arith, r.ready.room));
          second_same = unmoved b;
        }

    pub kept-ready : RoadReady (held_note (at_first (length text)) a₁ b) list content a₁ b × (length text ≤ scratch_room a₁ b)
    kept-ready =
        let ready : RoadReady note list content a₁ b = record {
          editable = r.ready.editable;
          covered = r.ready.covered;
          formed = r.ready.formed;
          room = within refl r.ready.room (omega arith) (same-room kept-rooms);
        } in
        (rw kept-note ready, omega (arith, ready.room))

    module _ {h : Current} {a₂ b₂ : Scratch} (taken : RoadTaken (held_note (at_first (length text)) a₁ b) list content a₁ b h a₂ b₂) where
      made : held_note h a₂ b₂ ≡ road_back (places_of list) content note
      made = taken.holds.note_is ∙ ap (road_back (places_of list) content) kept-note

      size : h.len ≡ places_size (length content) (places_of list)
      size = held-long h a₂ b₂ taken.holds.inside ∙ ap (λ (m : Note). length m.normalized) made ∙ road-size r.ready

      pub held-room : HeldRoom h a₂ b₂ out₀ starts₀ ends₀
      held-room = record { inside = taken.holds.inside; text_room = omega (arith, size, r.text_room); starts_room = omega (arith, size, r.starts_room); ends_room = omega (arith, size, r.ends_room) }

      pub taken-rooms : SameRooms a₀ b a₂ b₂
      taken-rooms = moved_on kept-rooms taken.rooms

      pub road-laid : {n : ℕ} {out starts₁ ends₁ : List ℕ} → NoteLaid (held_note h a₂ b₂) out₀ starts₀ ends₀ n out starts₁ ends₁ → RoadLaid note list content out₀ starts₀ ends₀ a₀ b n out starts₁ ends₁ a₂ b₂
      road-laid l = record { laid = rw made at l; rooms = taken-rooms }
