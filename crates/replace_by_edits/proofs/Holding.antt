-- The note in between, in front of one of two sets of scratch buffers: from one set into the other, and out of them.
use Prim.Native.Nat.{ℕ, ◌+◌, ◌-◌, ◌≤◌}
use mathlib.Core.Path.{◌≡◌, ◌∙◌, ap, refl, sym}
use mathlib.Core.Bool.{true, false}
use mathlib.Core.List.{List, [], ◌++◌}
use native.Mathlib.Omega.{arith}
use lib.ListN.{length, take, drop, replicate, length-append, length-drop, length-replicate}
use lib.Seq.{length-take-le}
use Rattle.buffers.specs.Splice.{overlay}
use Rattle.buffers.specs.Keeping.{PartKept}
use Rattle.buffers.proofs.Splice.{take-overlay, length-overlay, splice-overlay}
use Rattle.utf8.proofs.Boundaries.{Between, char-range-between}
use Rattle.note.specs.Notes.{Note, before_end}
use Rattle.note.specs.Refusals.{least, Accepted}
use Rattle.pattern.specs.declared.Place.{Place}
use Rattle.edit_steps.specs.Edits.{transformed}
use Rattle.replace_by_edits.specs.declared.road.Current.{Current}
use Rattle.replace_by_edits.specs.Road.{edited_place}
use Rattle.replace_by_edits.specs.ByEdits.{Scratch, scratch, scratch_room, ScratchLeft}
use Rattle.replace_by_edits.specs.Stepping.{PlaceReady, PlaceEditRoom, size_left, NoteLaid, front_note, held_note, SameRooms, StepReady, StepTaken, HeldRoom}
use Rattle.replace_by_edits.proofs.PlaceEdit.{swapped, place-makes}

-- an edit leaves columns of one length
pub length-swapped : (fill : ℕ → List ℕ) (wide a b : ℕ) (xs : List ℕ) → ((v : ℕ) → length (fill v) ≡ wide) → a ≤ length xs → length (swapped fill a b xs) ≡ a + wide + (length xs - b)
unfolding swapped
length-swapped fill wide a b xs each h =
    omega (
      arith,
      length-append (take a xs) (fill (before_end xs b) ++ drop b xs),
      length-append (fill (before_end xs b)) (drop b xs),
      each (before_end xs b),
      length-take-le a xs h,
      length-drop b xs,
    )

pub record Sized (m : Note) (size : ℕ) : Type 0 where
  pub text_size : length m.normalized ≡ size
  pub starts_size : length m.starts ≡ size
  pub ends_size : length m.ends ≡ size

pub place-sized : {n : Note} {p : Place} {content : List ℕ} → PlaceReady n p content → Sized (edited_place content p.start.0 p.end.0 n) (size_left n p content)
place-sized {n} {p} {content} r =
    let a : ℕ = p.start.0 in
    let b : ℕ = p.end.0 in
    let between : Between n.normalized a b = char-range-between n.normalized a b r.lies in
    let wide : ℕ = length content in
    let column : (xs : List ℕ) → length xs ≡ length n.normalized → length (swapped (replicate wide) a b xs) ≡ a + wide + (length n.normalized - b) =
    λ xs long. length-swapped (replicate wide) wide a b xs (λ v. length-replicate wide v) (omega (arith, between.onward, between.inside)) ∙ rw long in
    rw (place-makes n content a b r.editable r.lies r.formed).leaves
    (record {
      text_size = length-swapped (λ v. content) wide a b n.normalized (λ v. refl) (omega (arith, between.onward, between.inside));
      starts_size = column n.starts r.editable.one_start;
      ends_size = column n.ends r.editable.one_end;
    })

-- as long as a part is
pub front_long : (n : ℕ) (xs : List ℕ) → n ≤ length xs → n ≡ length (take n xs)
front_long n xs h = sym (length-take-le n xs h)

-- a note laid into a set is in front of it
module _ {m : Note} {size : ℕ} {a₀ : Scratch} {r : ℕ} {out starts ends : List ℕ} (sized : Sized m size) (l : NoteLaid m a₀.text a₀.starts a₀.ends r out starts ends) where
  reach : r ≡ size
  reach = l.reached ∙ sized.text_size

  front : (xs d₀ d : List ℕ) → length xs ≡ size → d ≡ overlay xs d₀ → take r d ≡ xs
  front xs d₀ d long is = let same : r ≡ length xs = reach ∙ sym long in rw (is, same) (take-overlay xs d₀)

  pub laid-front : m.original ≡ [] → m.original_shift ≡ 0 → front_note r (scratch out starts ends) ≡ m
  laid-front o s =
      rw (
        front m.normalized a₀.text out sized.text_size l.text_is,
        front m.starts a₀.starts starts sized.starts_size l.starts_are,
        front m.ends a₀.ends ends sized.ends_size l.ends_are,
        ← o,
        ← s,
      )

  pub laid_same : size ≤ length a₀.text → size ≤ length a₀.starts → size ≤ length a₀.ends → ScratchLeft Accepted a₀ (scratch out starts ends)
  laid_same t s e =
      record {
        text_left = ap length l.text_is ∙ length-overlay m.normalized a₀.text (omega (arith, sized.text_size));
        starts_left = ap length l.starts_are ∙ length-overlay m.starts a₀.starts (omega (arith, sized.starts_size));
        ends_left = ap length l.ends_are ∙ length-overlay m.ends a₀.ends (omega (arith, sized.ends_size));
      }

pub unmoved : (a : Scratch) → ScratchLeft Accepted a a
unmoved a = record { text_left = refl; starts_left = refl; ends_left = refl }

pub moved_on : {a₀ b₀ a₁ b₁ a b : Scratch} → SameRooms a₀ b₀ a₁ b₁ → SameRooms a₁ b₁ a b → SameRooms a₀ b₀ a b
moved_on f s =
    record {
      first_same = record {
        text_left = s.first_same.text_left ∙ f.first_same.text_left;
        starts_left = s.first_same.starts_left ∙ f.first_same.starts_left;
        ends_left = s.first_same.ends_left ∙ f.first_same.ends_left;
      };
      second_same = record {
        text_left = s.second_same.text_left ∙ f.second_same.text_left;
        starts_left = s.second_same.starts_left ∙ f.second_same.starts_left;
        ends_left = s.second_same.ends_left ∙ f.second_same.ends_left;
      };
    }

pub same-room : {a₀ b₀ a b : Scratch} → SameRooms a₀ b₀ a b → scratch_room a b ≡ scratch_room a₀ b₀
same-room s =
    rw (
      s.first_same.text_left,
      s.first_same.starts_left,
      s.first_same.ends_left,
      s.second_same.text_left,
      s.second_same.starts_left,
      s.second_same.ends_left,
    )

-- one place edited from a set x into a set y
module _ (len : ℕ) (x y : Scratch) {p : Place} {content : List ℕ} {spare : ℕ} (r : PlaceReady (front_note len x) p content) (size : size_left (front_note len x) p content ≤ spare)
    (room : spare ≤ least (length y.text) (length y.starts) (length y.ends)) where
  pub into-room : PlaceEditRoom (front_note len x) p content y.text y.starts y.ends
  into-room = record { ready = r; text_room = omega arith; starts_room = omega arith; ends_room = omega arith }

  module _ {k : ℕ} {out starts ends : List ℕ} (l : NoteLaid (edited_place content p.start.0 p.end.0 (front_note len x)) y.text y.starts y.ends k out starts ends) where
    pub into-front : front_note k (scratch out starts ends) ≡ edited_place content p.start.0 p.end.0 (front_note len x)
    unfolding transformed
    into-front = laid-front (place-sized r) l refl refl

    pub into-same : ScratchLeft Accepted y (scratch out starts ends)
    into-same = laid_same (place-sized r) l (omega arith) (omega arith) (omega arith)

    pub into-inside : k ≤ spare
    into-inside = omega (arith, l.reached, (place-sized r).text_size)

-- from the first set into the second, or from the second into the first
module _ {h : Current} {p : Place} {content : List ℕ} {a b : Scratch} (r : StepReady h p content a b) where
  module _ (e : h.in_second ≡ false) where
    from_first : PlaceReady (front_note h.len a) p content
    from_first = rw e at r.ready

    first-size : size_left (front_note h.len a) p content ≤ scratch_room a b
    first-size = rw e at r.room

    pub first-room : PlaceEditRoom (front_note h.len a) p content b.text b.starts b.ends
    first-room = into-room h.len a b from_first first-size (omega arith)

    pub first_taken : {k : ℕ} {out starts ends : List ℕ} → NoteLaid (edited_place content p.start.0 p.end.0 (front_note h.len a)) b.text b.starts b.ends k out starts ends
        → StepTaken h p content a b (record { len = k; in_second = true }) a (scratch out starts ends)
    first_taken {k} {out} {starts} {ends} l =
        let rooms : SameRooms a b a (scratch out starts ends) = record { first_same = unmoved a; second_same = into-same h.len a b from_first first-size (omega arith) l } in
        record {
          holds = record { note_is = rw e (into-front h.len a b from_first first-size (omega arith) l); inside = omega (arith, same-room rooms, into-inside h.len a b from_first first-size (omega arith) l) };
          rooms = rooms;
        }

  module _ (e : h.in_second ≡ true) where
    from_second : PlaceReady (front_note h.len b) p content
    from_second = rw e at r.ready

    second-size : size_left (front_note h.len b) p content ≤ scratch_room a b
    second-size = rw e at r.room

    pub second-room : PlaceEditRoom (front_note h.len b) p content a.text a.starts a.ends
    second-room = into-room h.len b a from_second second-size (omega arith)

    pub second-taken : {k : ℕ} {out starts ends : List ℕ} → NoteLaid (edited_place content p.start.0 p.end.0 (front_note h.len b)) a.text a.starts a.ends k out starts ends
        → StepTaken h p content a b (record { len = k; in_second = false }) (scratch out starts ends) b
    second-taken {k} {out} {starts} {ends} l =
        let rooms : SameRooms a b (scratch out starts ends) b = record { first_same = into-same h.len b a from_second second-size (omega arith) l; second_same = unmoved b } in
        record {
          holds = record { note_is = rw e (into-front h.len b a from_second second-size (omega arith) l); inside = omega (arith, same-room rooms, into-inside h.len b a from_second second-size (omega arith) l) };
          rooms = rooms;
        }

-- the note that is held, handed out
module _ {n : ℕ} {x : Scratch} {out₀ starts₀ ends₀ out starts ends : List ℕ} (inside : n ≤ least (length x.text) (length x.starts) (length x.ends)) where
  pub front_out : PartKept x.text x.starts x.ends 0 n out₀ starts₀ ends₀ 0 out starts ends → NoteLaid (front_note n x) out₀ starts₀ ends₀ n out starts ends
  front_out k =
      let all : n - 0 ≡ n = omega arith in
      record {
        reached = front_long n x.text (omega arith);
        text_is = (rw all at k.text_is) ∙ splice-overlay out₀ (take n x.text);
        starts_are = (rw all at k.starts_are) ∙ splice-overlay starts₀ (take n x.starts);
        ends_are = (rw all at k.ends_are) ∙ splice-overlay ends₀ (take n x.ends);
      }

module _ {h : Current} {a b : Scratch} {out₀ starts₀ ends₀ out starts ends : List ℕ} (r : HeldRoom h a b out₀ starts₀ ends₀) where
  pub first_out : h.in_second ≡ false → PartKept a.text a.starts a.ends 0 h.len out₀ starts₀ ends₀ 0 out starts ends → NoteLaid (held_note h a b) out₀ starts₀ ends₀ h.len out starts ends
  first_out e k = rw e (front_out {x = a} (omega (arith, r.inside)) k)

  pub second-out : h.in_second ≡ true → PartKept b.text b.starts b.ends 0 h.len out₀ starts₀ ends₀ 0 out starts ends → NoteLaid (held_note h a b) out₀ starts₀ ends₀ h.len out starts ends
  second-out e k = rw e (front_out {x = b} (omega (arith, r.inside)) k)
