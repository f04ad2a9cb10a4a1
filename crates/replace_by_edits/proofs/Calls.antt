-- A call of this road beside a call of replacing: with scratch that is large enough it is one.
use Prim.Native.Nat.{ℕ, ◌+◌, ◌≤◌, ◌<◌, min}
use mathlib.Core.Path.{◌≡◌, ◌∙◌, ap, refl, sym}
use mathlib.Core.Bool.{true, not, or-false}
use mathlib.Core.List.{List, [], ◌∷◌}
use native.Mathlib.Omega.{arith}
use lib.ListN.{length}
use borrow.Author.Tests.{not-false}
use Rattle.std.specs.Prelude.{Result, Ok, Err}
use Rattle.buffers.proofs.Cases.{true-or-false}
use Rattle.note.specs.declared.Refusal.{Refusal}
use Rattle.note.specs.declared.Refusal.TheVariants.{NoRoom, BadMatches}
use Rattle.note.specs.Refusals.{least, verdict, after, Verdict, Accepted}
use Rattle.note.specs.Notes.{Note, lent}
use Rattle.note.specs.Faults.{room_faults}
use Rattle.note.proofs.FirstMet.{then, then-accepted, last_then, accepted-first, accepted-second, accepted-meets}
use Rattle.note.proofs.Faults.{normalized_short, room-enough, enough-room, no_room}
use Rattle.pattern.specs.declared.Place.{Place}
use Rattle.pattern.specs.Entries.{places_of}
use Rattle.pattern.specs.Places.{covers}
use Rattle.edit_steps.specs.Edits.{transformed}
use Rattle.replace.specs.Replacing.{laid, replaced, replace_faults, resulting, publication, Replacing}
use Rattle.replace.specs.Sizes.{places_size}
use Rattle.replace.proofs.Faults.{accepted-note, accepted-content, accepted-taken, accepted-room, says-published, says-refused}
use Rattle.replace.proofs.Sizes.{length-laid}
use Rattle.replace.proofs.Blanking.{blanking}
use Rattle.replace_by_edits.specs.Road.{road_back, Given}
use Rattle.replace_by_edits.specs.ByEdits.{Scratch, scratch_room, scratch_size, by_edits_faults, ReplacingByEdits, RoadCallReplaces, RoadIsReplaced, RoadBlanking}
use Rattle.replace_by_edits.specs.Stepping.{RoadRoom, RoadLaid}
use Rattle.replace_by_edits.proofs.Roads.{sound-editable, road-back-replaces}

-- the verdict: that of replacing, then that of scratch
pub by-edits-verdict : (most : ℕ) (n : Note) (list content : List ℕ) (room spare : ℕ)
    → verdict (by_edits_faults most n list content room spare) ≡ then (verdict (replace_faults most n list content room)) (verdict (room_faults (scratch_size n list content) spare))
by-edits-verdict most n list content room spare = last_then (replace_faults most n list content room) (room_faults (scratch_size n list content) spare) refl

pub ample-verdict : (most : ℕ) (n : Note) (list content : List ℕ) (room spare : ℕ) → scratch_size n list content ≤ spare
    → verdict (by_edits_faults most n list content room spare) ≡ verdict (replace_faults most n list content room)
ample-verdict most n list content room spare h =
    by-edits-verdict most n list content room spare ∙ rw (← enough-room h) (then-accepted (verdict (replace_faults most n list content room)))

-- what an accepted replacement is given, and so what the road leaves of it
pub accepted-given : (most : ℕ) (n : Note) (list content : List ℕ) (room : ℕ) → verdict (replace_faults most n list content room) ≡ Accepted → Given n content (places_of list)
accepted-given most n list content room e =
    record {
      sound = (accepted-note most n list content room e).0;
      formed = accepted-content most n list content room e;
      covered = (accepted-taken most n list content room e).covered;
    }

pub accepted-road : (most : ℕ) (n : Note) (list content : List ℕ) (room : ℕ) → verdict (replace_faults most n list content room) ≡ Accepted → road_back (places_of list) content n ≡ resulting n (replaced (places_of list) content n)
accepted-road most n list content room e = road-back-replaces n content (places_of list) (accepted-given most n list content room e)

-- by what the verdict is: where it accepts, both make the same
told-alike : (v : Verdict) (a b : ℕ) → (v ≡ Accepted → a ≡ b) → publication v a ≡ publication v b
told-alike (Ok tt) a b h = ap Ok (h refl)
told-alike (Err k) a b h = refl

left-alike : (v : Verdict) (a b d : List ℕ) → (v ≡ Accepted → a ≡ b) → after v a d ≡ after v b d
left-alike (Ok tt) a b d h = ap (λ (r : List ℕ). after Accepted r d) (h refl)
left-alike (Err k) a b d h = refl

-- A CALL OF THIS ROAD IS A CALL OF REPLACING
module _ {most : ℕ} {n : Note} {list content out₀ starts₀ ends₀ : List ℕ} {a₀ b₀ a b : Scratch} {r : Result ℕ Refusal} {out starts ends : List ℕ}
    (call : ReplacingByEdits most n list content out₀ starts₀ ends₀ a₀ b₀ r out starts ends a b) (ample : scratch_size n list content ≤ scratch_room a₀ b₀) where
  said : call.says ≡ verdict (replace_faults most n list content (least (length out₀) (length starts₀) (length ends₀)))
  said = call.says_is ∙ ample-verdict most n list content (least (length out₀) (length starts₀) (length ends₀)) (scratch_room a₀ b₀) ample

  made : call.says ≡ Accepted → road_back (places_of list) content n ≡ resulting n (replaced (places_of list) content n)
  made e = accepted-road most n list content (least (length out₀) (length starts₀) (length ends₀)) (sym said ∙ e)

  pub road-call : Replacing most n list content out₀ starts₀ ends₀ r out starts ends
  road-call =
      record {
        says = call.says;
        says_is = said;
        answer = call.answer ∙ told-alike call.says _ _ (λ e. ap (λ (m : Note). length m.normalized) (made e));
        text_is = call.text_is ∙ left-alike call.says _ _ out₀ (λ e. ap (λ (m : Note). m.normalized) (made e));
        starts_are = call.starts_are ∙ left-alike call.says _ _ starts₀ (λ e. ap (λ (m : Note). m.starts) (made e));
        ends_are = call.ends_are ∙ left-alike call.says _ _ ends₀ (λ e. ap (λ (m : Note). m.ends) (made e));
      }

-- two calls of replacing, with the same note, list, content and buffers
calls-alike : {most : ℕ} {n : Note} {list content out₀ starts₀ ends₀ : List ℕ} {r q : Result ℕ Refusal} {out starts ends out₁ starts₁ ends₁ : List ℕ}
    → Replacing most n list content out₀ starts₀ ends₀ r out starts ends → Replacing most n list content out₀ starts₀ ends₀ q out₁ starts₁ ends₁
    → (r ≡ q) × (out ≡ out₁) × (starts ≡ starts₁) × (ends ≡ ends₁)
calls-alike {n = n} {list} {content} {out₀} {starts₀} {ends₀} c d =
    let same : c.says ≡ d.says = c.says_is ∙ sym d.says_is in (
      c.answer ∙ rw same (sym d.answer),
      c.text_is ∙ rw same (sym d.text_is),
      c.starts_are ∙ rw same (sym d.starts_are),
      c.ends_are ∙ rw same (sym d.ends_are),
    )

road-call-replaces : RoadCallReplaces
road-call-replaces most n list content out₀ starts₀ ends₀ a₀ b₀ a b r q out starts ends out₁ starts₁ ends₁ call other ample = calls-alike (road-call call ample) other

pub road-is-replaced : RoadIsReplaced
road-is-replaced = (road-back-replaces, road-call-replaces)

-- an accepted call had scratch that is large enough
module _ {most : ℕ} {n : Note} {list content out₀ starts₀ ends₀ : List ℕ} {a₀ b₀ a b : Scratch} {size : ℕ} {out starts ends : List ℕ}
    (call : ReplacingByEdits most n list content out₀ starts₀ ends₀ a₀ b₀ (Ok size) out starts ends a b) where
  ample-scratch : scratch_size n list content ≤ scratch_room a₀ b₀
  ample-scratch =
      let room : ℕ = least (length out₀) (length starts₀) (length ends₀) in
      let accepted : verdict (by_edits_faults most n list content room (scratch_room a₀ b₀)) ≡ Accepted = sym call.says_is ∙ (says-published call.says size _ call.answer).0 in
      room-enough (scratch_size n list content) (scratch_room a₀ b₀)
      (accepted-second (replace_faults most n list content room) (room_faults (scratch_size n list content) (scratch_room a₀ b₀)) accepted)

pub road-blanking : RoadBlanking
road-blanking most n m list content a b outₙ₀ startsₙ₀ endsₙ₀ outₙ startsₙ endsₙ outₘ₀ startsₘ₀ endsₘ₀ outₘ startsₘ endsₘ firstₙ₀ secondₙ₀ firstₙ secondₙ firstₘ₀ secondₘ₀ firstₘ secondₘ one two =
    blanking most n m list content a b outₙ₀ startsₙ₀ endsₙ₀ outₙ startsₙ endsₙ outₘ₀ startsₘ₀ endsₘ₀ outₘ startsₘ endsₘ
    (road-call one (ample-scratch one)) (road-call two (ample-scratch two))

-- THE CHECKS: those of replacing, then that of scratch
module _ (most : ℕ) (n : Note) (list content : List ℕ) (room spare : ℕ) {r : Result ℕ Refusal} (told : r ≡ publication (verdict (replace_faults most n list content room)) (places_size (length content) (places_of list))) where
  pub still-refused : {k : Refusal} → r ≡ Err k → Err k ≡ publication (verdict (by_edits_faults most n list content room spare)) (places_size (length content) (places_of list))
  still-refused {k} e =
      let said : verdict (replace_faults most n list content room) ≡ Err k = says-refused _ k _ (sym e ∙ told) in
      rw (by-edits-verdict most n list content room spare, said)

  module _ {size : ℕ} (e : r ≡ Ok size) where
    accepted : verdict (replace_faults most n list content room) ≡ Accepted
    accepted = (says-published _ size _ (sym e ∙ told)).0

    is-size : size ≡ places_size (length content) (places_of list)
    is-size = (says-published (verdict (replace_faults most n list content room)) size (places_size (length content) (places_of list)) (sym e ∙ told)).1

    needs : scratch_size n list content ≡ length n.normalized + size
    unfolding replaced
    needs =
        let text = length-laid n.normalized n.normalized (λ end. content) (length content) 0 (places_of list) refl (λ k. refl) (accepted-taken most n list content room accepted).covered in
        omega (arith, text, is-size)

    pub sum-small : (length n.normalized ≤ most) × (size ≤ most)
    sum-small =
        (normalized_short most n (accepted-note most n list content room accepted).1, omega (arith, accepted-room most n list content room accepted, needs))

    pub scratch-short : spare < length n.normalized + size → Err NoRoom ≡ publication (verdict (by_edits_faults most n list content room spare)) (places_size (length content) (places_of list))
    scratch-short h =
        let less : spare < scratch_size n list content = omega (arith, needs) in
        let short : Err NoRoom ≡ verdict (room_faults (scratch_size n list content) spare) = no_room less in
        rw (by-edits-verdict most n list content room spare, accepted, ← short)

    pub scratch-ample : length n.normalized + size ≤ spare → Ok size ≡ publication (verdict (by_edits_faults most n list content room spare)) (places_size (length content) (places_of list))
    scratch-ample h =
        let ample : scratch_size n list content ≤ spare = omega (arith, needs) in
        rw (ample-verdict most n list content room spare ample, accepted) (ap Ok is-size)

-- the road does not look at transcript and shift
road-dressed : (ps : List Place) (content original text starts ends : List ℕ) (shift : ℕ)
    → road_back ps content (lent original text starts ends shift)
    ≡ lent original (road_back ps content (lent [] text starts ends 0)).normalized (road_back ps content (lent [] text starts ends 0)).starts (road_back ps content (lent [] text starts ends 0)).ends shift
unfolding road_back transformed
road-dressed [] content original text starts ends shift = refl
road-dressed (p ∷ ps) content original text starts ends shift =
    true-or-false p.matched
    (λ t. rw (t, road-dressed ps content original text starts ends shift))
    (λ u. rw (u, road-dressed ps content original text starts ends shift))

accepted-covers : (most : ℕ) (n : Note) (list content : List ℕ) (room : ℕ) → verdict (replace_faults most n list content room) ≡ Accepted → covers n.normalized list ≡ true
accepted-covers most n list content room e = not-false (covers n.normalized list) (sym (or-false (not (covers n.normalized list))) ∙ accepted-meets (replace_faults most n list content room) e BadMatches)

within : (text : ℕ) {size result spare : ℕ} → result ≡ size → text + result ≤ spare → text + size ≤ spare
within text e h = omega arith

rooms-fit : (x y z most : ℕ) {size result : ℕ} → result ≡ size → result ≤ min most (least x y z) → (size ≤ x) × ((size ≤ y) × (size ≤ z))
rooms-fit x y z most e h = (omega arith, (omega arith, omega arith))

-- THE CALL, from what is checked
module _ (most : ℕ) (original text starts ends : List ℕ) (shift : ℕ) (list content out₀ starts₀ ends₀ : List ℕ) (a₀ b₀ : Scratch) {r : Result ℕ Refusal} {room spare x y : ℕ}
    (rooms : room ≡ least (length out₀) (length starts₀) (length ends₀))
    (first : x ≡ least (length a₀.text) (length a₀.starts) (length a₀.ends))
    (second : y ≡ least (length b₀.text) (length b₀.starts) (length b₀.ends))
    (spares : spare ≡ min x y)
    (told : r ≡ publication (verdict (by_edits_faults most (lent original text starts ends shift) list content room spare)) (places_size (length content) (places_of list))) where
  abbrev n : Note
  n = lent original text starts ends shift

  abbrev all : ℕ
  all = least (length out₀) (length starts₀) (length ends₀)

  said-is : r ≡ publication (verdict (by_edits_faults most n list content all (scratch_room a₀ b₀))) (places_size (length content) (places_of list))
  said-is = told ∙ rw (rooms, spares, first, second)

  pub call-refused : {k : Refusal} → r ≡ Err k → ReplacingByEdits most n list content out₀ starts₀ ends₀ a₀ b₀ (Err k) out₀ starts₀ ends₀ a₀ b₀
  call-refused {k} e =
      record {
        says = Err k;
        says_is = sym (says-refused _ k _ (sym e ∙ said-is));
        answer = refl;
        text_is = refl;
        starts_are = refl;
        ends_are = refl;
        first_left = record { text_left = refl; starts_left = refl; ends_left = refl };
        second_left = record { text_left = refl; starts_left = refl; ends_left = refl };
      }

  module _ {size : ℕ} (e : r ≡ Ok size) where
    says-yes : verdict (by_edits_faults most n list content all (scratch_room a₀ b₀)) ≡ Accepted
    says-yes = (says-published _ size _ (sym e ∙ said-is)).0

    replaces : verdict (replace_faults most n list content all) ≡ Accepted
    replaces = accepted-first (replace_faults most n list content all) (room_faults (scratch_size n list content) (scratch_room a₀ b₀)) says-yes

    pub call-room : RoadRoom (lent [] text starts ends 0) list content out₀ starts₀ ends₀ a₀ b₀
    unfolding replaced
    call-room =
        let given = accepted-given most n list content all replaces in
        let long : length (laid (λ end. content) (places_of list) text) ≡ places_size (length content) (places_of list) = length-laid text text (λ end. content) (length content) 0 (places_of list) refl (λ k. refl) given.covered in
        let fit = rooms-fit (length out₀) (length starts₀) (length ends₀) most long (accepted-room most n list content all replaces) in
        let spare-fit = room-enough (scratch_size n list content) (scratch_room a₀ b₀) (accepted-second (replace_faults most n list content all) (room_faults (scratch_size n list content) (scratch_room a₀ b₀)) says-yes) in
        record {
          ready = record {
            editable = sound-editable n given.sound;
            covered = accepted-covers most n list content all replaces;
            formed = given.formed;
            room = within (length text) long spare-fit;
          };
          text_room = fit.0;
          starts_room = fit.1.0;
          ends_room = fit.1.1;
        }

    pub call-taken : {m : ℕ} {out starts₁ ends₁ : List ℕ} {a b : Scratch} → RoadLaid (lent [] text starts ends 0) list content out₀ starts₀ ends₀ a₀ b₀ m out starts₁ ends₁ a b
        → ReplacingByEdits most n list content out₀ starts₀ ends₀ a₀ b₀ (Ok m) out starts₁ ends₁ a b
    call-taken l =
        let dressed = road-dressed (places_of list) content original text starts ends shift in
        record {
          says = Accepted;
          says_is = sym says-yes;
          answer = rw dressed (ap Ok l.laid.reached);
          text_is = rw dressed l.laid.text_is;
          starts_are = rw dressed l.laid.starts_are;
          ends_are = rw dressed l.laid.ends_are;
          first_left = l.rooms.first_same;
          second_left = l.rooms.second_same;
        }
