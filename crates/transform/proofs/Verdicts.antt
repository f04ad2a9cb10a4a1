-- Laws of `editFaults` and `callFaults`: what an accepted edit tells, and what the calls answer by the checks that
-- were made.
use Prim.Native.Nat.{ℕ, ◌+◌, ◌-◌, ◌≤◌, ◌<◌, min}
use mathlib.Core.Path.{◌≡◌, ◌∙◌, ap, refl, sym}
use mathlib.Core.Bool.{Bool, true, false, cond, ◌&&◌, not}
use mathlib.Mathlib.Data.Bool.Basic.{and_elim_left, and_elim_right}
use mathlib.Core.List.{List, []}
use native.Mathlib.Omega.{arith}
use lib.Dec.{leb}
use lib.ListN.{length, drop}
use borrow.Author.Tests.{not-true, not-false, le-leb, lt-leb, leb-true}
use Rattle.std.specs.Prelude.{Result, Ok, Err, Option, Some, None}
use Rattle.buffers.specs.Splice.{overlay}
use Rattle.buffers.proofs.Cases.{true-or-false}
use Rattle.buffers.proofs.Booleans.{and-false-l, and_false_r}
use Rattle.utf8.specs.Formed.{well_formed, boundary}
use Rattle.utf8.proofs.Boundaries.{boundary-most}
use Rattle.note.specs.declared.Refusal.{Refusal}
use Rattle.note.specs.declared.Refusal.TheVariants.{TooLong, NotBoundary, BadScript, Exhausted, NoRoom, CountMismatch, Misaligned}
use Rattle.note.specs.Refusals.{order, least, also, verdict, Verdict, Accepted}
use Rattle.note.specs.Notes.{Note, lent, fits, Sound}
use Rattle.note.specs.Faults.{note_faults}
use Rattle.note.specs.Rank.{up_to}
use Rattle.note.proofs.FirstMet.{accepted-meets, unmet, refused-then, accepted-then}
use Rattle.note.proofs.Sound.{length-starts, length-ends, normalized-formed}
use Rattle.note.proofs.Faults.{accepted-sound}
use Rattle.convert.specs.declared.Range.{Range}
use Rattle.convert.specs.Converting.{start_of, end_of}
use Rattle.convert.specs.Blocks.{OrderedColumns}
use Rattle.convert.proofs.Answered.{accepted-columns}
use Rattle.numbers.specs.Entries.{read_from}
use Rattle.script.specs.declared.Command.{Command}
use Rattle.script.specs.Scripts.{commands_of, whole, script_faults}
use Rattle.utf8.specs.Formed.{char_range}
use Rattle.edit_steps.specs.Edits.{skipped, characters, starved, Edit, first_position, edited, transformed}
use Rattle.edit_steps.specs.Walking.{Standing, commands_size, measured}
use Rattle.edit_steps.specs.Laying.{Editable, EditRoom, EditLaid}
use Rattle.transform.specs.Transforming.{edit_of, edit_faults, Rewritten}
use Rattle.edit_steps.proofs.Positions.{standing-skipped}
use Rattle.edit_steps.proofs.Measured.{measured-starved, measured-size}
use Rattle.edit_steps.proofs.Given.{characters-wide, length-relaid}

-- a range from a boundary to a boundary
module _ {s : List ℕ} (e : Edit) (formed : well_formed s ≡ true) (p : char_range s e.from e.to ≡ true) where
  pub placed-from : Standing s e.to e.from
  unfolding char_range
  placed-from =
      let two : (leb e.from e.to && boundary s e.from) ≡ true = and_elim_left _ (boundary s e.to) p in
      record {
        formed = formed;
        ends = and_elim_right (leb e.from e.to && boundary s e.from) _ p;
        stands = and_elim_right (leb e.from e.to) _ two;
        most = leb-true _ _ (and_elim_left _ (boundary s e.from) two);
      }

  pub placed-standing : Standing s e.to (first_position s e)
  unfolding first_position
  placed-standing = (standing-skipped e.skip placed-from).0

-- an edit that is accepted
module _ (most : ℕ) (s : List ℕ) (e : Edit) (room : ℕ) (a : verdict (edit_faults most s e room) ≡ Accepted) where
  pub accepted-placed : char_range s e.from e.to ≡ true
  accepted-placed = not-false (char_range s e.from e.to) (accepted-meets (edit_faults most s e room) a NotBoundary)

  pub accepted-fed : starved s e.to (first_position s e) e.commands ≡ false
  accepted-fed = accepted-meets (edit_faults most s e room) a Exhausted

  pub accepted-size : length (edited characters s e s) ≤ min most room
  accepted-size = leb-true _ _ (not-false (leb (length (edited characters s e s)) (min most room)) (accepted-meets (edit_faults most s e room) a NoRoom))

-- the edit's part of the verdict, by what the code tests
module _ (most : ℕ) (s : List ℕ) (e : Edit) (room : ℕ) where
  pub not-boundary : char_range s e.from e.to ≡ false → Err NotBoundary ≡ verdict (edit_faults most s e room)
  unfolding verdict
  not-boundary p = rw p

  pub starving : char_range s e.from e.to ≡ true → starved s e.to (first_position s e) e.commands ≡ true → Err Exhausted ≡ verdict (edit_faults most s e room)
  unfolding verdict
  starving p f = rw (p, f)

  module _ (p : char_range s e.from e.to ≡ true) (f : starved s e.to (first_position s e) e.commands ≡ false) where
    pub too_large : min most room < length (edited characters s e s) → Err NoRoom ≡ verdict (edit_faults most s e room)
    unfolding verdict
    too_large h = rw (p, f, lt-leb _ _ h)

    pub small-enough : length (edited characters s e s) ≤ min most room → Accepted ≡ verdict (edit_faults most s e room)
    unfolding verdict
    small-enough h = rw (p, f, le-leb _ _ h)

-- what a verdict leaves
pub refused-rewritten : {v : Verdict} {made : Note} {out starts ends : List ℕ} {k : Refusal} → Err k ≡ v → Rewritten v made out starts ends (Err k) out starts ends
refused-rewritten {made = made} {out} {starts} {ends} e =
    rw (← e) (record { answer = refl; text_is = refl; starts_are = refl; ends_are = refl })

pub accepted-rewritten : {v : Verdict} {made : Note} {out₀ starts₀ ends₀ : List ℕ} {size : ℕ} {out starts ends : List ℕ} → Accepted ≡ v
    → size ≡ length made.normalized → out ≡ overlay made.normalized out₀ → starts ≡ overlay made.starts starts₀
    → ends ≡ overlay made.ends ends₀ → Rewritten v made out₀ starts₀ ends₀ (Ok size) out starts ends
accepted-rewritten e long o s t = rw (← e) (record { answer = ap Ok long; text_is = o; starts_are = s; ends_are = t })

-- AN EDIT of an accepted note, as the code goes through it
module _ (most : ℕ) {s starts ends : List ℕ} (ed : Editable s starts ends) (a b skip : ℕ) (cs : List Command) (out₀ starts₀ ends₀ : List ℕ) {t : Bool} (is : t ≡ char_range s a b) where
  e : Edit
  e = record { from = a; to = b; skip = skip; commands = cs }

  rooms : ℕ
  rooms = least (length out₀) (length starts₀) (length ends₀)

  abbrev Made : Result ℕ Refusal → List ℕ → List ℕ → List ℕ → Type 0
  Made r out starts₁ ends₁ =
      Rewritten (verdict (edit_faults most s (record { from = a; to = b; skip = skip; commands = cs }) (least (length out₀) (length starts₀) (length ends₀))))
      (transformed (lent [] s starts ends 0) (record { from = a; to = b; skip = skip; commands = cs }))
      out₀ starts₀ ends₀ r out starts₁ ends₁

  pub not-placed : not t ≡ true → Made (Err NotBoundary) out₀ starts₀ ends₀
  unfolding e rooms
  not-placed u = refused-rewritten (not-boundary most s e rooms (sym is ∙ not-true t u))

  module _ (u : not t ≡ false) where
    is-placed : char_range s a b ≡ true
    is-placed = sym is ∙ not-false t u

    pub from-standing : Standing s b a
    unfolding e
    from-standing = placed-from e ed.formed is-placed

    pub range_inside : (a ≤ b) × (b ≤ length s)
    range_inside = (from-standing.most, boundary-most s b from-standing.ends)

    module _ {p : ℕ} (begun : p ≡ skipped s b skip a) where
      pub begun-standing : Standing s b p
      begun-standing = rw begun (standing-skipped skip from-standing).0

      module _ {x : Option ℕ} (m : x ≡ measured s b p cs) where
        pub starved-refused : x ≡ None → Made (Err Exhausted) out₀ starts₀ ends₀
        unfolding e rooms first_position
        starved-refused st =
            refused-rewritten (starving most s e rooms is-placed (rw (← begun) (measured-starved s b p cs (sym m ∙ st))))

        module _ {size : ℕ} (some : x ≡ Some size) {low room : ℕ} (lowest : low ≡ least (length out₀) (length starts₀) (length ends₀)) (r : room ≡ min most low) where
          told : (starved s b p cs ≡ false) × (size ≡ commands_size cs)
          told = measured-size s b p cs (sym m ∙ some)

          inside : b ≤ length s
          inside = boundary-most s b from-standing.ends

          long : length (edited characters s e s) ≡ a + size + (length s - b)
          unfolding e edited first_position
          long = rw (← begun, told.1) (length-relaid characters characters-wide s b a p cs s (omega (arith, inside, from-standing.most)))

          here-fed : starved s b (first_position s e) cs ≡ false
          unfolding e first_position
          here-fed = rw (← begun) told.0

          pub refused-kept : room < a + (length s - b) → Made (Err NoRoom) out₀ starts₀ ends₀
          unfolding e rooms
          refused-kept h = refused-rewritten (too_large most s e rooms is-placed here-fed (omega (arith, long, lowest, r)))

          pub refused-size : a + (length s - b) ≤ room → room - (a + (length s - b)) < size → Made (Err NoRoom) out₀ starts₀ ends₀
          unfolding e rooms
          refused-size k h = refused-rewritten (too_large most s e rooms is-placed here-fed (omega (arith, long, lowest, r)))

          module _ (k : a + (length s - b) ≤ room) (f : size ≤ room - (a + (length s - b))) where
            pub edit-room : EditRoom s starts ends a b p cs out₀ starts₀ ends₀
            edit-room =
                record {
                  one_start = ed.one_start;
                  one_end = ed.one_end;
                  standing = begun-standing;
                  forward = from-standing.most;
                  inside = inside;
                  feeds = told.0;
                  text_room = omega (arith, told.1, lowest, r);
                  starts_room = omega (arith, told.1, lowest, r);
                  ends_room = omega (arith, told.1, lowest, r);
                }

            pub edit-made : {n : ℕ} {out starts₁ ends₁ : List ℕ} → EditLaid s starts ends a b p cs out₀ starts₀ ends₀ n out starts₁ ends₁ → Made (Ok n) out starts₁ ends₁
            unfolding e rooms transformed edited first_position
            edit-made {n} {out} {starts₁} {ends₁} d =
                let fine = small-enough most s e rooms is-placed here-fed (omega (arith, long, lowest, r)) in
                let laid : EditLaid s starts ends a b (skipped s b skip a) cs out₀ starts₀ ends₀ n out starts₁ ends₁ = rw begun at d in
                accepted-rewritten fine laid.reached laid.text_is laid.starts_are laid.ends_are

-- an edit after other inputs, all of whose conditions rank before its own
module _ (most : ℕ) (n : Note) (inputs : Refusal → Bool) (low : unmet (drop (up_to CountMismatch) order) inputs ≡ true) (e : Edit) (out₀ starts₀ ends₀ : List ℕ) {v : Verdict} (judged : v ≡ verdict inputs) where
  rest : Refusal → Bool
  rest = edit_faults most n.normalized e (least (length out₀) (length starts₀) (length ends₀))

  abbrev Behind : Result ℕ Refusal → List ℕ → List ℕ → List ℕ → Type 0
  Behind r out starts ends =
      Rewritten (verdict (also inputs (edit_faults most n.normalized e (least (length out₀) (length starts₀) (length ends₀))))) (transformed n e) out₀ starts₀ ends₀ r out starts ends

  pub inputs-refused : {k : Refusal} → v ≡ Err k → Behind (Err k) out₀ starts₀ ends₀
  unfolding rest
  inputs-refused is = refused-rewritten (refused-then (up_to CountMismatch) inputs rest low refl judged is)

  pub inputs-accepted : v ≡ Accepted → {d : Edit} → d ≡ e → {r : Result ℕ Refusal} {out starts ends : List ℕ}
      → Rewritten (verdict (edit_faults most n.normalized d (least (length out₀) (length starts₀) (length ends₀)))) (transformed (lent [] n.normalized n.starts n.ends 0) d) out₀ starts₀ ends₀ r out starts ends
      → Behind r out starts ends
  unfolding rest transformed
  inputs-accepted ok same made =
      let all : verdict rest ≡ verdict (also inputs rest) = accepted-then (up_to CountMismatch) inputs rest low refl judged ok refl in
      let k = rw same at made in
      rw (← all) (record { answer = k.answer; text_is = k.text_is; starts_are = k.starts_are; ends_are = k.ends_are })

-- what an accepted note gives
module _ (most : ℕ) (n : Note) {v : Verdict} (noted : v ≡ verdict (note_faults most n)) (ok : v ≡ Accepted) where
  pub note-columns : OrderedColumns most n.starts n.ends
  note-columns = accepted-columns most n (sym noted ∙ ok)

  pub note-editable : Editable n.normalized n.starts n.ends
  note-editable =
      let sound : Sound n = (accepted-sound most n (sym noted ∙ ok)).0 in
      record { formed = normalized-formed n sound; one_start = length-starts n sound; one_end = length-ends n sound }

-- THE CALL, as the code goes through it: note and script
module _ (most : ℕ) (n : Note) (l : List ℕ) {v : Verdict} (noted : v ≡ verdict (note_faults most n)) where
  pub note-refused : {k : Refusal} → v ≡ Err k → Err k ≡ verdict (also (note_faults most n) (script_faults l))
  note-refused e = refused-then (up_to Misaligned) (note_faults most n) (script_faults l) refl refl noted e

  module _ (ok : v ≡ Accepted) {t : Bool} (is : t ≡ whole l) where
    script-verdict : verdict (script_faults l) ≡ cond t Accepted (Err BadScript)
    unfolding verdict
    script-verdict = rw (← is) (true-or-false t (λ y. rw y) (λ z. rw z))

    pub script-refused : not t ≡ true → Err BadScript ≡ verdict (also (note_faults most n) (script_faults l))
    script-refused u = accepted-then (up_to Misaligned) (note_faults most n) (script_faults l) refl refl noted ok (sym (script-verdict ∙ rw (not-true t u)))

    pub script-accepted : not t ≡ false → Accepted ≡ verdict (also (note_faults most n) (script_faults l))
    script-accepted u = accepted-then (up_to Misaligned) (note_faults most n) (script_faults l) refl refl noted ok (sym (script-verdict ∙ rw (not-false t u)))

-- the edit of the range that was found
pub edit-found : {x y : Result Range Refusal} {r : Range} {a b : ℕ} (skip : ℕ) (cs : List Command) → x ≡ y → x ≡ Ok r → a ≡ start_of r → b ≡ end_of r → record { from = a; to = b; skip = skip; commands = cs } ≡ edit_of y skip cs
edit-found skip cs is found from to = rw (sym is ∙ found, from, to)

pub edit-none : {x y : Result Range Refusal} {k : Refusal} (skip : ℕ) (cs : List Command) → x ≡ y → x ≡ Err k → record { from = 0; to = 0; skip = 0; commands = commands_of [] } ≡ edit_of y skip cs
unfolding commands_of read_from
edit-none skip cs is none = rw (sym is ∙ none)

-- a transcript or a cleaned text over the limit
pub long-refused : (most : ℕ) (n : Note) → most < length n.original → verdict (note_faults most n) ≡ Err TooLong
unfolding verdict fits
long-refused most n h =
    rw (and-false-l _ (leb (n.original_shift + length n.original) most) (and-false-l _ (leb (length n.normalized) most) (lt-leb (length n.original) most h)))

pub long-text-refused : (most : ℕ) (n : Note) → most < length n.normalized → verdict (note_faults most n) ≡ Err TooLong
unfolding verdict fits
long-text-refused most n h =
    rw (and-false-l _ (leb (n.original_shift + length n.original) most) (and_false_r (leb (length n.original) most) _ (lt-leb (length n.normalized) most h)))
