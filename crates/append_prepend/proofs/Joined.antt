-- What `append` and `prepend` answer by the checks that were made, and two runs laid one after the other.
use Prim.Native.Nat.{ℕ, ◌+◌, ◌-◌, ◌≤◌, ◌<◌, min}
use mathlib.Core.Path.{◌≡◌, ◌∙◌, ap, refl, sym}
use mathlib.Core.Bool.{Bool, true, false, not}
use mathlib.Core.List.{List, ◌++◌}
use native.Mathlib.Omega.{arith}
use lib.Dec.{leb}
use lib.ListN.{length, get_or, drop, replicate, length-append, length-replicate}
use lib.Seq.{take-length}
use borrow.Author.Tests.{not-true, not-false, le-leb, lt-leb, leb-true, leb-false, eq-eqb, ne_eqb}
use Rattle.std.specs.Prelude.{Result, Ok, Err}
use Rattle.buffers.specs.Splice.{part, splice, overlay}
use Rattle.buffers.proofs.Splice.{splice-splice, splice-overlay, part_end}
use Rattle.buffers.proofs.Cases.{le-or-lt}
use Rattle.utf8.specs.Formed.{announced, well_formed}
use Rattle.utf8.proofs.Boundaries.{boundary-zero, char-at}
use Rattle.note.specs.declared.Refusal.{Refusal}
use Rattle.note.specs.declared.Refusal.TheVariants.{NoRoom}
use Rattle.note.specs.Refusals.{least, also, verdict, Verdict, Accepted}
use Rattle.note.specs.Rank.{earlier}
use Rattle.note.specs.Notes.{Note, lent, before_end, Sound}
use Rattle.note.specs.Faults.{note_faults, string_faults}
use Rattle.note.proofs.FirstMet.{earlier-of, accepted-first, accepted-second}
use Rattle.note.proofs.Sound.{length-starts, length-ends, normalized-formed}
use Rattle.note.proofs.Faults.{accepted-sound, string-formed}
use Rattle.edit_steps.specs.Edits.{characters, Edit, edited, transformed}
use Rattle.transform.specs.Transforming.{call_faults, Rewritten}
use Rattle.buffers.specs.Keeping.{PartKept}
use Rattle.transform.proofs.Verdicts.{inputs-refused, inputs-accepted, too_large, small-enough, refused-rewritten, accepted-rewritten}
use Rattle.edits.specs.Whole.{append_edit, prepend_edit}
use Rattle.edits.specs.Plain.{Makes}
use Rattle.append_prepend.specs.Joining.{appended, front_of, prepended}
use Rattle.append_prepend.specs.Laying.{JoinRoom, AppendedLaid, FrontRoom, PrependRoom, PrependedLaid}
use Rattle.edits.proofs.Head.{none_of}
use Rattle.append_prepend.proofs.Closed.{appended-closed, prepended-closed}

-- the test of two lengths
pub too-little : (kept more room : ℕ) → room < kept → false ≡ leb (kept + more) room
too-little kept more room h = sym (lt-leb (kept + more) room (omega arith))

pub left_over : (kept more room : ℕ) → kept ≤ room → leb more (room - kept) ≡ leb (kept + more) room
left_over kept more room h =
    le-or-lt (kept + more) room
    (λ k. le-leb more (room - kept) (omega arith) ∙ sym (le-leb (kept + more) room k))
    (λ k. lt-leb more (room - kept) (omega arith) ∙ sym (lt-leb (kept + more) room k))

-- two runs, one after the other
pub pair-laid : (p q d₀ : List ℕ) {d₁ d₂ : List ℕ} {m : ℕ} → m ≡ length p → d₁ ≡ splice d₀ 0 p → d₂ ≡ splice d₁ m q → d₂ ≡ overlay (p ++ q) d₀
pair-laid p q d₀ is first second =
    let near : 0 + length p ≡ length p = omega arith in
    second ∙ rw (first, is) (rw near at (splice-splice d₀ p q 0 (omega arith))) ∙ splice-overlay d₀ (p ++ q)

whole_part : (xs : List ℕ) {m : ℕ} → length xs ≡ m → part xs 0 m ≡ xs
whole_part xs e = let z : length xs - 0 ≡ length xs = omega arith in rw (← e, z) (take-length xs)

pub append-laid : {s starts ends string out₀ starts₀ ends₀ : List ℕ} → JoinRoom s starts ends string out₀ starts₀ ends₀
    → {out₁ starts₁ ends₁ out₂ starts₂ ends₂ : List ℕ} {x y : ℕ} → PartKept s starts ends 0 (length s) out₀ starts₀ ends₀ 0 out₁ starts₁ ends₁
    → out₂ ≡ splice out₁ (length s) string → x ≡ before_end starts (length s) → starts₂ ≡ splice starts₁ (length s) (replicate (length string) x)
    → y ≡ before_end ends (length s) → ends₂ ≡ splice ends₁ (length s) (replicate (length string) y)
    → AppendedLaid s starts ends string out₀ starts₀ ends₀ (length s + length string) out₂ starts₂ ends₂
append-laid {s} {starts} {ends} {string} {out₀} {starts₀} {ends₀} r k o x st y en =
    record {
      reached = refl;
      text_is = pair-laid s string out₀ refl (rw (whole_part s refl) at k.text_is) o;
      starts_are = pair-laid starts _ starts₀ (sym r.one_start) (rw (whole_part starts r.one_start) at k.starts_are) (rw x at st);
      ends_are = pair-laid ends _ ends₀ (sym r.one_end) (rw (whole_part ends r.one_end) at k.ends_are) (rw y at en);
    }

-- what the first character carries, a column after it, and both texts
pub front-none : (string xs : List ℕ) → length string ≡ 0 → 0 ≡ front_of string xs
unfolding front_of
front-none string xs z = rw (eq-eqb (length string) 0 z)

pub front-some : (string xs : List ℕ) → (length string ≡ 0 → ⊥) → get_or xs 0 0 ≡ front_of string xs
unfolding front_of
front-some string xs h = rw (ne_eqb (length string) 0 h)

pub column-laid : (front count wide : ℕ) (xs d₀ : List ℕ) {d₁ d₂ : List ℕ} → d₁ ≡ splice d₀ 0 (replicate (count + wide) front) → d₂ ≡ splice d₁ (count + wide) (part xs wide (length xs)) → d₂ ≡ overlay (replicate (count + wide) front ++ drop wide xs) d₀
column-laid front count wide xs d₀ first second =
    pair-laid (replicate (count + wide) front) (drop wide xs) d₀ (sym (length-replicate (count + wide) front)) first (rw (part_end xs wide) at second)

-- the first character is inside a column, and there is room for the column after the string
pub front_fits : {s starts ends string out starts₀ ends₀ xs d : List ℕ} {wide : ℕ} → PrependRoom s starts ends string out starts₀ ends₀ → wide ≡ announced (get_or s 0 0) → length xs ≡ length s → length s + length string ≤ length d → FrontRoom (length string) xs wide d
front_fits {s} r is one room =
    record { inside = omega (arith, (char-at s 0 r.formed (boundary-zero s r.formed) r.some).inside); room = omega arith }

pub prepend-laid : {s starts ends string out₀ starts₀ ends₀ : List ℕ} {wide x y : ℕ} {out₁ out starts₁ ends₁ : List ℕ} → wide ≡ announced (get_or s 0 0)
    → out₁ ≡ splice out₀ 0 string → out ≡ splice out₁ (length string) s → x ≡ front_of string starts
    → starts₁ ≡ overlay (replicate (length string + wide) x ++ drop wide starts) starts₀ → y ≡ front_of string ends
    → ends₁ ≡ overlay (replicate (length string + wide) y ++ drop wide ends) ends₀
    → PrependedLaid s starts ends string out₀ starts₀ ends₀ (length string + length s) out starts₁ ends₁
prepend-laid {s} {string = string} {out₀ = out₀} w first second x st y en =
    record { reached = refl; text_is = pair-laid string s out₀ refl first second; starts_are = rw (w, x) at st; ends_are = rw (w, y) at en }

-- the call: note and string, then the room
module _ (most : ℕ) (n : Note) (string : List ℕ) {u v w : Verdict} (noted : u ≡ verdict (note_faults most n)) (told : v ≡ verdict (string_faults string)) (first : w ≡ earlier u v) where
  inputs : w ≡ verdict (also (note_faults most n) (string_faults string))
  inputs = earlier-of (note_faults most n) (string_faults string) noted told first

  module _ (e : Edit) (out₀ starts₀ ends₀ : List ℕ) where
    abbrev Joined : Result ℕ Refusal → List ℕ → List ℕ → List ℕ → Type 0
    Joined r out starts ends =
        Rewritten (verdict (call_faults most n (string_faults string) e (least (length out₀) (length starts₀) (length ends₀)))) (transformed n e) out₀ starts₀ ends₀ r out starts ends

    pub join-refused : {k : Refusal} → w ≡ Err k → Joined (Err k) out₀ starts₀ ends₀
    join-refused is = inputs-refused most n (also (note_faults most n) (string_faults string)) refl e out₀ starts₀ ends₀ inputs is

  module _ (ok : w ≡ Accepted) where
    pub join-sound : Sound n
    join-sound = (accepted-sound most n (accepted-first (note_faults most n) (string_faults string) (sym inputs ∙ ok))).0

    pub join-formed : well_formed string ≡ true
    join-formed = string-formed string (accepted-second (note_faults most n) (string_faults string) (sym inputs ∙ ok))

    module _ (e : Edit) {made : Note} (m : Makes n e made) (out₀ starts₀ ends₀ : List ℕ) {low room : ℕ} (lowest : low ≡ least (length out₀) (length starts₀) (length ends₀)) (r : room ≡ min most low) where
      size : length (edited characters n.normalized e n.normalized) ≡ length made.normalized
      unfolding transformed
      size = ap (λ (x : Note). length x.normalized) m.leaves

      pub join-large : room < length made.normalized → Joined e out₀ starts₀ ends₀ (Err NoRoom) out₀ starts₀ ends₀
      join-large h =
          inputs-accepted most n (also (note_faults most n) (string_faults string)) refl e out₀ starts₀ ends₀ inputs ok refl
          (refused-rewritten (too_large most n.normalized e (least (length out₀) (length starts₀) (length ends₀)) m.lies m.feeds (omega (arith, size, lowest, r))))

      pub join-made : length made.normalized ≤ room → {k : ℕ} {out starts ends : List ℕ} → k ≡ length made.normalized → out ≡ overlay made.normalized out₀ → starts ≡ overlay made.starts starts₀ → ends ≡ overlay made.ends ends₀ → Joined e out₀ starts₀ ends₀ (Ok k) out starts ends
      unfolding transformed
      join-made h is o s t =
          inputs-accepted most n (also (note_faults most n) (string_faults string)) refl e out₀ starts₀ ends₀ inputs ok refl
          (accepted-rewritten (small-enough most n.normalized e (least (length out₀) (length starts₀) (length ends₀)) m.lies m.feeds (omega (arith, size, lowest, r)))
          (is ∙ ap (λ (x : Note). length x.normalized) (sym m.leaves))
          (o ∙ ap (λ (x : Note). overlay x.normalized out₀) (sym m.leaves))
          (s ∙ ap (λ (x : Note). overlay x.starts starts₀) (sym m.leaves))
          (t ∙ ap (λ (x : Note). overlay x.ends ends₀) (sym m.leaves)))

    -- APPEND
    module _ (out₀ starts₀ ends₀ : List ℕ) {low room : ℕ} (lowest : low ≡ least (length out₀) (length starts₀) (length ends₀)) (r : room ≡ min most low) {t : Bool} (is : t ≡ leb (length n.normalized + length string) room) where
      behind : Makes n (append_edit n string) (appended n string)
      behind = appended-closed n string join-sound join-formed

      long : length (appended n string).normalized ≡ length n.normalized + length string
      unfolding appended
      long = length-append n.normalized string

      pub append-large : not t ≡ true → Joined (append_edit n string) out₀ starts₀ ends₀ (Err NoRoom) out₀ starts₀ ends₀
      append-large f =
          join-large (append_edit n string) behind out₀ starts₀ ends₀ lowest r
          (omega (arith, long, leb-false (length n.normalized + length string) room (sym is ∙ not-true t f)))

      module _ (f : not t ≡ false) where
        enough : length n.normalized + length string ≤ room
        enough = leb-true _ _ (sym is ∙ not-false t f)

        pub append-room : JoinRoom n.normalized n.starts n.ends string out₀ starts₀ ends₀
        append-room =
            record {
              one_start = length-starts n join-sound;
              one_end = length-ends n join-sound;
              text_room = omega (arith, enough, lowest, r);
              starts_room = omega (arith, enough, lowest, r);
              ends_room = omega (arith, enough, lowest, r);
            }

        pub append-made : {k : ℕ} {out starts ends : List ℕ} → AppendedLaid n.normalized n.starts n.ends string out₀ starts₀ ends₀ k out starts ends → Joined (append_edit n string) out₀ starts₀ ends₀ (Ok k) out starts ends
        unfolding appended
        append-made l =
            join-made (append_edit n string) behind out₀ starts₀ ends₀ lowest r (omega (arith, long, enough)) (l.reached ∙ sym long) l.text_is l.starts_are l.ends_are

    -- PREPEND
    module _ (out₀ starts₀ ends₀ : List ℕ) where
      before : Makes n (prepend_edit n string) (prepended n string)
      before = prepended-closed n string join-sound join-formed

      empty-made : length n.normalized ≡ 0 → prepended n string ≡ n
      unfolding prepended
      empty-made z = rw (eq-eqb (length n.normalized) 0 z)

      pub prepend-empty : length n.normalized ≡ 0 → Joined (prepend_edit n string) out₀ starts₀ ends₀ (Ok 0) out₀ starts₀ ends₀
      unfolding overlay
      prepend-empty z =
          let there : Makes n (prepend_edit n string) n = rw (empty-made z) at before in
          join-made (prepend_edit n string) there out₀ starts₀ ends₀ refl refl (omega arith) (sym z)
          (rw (none_of n.normalized z)) (rw (none_of n.starts (length-starts n join-sound ∙ z))) (rw (none_of n.ends (length-ends n join-sound ∙ z)))

      module _ (more : length n.normalized ≡ 0 → ⊥) {low room : ℕ} (lowest : low ≡ least (length out₀) (length starts₀) (length ends₀)) (r : room ≡ min most low) {t : Bool} (is : t ≡ leb (length n.normalized + length string) room) where
        some-made :
            prepended n string
            ≡ lent n.original (string ++ n.normalized)
            (replicate (length string + announced (get_or n.normalized 0 0)) (front_of string n.starts) ++ drop (announced (get_or n.normalized 0 0)) n.starts)
            (replicate (length string + announced (get_or n.normalized 0 0)) (front_of string n.ends) ++ drop (announced (get_or n.normalized 0 0)) n.ends)
            n.original_shift
        unfolding prepended
        some-made = rw (ne_eqb (length n.normalized) 0 more)

        there : Makes n (prepend_edit n string)
            (lent n.original (string ++ n.normalized)
            (replicate (length string + announced (get_or n.normalized 0 0)) (front_of string n.starts) ++ drop (announced (get_or n.normalized 0 0)) n.starts)
            (replicate (length string + announced (get_or n.normalized 0 0)) (front_of string n.ends) ++ drop (announced (get_or n.normalized 0 0)) n.ends)
            n.original_shift)
        there = rw some-made at before

        far : length (string ++ n.normalized) ≡ length string + length n.normalized
        far = length-append string n.normalized

        pub prepend-large : not t ≡ true → Joined (prepend_edit n string) out₀ starts₀ ends₀ (Err NoRoom) out₀ starts₀ ends₀
        prepend-large f =
            join-large (prepend_edit n string) there out₀ starts₀ ends₀ lowest r
            (omega (arith, far, leb-false (length n.normalized + length string) room (sym is ∙ not-true t f)))

        module _ (f : not t ≡ false) where
          pub prepend-room : PrependRoom n.normalized n.starts n.ends string out₀ starts₀ ends₀
          prepend-room =
              record {
                formed = normalized-formed n join-sound;
                some = omega (arith, more);
                rooms = append-room out₀ starts₀ ends₀ lowest r is f;
              }

          pub prepend-made : {k : ℕ} {out starts ends : List ℕ} → PrependedLaid n.normalized n.starts n.ends string out₀ starts₀ ends₀ k out starts ends → Joined (prepend_edit n string) out₀ starts₀ ends₀ (Ok k) out starts ends
          prepend-made l =
              join-made (prepend_edit n string) there out₀ starts₀ ends₀ lowest r (omega (arith, far, leb-true (length n.normalized + length string) room (sym is ∙ not-false t f)))
              (l.reached ∙ sym far) l.text_is l.starts_are l.ends_are
