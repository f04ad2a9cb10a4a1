-- Laws of `replaceFaults`: what an accepted call tells, and what the calls answer by the checks that were made.
use Prim.Native.Nat.{ℕ, ◌+◌, ◌≤◌, ◌<◌, min}
use mathlib.Core.Path.{◌≡◌, ◌∙◌, ap, refl, sym}
use mathlib.Core.Bool.{Bool, true, false, not}
use mathlib.Core.List.{List}
use native.Mathlib.Omega.{arith}
use lib.ListN.{length}
use borrow.Author.Tests.{not-true, not-false, le-leb, lt-leb}
use Rattle.std.specs.Prelude.{Result, Ok, Err}
use Rattle.buffers.proofs.Cases.{true-or-false}
use Rattle.utf8.specs.Formed.{well_formed}
use Rattle.note.specs.declared.Refusal.{Refusal}
use Rattle.note.specs.declared.Refusal.TheVariants.{BadMatches, NoRoom, Misaligned}
use Rattle.note.specs.Refusals.{least, also, verdict, Verdict, Accepted}
use Rattle.note.specs.Rank.{earlier}
use Rattle.note.specs.Notes.{Note, fits, Sound}
use Rattle.note.specs.Faults.{note_faults, string_faults, room_faults}
use Rattle.note.specs.Rank.{up_to}
use Rattle.note.proofs.FirstMet.{accepted-first, accepted-second, accepted-meets, earlier-of, refused-then, accepted-then}
use Rattle.note.proofs.Sound.{length-starts, length-ends}
use Rattle.note.proofs.Faults.{accepted-sound, string-formed, room-enough}
use Rattle.pattern.specs.Entries.{places_of}
use Rattle.pattern.specs.Places.{covers_from, covers, list_faults}
use Rattle.pattern.proofs.Places.{covers-places, covers-length}
use Rattle.replace.specs.Replacing.{laid, replaced, replace_faults, publication, Replacing}
use Rattle.replace.specs.Sizes.{places_size}
use Rattle.replace.specs.Laying.{Ready, AllLaid}
use Rattle.replace.proofs.Sizes.{length-laid}

-- the two halves of the conditions
abbrev lent_faults : ℕ → Note → List ℕ → Refusal → Bool
lent_faults most n content = also (note_faults most n) (string_faults content)

abbrev result_faults : List ℕ → List ℕ → ℕ → ℕ → Refusal → Bool
result_faults text list size room = also (list_faults text list) (room_faults size room)

abbrev size_in : Note → List ℕ → List ℕ → ℕ
size_in n list content = length (replaced (places_of list) content n).text

-- what an accepted call tells of its note: one alignment per byte, and places that cover the text
pub record Taken (n : Note) (list : List ℕ) : Type 0 where
  pub one_start : length n.starts ≡ length n.normalized
  pub one_end : length n.ends ≡ length n.normalized
  pub covered : covers_from n.normalized 0 (places_of list) ≡ true

-- notes that one list covers have texts of one length
pub taken-length : (n m : Note) (list : List ℕ) → Taken n list → Taken m list → length m.normalized ≡ length n.normalized
taken-length n m list tn tm = sym (covers-length n.normalized m.normalized 0 (places_of list) tn.covered tm.covered)

module _ (most : ℕ) (n : Note) (list content : List ℕ) (room : ℕ) (e : verdict (replace_faults most n list content room) ≡ Accepted) where
  lent-accepted : verdict (lent_faults most n content) ≡ Accepted
  lent-accepted = accepted-first (lent_faults most n content) (result_faults n.normalized list (size_in n list content) (min most room)) e

  result-accepted : verdict (result_faults n.normalized list (size_in n list content) (min most room)) ≡ Accepted
  result-accepted = accepted-second (lent_faults most n content) (result_faults n.normalized list (size_in n list content) (min most room)) e

  pub accepted-note : Sound n × (fits most n ≡ true)
  accepted-note = accepted-sound most n (accepted-first (note_faults most n) (string_faults content) lent-accepted)

  pub accepted-content : well_formed content ≡ true
  accepted-content = string-formed content (accepted-second (note_faults most n) (string_faults content) lent-accepted)

  pub accepted-taken : Taken n list
  accepted-taken =
      let listed = accepted-first (list_faults n.normalized list) (room_faults (size_in n list content) (min most room)) result-accepted in
      record {
        one_start = length-starts n accepted-note.0;
        one_end = length-ends n accepted-note.0;
        covered = covers-places n.normalized list (not-false (covers n.normalized list) (accepted-meets (list_faults n.normalized list) listed BadMatches));
      }

  pub accepted-room : size_in n list content ≤ min most room
  accepted-room = room-enough (size_in n list content) (min most room) (accepted-second (list_faults n.normalized list) (room_faults (size_in n list content) (min most room)) result-accepted)

-- what an answer says
pub says-published : (v : Verdict) (a size : ℕ) → Ok a ≡ publication v size → (v ≡ Accepted) × (a ≡ size)
says-published (Ok tt) a size e = (refl, cc)
says-published (Err k) a size e = let z : ◌≡◌ {A = ℕ} 0 1 = cc in absurd (omega arith)

pub says-refused : (v : Verdict) (k : Refusal) (size : ℕ) → Err k ≡ publication v size → v ≡ Err k
says-refused (Ok tt) k size e = let z : ◌≡◌ {A = ℕ} 0 1 = cc in absurd (omega arith)
says-refused (Err j) k size e = let same : j ≡ k = cc in rw same

module _ {most : ℕ} {n : Note} {list content out₀ starts₀ ends₀ out starts ends : List ℕ} {a : ℕ} (call : Replacing most n list content out₀ starts₀ ends₀ (Ok a) out starts ends) where
  pub published-says : call.says ≡ Accepted
  published-says = (says-published call.says a (size_in n list content) call.answer).0

  pub published-size : a ≡ length (replaced (places_of list) content n).text
  published-size = (says-published call.says a (size_in n list content) call.answer).1

  pub taken : Taken n list
  taken = accepted-taken most n list content (least (length out₀) (length starts₀) (length ends₀)) (sym call.says_is ∙ published-says)

  pub published-short : a ≤ most
  published-short =
      omega (arith, published-size, accepted-room most n list content (least (length out₀) (length starts₀) (length ends₀)) (sym call.says_is ∙ published-says))

-- the list, then the room
module _ (text list : List ℕ) (size : ℕ) {t : Bool} (is : t ≡ covers text list) where
  pub not-covering : (room : ℕ) → not t ≡ true → Err BadMatches ≡ publication (verdict (result_faults text list size room)) size
  unfolding verdict
  not-covering room e = rw (sym is ∙ not-true t e)

  module _ (most room : ℕ) {m x : ℕ} (e : not t ≡ false) (measured : m ≡ min (most + 1) size) (least : x ≡ min most room) where
    pub too_large : x < m → Err NoRoom ≡ publication (verdict (result_faults text list size (min most room))) size
    unfolding verdict
    too_large over = rw (sym is ∙ not-false t e, lt-leb size (min most room) (omega arith))

    pub small-enough : m ≤ x → Ok m ≡ publication (verdict (result_faults text list size (min most room))) size
    unfolding verdict
    small-enough fits =
        let whole : m ≡ size = omega arith in
        rw (sym is ∙ not-false t e, le-leb size (min most room) (omega arith), whole)

-- the size of the places is that of the result, where they cover the text
sizes-verdict : (n : Note) (list content : List ℕ) (room : ℕ) → verdict (result_faults n.normalized list (places_size (length content) (places_of list)) room) ≡ verdict (result_faults n.normalized list (size_in n list content) room)
unfolding verdict replaced
sizes-verdict n list content room =
    true-or-false (covers n.normalized list)
    (λ cov. rw (length-laid n.normalized n.normalized (λ end. content) (length content) 0 (places_of list) refl (λ e. refl) (covers-places n.normalized list cov)))
    (λ no_cover. rw no_cover)

-- what is said of note and content, then of list and room
module _ (most : ℕ) (n : Note) (list content : List ℕ) (room : ℕ) {u v w : Verdict} (noted : u ≡ verdict (note_faults most n)) (string : v ≡ verdict (string_faults content)) (first : w ≡ earlier u v) where
  lent-verdict : w ≡ verdict (lent_faults most n content)
  lent-verdict = earlier-of (note_faults most n) (string_faults content) noted string first

  pub refused-lent : {k : Refusal} (size : ℕ) → w ≡ Err k → Err k ≡ publication (verdict (replace_faults most n list content room)) size
  refused-lent size e = ap (λ (v : Verdict). publication v size) (refused-then (up_to Misaligned) (lent_faults most n content) (result_faults n.normalized list (size_in n list content) (min most room)) refl refl lent-verdict e)

  pub accepted-lent : {r : Result ℕ Refusal} (size : ℕ) → w ≡ Accepted → r ≡ publication (verdict (result_faults n.normalized list (places_size (length content) (places_of list)) (min most room))) size → r ≡ publication (verdict (replace_faults most n list content room)) size
  accepted-lent size e l =
      l ∙ ap (λ (v : Verdict). publication v size)
      (accepted-then (up_to Misaligned) (lent_faults most n content) (result_faults n.normalized list (size_in n list content) (min most room)) refl refl lent-verdict e
      (sizes-verdict n list content (min most room)))

-- the size that an answer tells
pub measured-size : (most : ℕ) (n : Note) (list content : List ℕ) (room : ℕ) {size a : ℕ} {r : Result ℕ Refusal} → r ≡ publication (verdict (replace_faults most n list content room)) size → r ≡ Ok a → a ≤ size
measured-size most n list content room answers e =
    omega (arith, (says-published (verdict (replace_faults most n list content room)) _ _ (sym e ∙ answers)).1)

-- the call
module _ (most : ℕ) (n : Note) (list content out₀ starts₀ ends₀ : List ℕ) {r : Result ℕ Refusal} {room : ℕ}
    (rooms : room ≡ least (length out₀) (length starts₀) (length ends₀))
    (answers : r ≡ publication (verdict (replace_faults most n list content room)) (places_size (length content) (places_of list))) where
  said : r ≡ publication (verdict (replace_faults most n list content (least (length out₀) (length starts₀) (length ends₀)))) (places_size (length content) (places_of list))
  said = answers ∙ ap (λ (x : ℕ). publication (verdict (replace_faults most n list content x)) (places_size (length content) (places_of list))) rooms

  says-accepted : {a : ℕ} → r ≡ Ok a → verdict (replace_faults most n list content (least (length out₀) (length starts₀) (length ends₀))) ≡ Accepted
  says-accepted e = (says-published _ _ _ (sym e ∙ said)).0

  pub refused : {k : Refusal} → r ≡ Err k → Replacing most n list content out₀ starts₀ ends₀ (Err k) out₀ starts₀ ends₀
  refused {k} e = record { says = Err k; says_is = sym (says-refused _ k _ (sym e ∙ said)); answer = refl; text_is = refl; starts_are = refl; ends_are = refl }

  pub ready : {a : ℕ} → r ≡ Ok a → Ready n.normalized n.starts n.ends list content out₀ starts₀ ends₀
  unfolding replaced
  ready e =
      let all : ℕ = least (length out₀) (length starts₀) (length ends₀) in
      let t : Taken n list = accepted-taken most n list content all (says-accepted e) in
      let size : length (laid (λ end. content) (places_of list) n.normalized) ≡ places_size (length content) (places_of list) =
      length-laid n.normalized n.normalized (λ end. content) (length content) 0 (places_of list) refl (λ e. refl) t.covered in
      let fits = accepted-room most n list content all (says-accepted e) in
      record {
        one_start = t.one_start;
        one_end = t.one_end;
        covered = t.covered;
        text_room = omega (arith, size, fits);
        starts_room = omega (arith, size, fits);
        ends_room = omega (arith, size, fits);
      }

  pub accepted : {a : ℕ} → r ≡ Ok a → {size : ℕ} {out starts ends : List ℕ} → AllLaid n.normalized n.starts n.ends list content out₀ starts₀ ends₀ size out starts ends → Replacing most n list content out₀ starts₀ ends₀ (Ok size) out starts ends
  unfolding replaced
  accepted e l = record { says = Accepted; says_is = sym (says-accepted e); answer = ap Ok l.reached; text_is = l.text_is; starts_are = l.starts_are; ends_are = l.ends_are }
