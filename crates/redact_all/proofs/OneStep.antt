-- Laws of one step of a note that was judged: when it fits, what it leaves, and that this can be judged no worse.
use Prim.Native.Nat.{ℕ, ◌+◌, ◌*◌, ◌≤◌, min}
use mathlib.Core.Path.{◌≡◌, ◌∙◌, ap, sym}
use mathlib.Core.Bool.{true, false}
use mathlib.Core.List.{List}
use native.Mathlib.Nat.{div-le_self}
use native.Mathlib.Omega.{arith}
use lib.Dec.{leb}
use lib.ListN.{length, take}
use borrow.Author.Tests.{lt-leb}
use Rattle.std.specs.Prelude.{Result, Ok, Err}
use Rattle.buffers.proofs.Cases.{le-or-lt}
use Rattle.utf8.specs.Formed.{well_formed}
use Rattle.note.specs.declared.Refusal.{Refusal}
use Rattle.note.specs.Refusals.{also, least, verdict, Accepted}
use Rattle.note.specs.Notes.{Note, limit}
use Rattle.note.specs.Faults.{note_faults, string_faults, room_faults}
use Rattle.note.proofs.FirstMet.{both-accepted}
use Rattle.note.proofs.Faults.{accepted-sound, sound-accepted, normalized_short, enough-room}
use Rattle.pattern.specs.Encoding.{room_for}
use Rattle.pattern.proofs.Encoding.{room-enough}
use Rattle.find.specs.Matching.{found_places}
use Rattle.find.specs.Finding.{found_bytes}
use Rattle.find.proofs.FoundPlaces.{found-cases, count-longest}
use Rattle.replace.specs.Replacing.{replace_faults}
use Rattle.replace.proofs.Replaced.{replaced-sound}
use Rattle.redact_note.specs.Redacting.{note_redact_faults, note_input_faults, rooms_faults, match_count}
use Rattle.redact_note.specs.Chain.{Pair, left_by, step_of}
use Rattle.redact_note.proofs.Redacting.{replaces}
use Rattle.redact_note.proofs.Moved.{parts, counted, says-refused}
use Rattle.redact_in_place.specs.InPlace.{held, InPlace}

string-accepted : (s : List ℕ) → well_formed s ≡ true → verdict (string_faults s) ≡ Accepted
unfolding verdict
string-accepted s f = rw f

refusal-clash : {k : Refusal} {P : Type 0} → Accepted ≡ Err k → P
refusal-clash e = let z : ◌≡◌ {A = ℕ} 0 1 = cc in absurd (omega arith)

-- a text within the limit has no more places than `room_for` is asked for
list-short : (text literal : List ℕ) → length text ≤ limit → length (found_places text literal) ≤ 2 * limit + 1
list-short text literal short =
    found-cases text literal
    (λ one. omega (arith, ap length one))
    (λ some all. omega (arith, count-longest text literal some, div-le_self (length text) (length literal)))

list-fits : (text literal : List ℕ) → length text ≤ limit → length (found_bytes text literal) ≤ room_for (2 * limit + 1)
unfolding found_bytes
list-fits text literal short = room-enough (found_places text literal) (2 * limit + 1) (list-short text literal short)

-- one step
module _ (n : Note) (p : Pair) (noted : verdict (note_faults limit n) ≡ Accepted) (l : well_formed p.literal ≡ true) (c : well_formed p.content ≡ true) where
  abbrev next : Note
  next = left_by (step_of p n) n

  short : length n.normalized ≤ limit
  short = normalized_short limit n (accepted-sound limit n noted).1

  step-accepted : (a b : ℕ) → length (found_bytes n.normalized p.literal) ≤ a → length next.normalized ≤ min limit b → Accepted ≡ verdict (note_redact_faults limit n p.literal p.content a b)
  step-accepted a b list room =
      sym (both-accepted (note_input_faults limit n p.literal p.content) (rooms_faults limit n p.literal p.content a b)
      (both-accepted (note_faults limit n) (also (string_faults p.literal) (string_faults p.content)) noted
      (both-accepted (string_faults p.literal) (string_faults p.content) (string-accepted p.literal l) (string-accepted p.content c)))
      (both-accepted (room_faults (length (found_bytes n.normalized p.literal)) a) (room_faults (length next.normalized) (min limit b)) (sym (enough-room list)) (sym (enough-room room))))

  module _ (fit : length next.normalized ≤ limit) where
    pub step-replaces : verdict (replace_faults limit n (found_bytes n.normalized p.literal) p.content limit) ≡ Accepted
    step-replaces = replaces n p.literal p.content (length (found_bytes n.normalized p.literal)) limit (step-accepted (length (found_bytes n.normalized p.literal)) limit (omega arith) (omega arith))

    pub next-accepted : verdict (note_faults limit next) ≡ Accepted
    next-accepted =
        let left = replaced-sound limit n (found_bytes n.normalized p.literal) p.content limit step-replaces in
        sound-accepted limit next left.0 left.1

-- a step in place
module _ {original : List ℕ} {shift size : ℕ} {literal content text₀ starts₀ ends₀ : List ℕ} {r : Result (ℕ × ℕ) Refusal} {text starts ends : List ℕ} (place : InPlace original shift size literal content text₀ starts₀ ends₀ r text starts ends) where
  abbrev before : Note
  before = held original shift size text₀ starts₀ ends₀

  abbrev pair : Pair
  pair = record { literal = literal; content = content }

  module _ {m count : ℕ} (is : r ≡ Ok (m, count)) where
    pub place-left : held original shift m text starts ends ≡ left_by (step_of pair before) before
    place-left =
        let e = parts place.call is in
        λ i. record { original = original; normalized = e.same_text i; starts = e.same_starts i; ends = e.same_ends i; original_shift = shift }

    pub place-counted : count ≡ match_count (found_places (take size text₀) literal)
    place-counted = counted place.call is

  pub place_short : {k : Refusal} → r ≡ Err k → verdict (note_faults limit before) ≡ Accepted → well_formed literal ≡ true → well_formed content ≡ true
      → length text₀ ≡ limit → length starts₀ ≡ limit → length ends₀ ≡ limit → leb (length (left_by (step_of pair before) before).normalized) limit ≡ false
  place_short {k} is noted l c t s e =
      le-or-lt (length (left_by (step_of pair before) before).normalized) limit
      (λ fit.
      let told : place.call.says ≡ Err k = says-refused place.call.says _ _ (sym is ∙ place.call.answer) in
      let list = list-fits (take size text₀) literal (short before pair noted l c) in
      let ok : place.call.says ≡ Accepted = place.call.says_is ∙ sym (step-accepted before pair noted l c (length place.list₀) (least (length text₀) (length starts₀) (length ends₀)) (omega (arith, list, place.list_room)) (omega (arith, fit, t, s, e))) in
      refusal-clash (sym ok ∙ told))
      (λ big. lt-leb _ _ big)
