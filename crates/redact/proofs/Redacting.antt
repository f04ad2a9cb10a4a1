-- Laws of `Redacted`: what is said by the checks that were made, and how what is written past all of them makes the call.
use Prim.Native.Nat.{ℕ, ◌≤◌, min}
use mathlib.Core.Path.{◌≡◌, ◌∙◌, ap, refl, sym}
use mathlib.Core.Bool.{Bool, true, false, cond, not}
use mathlib.Core.List.{List}
use native.Mathlib.Omega.{arith}
use lib.Dec.{leb}
use lib.ListN.{length}
use borrow.Author.Tests.{not-true, not-false}
use Rattle.std.specs.Prelude.{Ok, Err}
use Rattle.utf8.specs.Formed.{well_formed}
use Rattle.note.specs.declared.Refusal.{Refusal}
use Rattle.note.specs.declared.Refusal.TheVariants.{NoRoom, IllFormed}
use Rattle.note.specs.Refusals.{none, meets, also, least, verdict, after, Verdict, Accepted}
use Rattle.note.specs.Rank.{earlier}
use Rattle.note.specs.Notes.{limit}
use Rattle.note.specs.Faults.{note_faults, text_faults, string_faults, room_faults}
use Rattle.note.specs.Starting.{starting}
use Rattle.note.specs.Rank.{up_to}
use Rattle.note.proofs.FirstMet.{earlier-of, refused-then, accepted-then, accepted-first, accepted-second, both-accepted}
use Rattle.note.proofs.Faults.{text_short, text_formed, string-formed, room-enough}
use Rattle.note.proofs.Starting.{starting-accepted}
use Rattle.pattern.specs.declared.Place.{Place}
use Rattle.pattern.specs.Entries.{places_of}
use Rattle.pattern.specs.Places.{list_faults}
use Rattle.pattern.proofs.Places.{covers-places}
use Rattle.find.specs.Matching.{found_places}
use Rattle.find.specs.Finding.{found_bytes}
use Rattle.find.specs.Searching.{first_match}
use Rattle.find.proofs.FoundPlaces.{found-read, found-covers}
use Rattle.replace.specs.Replacing.{laid, replaced, replace_faults}
use Rattle.replace.specs.Sizes.{places_size}
use Rattle.replace.proofs.Sizes.{length-laid}
use Rattle.redact_note.specs.Redacting.{match_count}
use Rattle.redact_note.proofs.Redacting.{says-published}
use Rattle.redact.specs.Redacting.{blanked, input_faults, redact_faults, Redacted}
use Rattle.redact.specs.Publishing.{PublishedCall}
use Rattle.redact.specs.Blanks.{Fitting, FoundLaid, Resized}

-- the list that is found covers the text, so that the size of its places is that of the result
module _ (text literal : List ℕ) (t : well_formed text ≡ true) (l : well_formed literal ≡ true) (short : length text ≤ limit) where
  blanked-length : (content : List ℕ) → length (blanked text literal content).text ≡ places_size (length content) (found_places text literal)
  unfolding replaced starting
  blanked-length content =
      length-laid text text (λ end. content) (length content) 0 (places_of (found_bytes text literal)) refl (λ e. refl) (covers-places text (found_bytes text literal) (found-covers text literal t l short))
      ∙ ap (places_size (length content)) (found-read text literal short)

-- the inputs
pub inputs-judged : (most : ℕ) (text literal content : List ℕ) {u v w s r : Verdict} → u ≡ verdict (text_faults most text) → v ≡ verdict (string_faults literal) → w ≡ verdict (string_faults content) → s ≡ earlier v w → r ≡ earlier u s → r ≡ verdict (input_faults most text literal content)
inputs-judged most text literal content tu lv cw strings all =
    earlier-of (text_faults most text) (also (string_faults literal) (string_faults content)) tu (earlier-of (string_faults literal) (string_faults content) lv cw strings) all

pub record Formed (text literal content : List ℕ) : Type 0 where
  pub short : length text ≤ limit
  pub text_formed : well_formed text ≡ true
  pub literal_formed : well_formed literal ≡ true
  pub content_formed : well_formed content ≡ true

pub inputs-formed : (text literal content : List ℕ) → verdict (input_faults limit text literal content) ≡ Accepted → Formed text literal content
inputs-formed text literal content e =
    let first = accepted-first (text_faults limit text) (also (string_faults literal) (string_faults content)) e in
    let strings = accepted-second (text_faults limit text) (also (string_faults literal) (string_faults content)) e in
    record {
      short = text_short limit text first;
      text_formed = text_formed limit text first;
      literal_formed = string-formed literal (accepted-first (string_faults literal) (string_faults content) strings);
      content_formed = string-formed content (accepted-second (string_faults literal) (string_faults content) strings);
    }

room-verdict : (x : Bool) → verdict (meets NoRoom (not x) none) ≡ cond x Accepted (Err NoRoom)
unfolding verdict
room-verdict true = refl
room-verdict false = refl

abbrev result_faults : ℕ → List ℕ → List ℕ → List ℕ → ℕ → Refusal → Bool
result_faults most text literal content room = room_faults (length (blanked text literal content).text) (min most room)

-- the inputs, then the room
module _ (text literal content : List ℕ) (room : ℕ) {v : Verdict} (e : v ≡ verdict (input_faults limit text literal content)) where
  pub inputs-refused : {k : Refusal} → v ≡ Err k → Err k ≡ verdict (redact_faults limit text literal content room)
  inputs-refused is = refused-then (up_to IllFormed) (input_faults limit text literal content) (result_faults limit text literal content room) refl refl e is

  module _ (is : v ≡ Accepted) {within : ℕ} {t : Bool} (least-is : within ≡ min limit room) (fits : t ≡ leb (places_size (length content) (found_places text literal)) within) where
    room-said : verdict (result_faults limit text literal content room) ≡ cond t Accepted (Err NoRoom)
    room-said =
        let g : Formed text literal content = inputs-formed text literal content (sym e ∙ is) in
        let size = blanked-length text literal g.text_formed g.literal_formed g.short content in
        room-verdict (leb (length (blanked text literal content).text) (min limit room)) ∙ rw (size, ← least-is, ← fits)

    then-room : {w : Verdict} → w ≡ verdict (result_faults limit text literal content room) → w ≡ verdict (redact_faults limit text literal content room)
    then-room w = accepted-then (up_to IllFormed) (input_faults limit text literal content) (result_faults limit text literal content room) refl refl e is w

    pub room-refused : not t ≡ true → Err NoRoom ≡ verdict (redact_faults limit text literal content room)
    room-refused short = then-room (sym (room-said ∙ rw (not-true t short)))

    pub all-accepted : not t ≡ false → verdict (redact_faults limit text literal content room) ≡ Accepted
    all-accepted enough = sym (then-room (sym (room-said ∙ rw (not-false t enough))))

-- what an accepted call says of its inputs and its room
module _ (text literal content : List ℕ) (room : ℕ) (ok : verdict (redact_faults limit text literal content room) ≡ Accepted) where
  result-accepted : verdict (result_faults limit text literal content room) ≡ Accepted
  result-accepted = accepted-second (input_faults limit text literal content) (result_faults limit text literal content room) ok

  formed : Formed text literal content
  formed = inputs-formed text literal content (accepted-first (input_faults limit text literal content) (result_faults limit text literal content room) ok)

  result-room : length (blanked text literal content).text ≤ min limit room
  result-room = room-enough (length (blanked text literal content).text) (min limit room) result-accepted

  list-accepted : verdict (list_faults (starting text).normalized (found_bytes text literal)) ≡ Accepted
  unfolding verdict starting
  list-accepted = rw (found-covers text literal formed.text_formed formed.literal_formed formed.short)

  content-accepted : verdict (string_faults content) ≡ Accepted
  unfolding verdict
  content-accepted = rw formed.content_formed

  -- `replace` accepts the starting note with the list
  replace-accepts : verdict (replace_faults limit (starting text) (found_bytes text literal) content room) ≡ Accepted
  replace-accepts =
      both-accepted (also (note_faults limit (starting text)) (string_faults content)) (also (list_faults (starting text).normalized (found_bytes text literal)) (result_faults limit text literal content room))
      (both-accepted (note_faults limit (starting text)) (string_faults content) (starting-accepted limit text formed.text_formed formed.short) content-accepted)
      (both-accepted (list_faults (starting text).normalized (found_bytes text literal)) (result_faults limit text literal content room) list-accepted result-accepted)

module _ (text literal content out₀ starts₀ ends₀ : List ℕ) {room : ℕ} (rooms : room ≡ least (length out₀) (length starts₀) (length ends₀)) where
  -- a refusal leaves every buffer
  pub refused_all : {k : Refusal} → Err k ≡ verdict (redact_faults limit text literal content room) → Redacted limit text literal content out₀ starts₀ ends₀ (Err k) out₀ starts₀ ends₀
  refused_all {k} is =
      record { says = Err k; says_is = is ∙ rw rooms; answer = refl; text_is = refl; starts_are = refl; ends_are = refl }

  -- past all checks: there is room, and what is laid is what is published
  module _ (ok : verdict (redact_faults limit text literal content room) ≡ Accepted) where
    pub all-fitting : {first : ℕ} → first ≡ first_match text literal → Fitting text literal content first out₀ starts₀ ends₀
    all-fitting is =
        let g : Formed text literal content = formed text literal content room ok in
        let size = blanked-length text literal g.text_formed g.literal_formed g.short content in
        let fits = result-room text literal content room ok in
        record {
          formed = g.text_formed;
          literal_formed = g.literal_formed;
          short = g.short;
          first_is = is;
          within = omega (arith, size, fits);
          text_room = omega (arith, size, fits, rooms);
          starts_room = omega (arith, size, fits, rooms);
          ends_room = omega (arith, size, fits, rooms);
        }

    -- how long it is tells how many matches gave way
    pub all-resized : {first r : ℕ} {out starts ends : List ℕ} → first ≡ first_match text literal → FoundLaid text literal content out₀ starts₀ ends₀ r out starts ends → Resized text literal first (length content) r
    unfolding replaced starting
    all-resized is l =
        let g : Formed text literal content = formed text literal content room ok in
        let read : places_of (found_bytes text literal) ≡ found_places text literal = found-read text literal g.short in
        record {
          short = g.short;
          first_is = is;
          size_is = l.reached ∙ ap (λ (ps : List Place). length (laid (λ end. content) ps text)) (sym read) ∙ blanked-length text literal g.text_formed g.literal_formed g.short content;
        }

    pub all-blanked : {r count : ℕ} {out starts ends : List ℕ} → FoundLaid text literal content out₀ starts₀ ends₀ r out starts ends → count ≡ match_count (found_places text literal) → Redacted limit text literal content out₀ starts₀ ends₀ (Ok (r, count)) out starts ends
    unfolding replaced starting
    all-blanked {r} l counted =
        let read : places_of (found_bytes text literal) ≡ found_places text literal = found-read text literal (formed text literal content room ok).short in
        let size : r ≡ length (blanked text literal content).text = l.reached ∙ rw read in
        record {
          says = Accepted;
          says_is = sym ok ∙ rw rooms;
          answer = λ i. Ok (size i, counted i);
          text_is = l.text_is ∙ rw read;
          starts_are = l.starts_are ∙ rw read;
          ends_are = l.ends_are ∙ rw read;
        }

-- a call that has published
pub published-call : PublishedCall
published-call text literal content out₀ starts₀ ends₀ m count out starts ends call =
    let said = says-published call.says m count _ _ call.answer in
    let ok : call.says ≡ Accepted = said.0 in
    record {
      says = Accepted;
      says_is = sym (replace-accepts text literal content _ (sym call.says_is ∙ ok));
      answer = ap Ok said.1;
      text_is = call.text_is ∙ ap (λ (v : Verdict). after v (blanked text literal content).text out₀) ok;
      starts_are = call.starts_are ∙ ap (λ (v : Verdict). after v (blanked text literal content).starts starts₀) ok;
      ends_are = call.ends_are ∙ ap (λ (v : Verdict). after v (blanked text literal content).ends ends₀) ok;
    }
