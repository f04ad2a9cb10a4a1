-- Laws of `NoteRedacted`: what is said by the checks that were made, how what is written past all of them makes the call,
-- and that the call is one of `replace`.
use Prim.Native.Nat.{ℕ, ◌≤◌, min}
use mathlib.Core.Path.{◌≡◌, ◌∙◌, ap, refl, sym}
use mathlib.Core.Bool.{Bool, true, false, cond, not, ◌&&◌}
use mathlib.Core.List.{List}
use native.Mathlib.Omega.{arith}
use lib.Dec.{leb}
use lib.ListN.{length, take}
use borrow.Author.Tests.{not-true, not-false}
use Rattle.std.specs.Prelude.{Result, Ok, Err}
use Rattle.buffers.proofs.Cases.{ok-parts}
use Rattle.buffers.specs.Splice.{overlay}
use Rattle.buffers.proofs.Booleans.{and-false-l}
use Rattle.buffers.proofs.Splice.{take-overlay, overlay-long}
use Rattle.utf8.specs.Formed.{well_formed}
use Rattle.note.specs.declared.Refusal.{Refusal}
use Rattle.note.specs.declared.Refusal.TheVariants.{NoRoom, Misaligned}
use Rattle.note.specs.Refusals.{none, meets, also, least, verdict, after, unless_refused, Verdict, Accepted}
use Rattle.note.specs.Rank.{earlier}
use Rattle.note.specs.Notes.{Note, limit}
use Rattle.note.specs.Faults.{note_faults, string_faults, room_faults}
use Rattle.note.specs.Rank.{up_to}
use Rattle.note.proofs.FirstMet.{earlier-of, refused-then, accepted-then, accepted-first, accepted-second, both-accepted}
use Rattle.note.proofs.Faults.{accepted-sound, normalized_short, string-formed, room-enough}
use Rattle.note.proofs.Sound.{normalized-formed}
use Rattle.pattern.specs.Entries.{places_of}
use Rattle.pattern.specs.Places.{list_faults}
use Rattle.pattern.proofs.Places.{covers-places}
use Rattle.find.specs.Matching.{found_places}
use Rattle.find.specs.Finding.{found_bytes}
use Rattle.find.specs.Searching.{first_match}
use Rattle.find.proofs.FoundPlaces.{found-read, found-covers}
use Rattle.replace.specs.Replacing.{publication, replaced, replace_faults}
use Rattle.replace.specs.Sizes.{places_size}
use Rattle.replace.specs.Laying.{Ready, AllLaid}
use Rattle.replace.proofs.Sizes.{length-laid}
use Rattle.replace.proofs.Faults.{ready}
use Rattle.redact_note.specs.Redacting.{match_count, blanked_note, note_input_faults, rooms_faults, note_redact_faults, NoteRedacted, BlankedCall}
use Rattle.redact_note.specs.Blanks.{blanked_size, rooms_fit, NoteBlankable, NoteBlanked}
use Rattle.redact_note.proofs.MatchCount.{found-size}

-- the inputs
pub inputs-judged : (most : ℕ) (n : Note) (literal content : List ℕ) {u v w s r : Verdict} → u ≡ verdict (note_faults most n) → v ≡ verdict (string_faults literal) → w ≡ verdict (string_faults content) → s ≡ earlier v w → r ≡ earlier u s → r ≡ verdict (note_input_faults most n literal content)
inputs-judged most n literal content nu lv cw strings all =
    earlier-of (note_faults most n) (also (string_faults literal) (string_faults content)) nu (earlier-of (string_faults literal) (string_faults content) lv cw strings) all

-- the rooms, one after the other
module _ (text literal : List ℕ) (content_len a b : ℕ) where
  pub no-list : {t : Bool} → t ≡ leb (length (found_bytes text literal)) a → not t ≡ true → false ≡ rooms_fit limit text literal content_len a b
  unfolding rooms_fit
  no-list {t} is short = sym (and-false-l _ _ (sym is ∙ not-true t short))

  pub as-result : {t u : Bool} {count room : ℕ} → t ≡ leb (length (found_bytes text literal)) a → not t ≡ false
      → count ≡ match_count (found_places text literal) → room ≡ min limit b
      → u ≡ leb (blanked_size (length text) count (length literal) content_len) room
      → u ≡ rooms_fit limit text literal content_len a b
  unfolding rooms_fit
  as-result {t} is enough counted room e = rw (sym is ∙ not-false t enough, ← found-size text literal content_len counted, ← room) e

-- what accepted inputs are
pub record Formed (n : Note) (literal content : List ℕ) : Type 0 where
  pub short : length n.normalized ≤ limit
  pub text_formed : well_formed n.normalized ≡ true
  pub literal_formed : well_formed literal ≡ true
  pub content_formed : well_formed content ≡ true
  pub noted : verdict (note_faults limit n) ≡ Accepted

pub inputs-formed : (n : Note) (literal content : List ℕ) {v : Verdict} → v ≡ verdict (note_input_faults limit n literal content) → v ≡ Accepted → Formed n literal content
inputs-formed n literal content says is =
    let e : verdict (note_input_faults limit n literal content) ≡ Accepted = sym says ∙ is in
    let first = accepted-first (note_faults limit n) (also (string_faults literal) (string_faults content)) e in
    let strings = accepted-second (note_faults limit n) (also (string_faults literal) (string_faults content)) e in
    let sound = accepted-sound limit n first in
    record {
      short = normalized_short limit n sound.1;
      text_formed = normalized-formed n sound.0;
      literal_formed = string-formed literal (accepted-first (string_faults literal) (string_faults content) strings);
      content_formed = string-formed content (accepted-second (string_faults literal) (string_faults content) strings);
      noted = first;
    }

-- past the inputs: the list covers, so that its size is that of the result
module _ (n : Note) (literal content : List ℕ) (f : Formed n literal content) where
  list-covers : verdict (list_faults n.normalized (found_bytes n.normalized literal)) ≡ Accepted
  unfolding verdict
  list-covers = rw (found-covers n.normalized literal f.text_formed f.literal_formed f.short)

  content-accepted : verdict (string_faults content) ≡ Accepted
  unfolding verdict
  content-accepted = rw f.content_formed

  blanked-length : length (blanked_note n literal content).text ≡ places_size (length content) (found_places n.normalized literal)
  unfolding replaced
  blanked-length =
      length-laid n.normalized n.normalized (λ end. content) (length content) 0 (places_of (found_bytes n.normalized literal)) refl (λ e. refl)
      (covers-places n.normalized (found_bytes n.normalized literal) (found-covers n.normalized literal f.text_formed f.literal_formed f.short))
      ∙ ap (places_size (length content)) (found-read n.normalized literal f.short)

  -- `replace` accepts the note with the list, where there is room
  replace-accepts : (room : ℕ) → verdict (room_faults (length (blanked_note n literal content).text) (min limit room)) ≡ Accepted → verdict (replace_faults limit n (found_bytes n.normalized literal) content room) ≡ Accepted
  replace-accepts room fits =
      both-accepted (also (note_faults limit n) (string_faults content)) (also (list_faults n.normalized (found_bytes n.normalized literal)) (room_faults (length (blanked_note n literal content).text) (min limit room)))
      (both-accepted (note_faults limit n) (string_faults content) f.noted content-accepted)
      (both-accepted (list_faults n.normalized (found_bytes n.normalized literal)) (room_faults (length (blanked_note n literal content).text) (min limit room)) list-covers fits)

rooms-verdict : (x y : Bool) → verdict (also (meets NoRoom (not x) none) (meets NoRoom (not y) none)) ≡ cond (x && y) Accepted (Err NoRoom)
unfolding verdict
rooms-verdict true true = refl
rooms-verdict true false = refl
rooms-verdict false y = refl

module _ (n : Note) (literal content : List ℕ) (a b : ℕ) {v : Verdict} (e : v ≡ verdict (note_input_faults limit n literal content)) where
  pub inputs-refused : {k : Refusal} → v ≡ Err k → Err k ≡ verdict (note_redact_faults limit n literal content a b)
  inputs-refused is = refused-then (up_to Misaligned) (note_input_faults limit n literal content) (rooms_faults limit n literal content a b) refl refl e is

  module _ (is : v ≡ Accepted) {t : Bool} (fits : t ≡ rooms_fit limit n.normalized literal (length content) a b) where
    rooms-said : verdict (rooms_faults limit n literal content a b) ≡ cond t Accepted (Err NoRoom)
    unfolding rooms_fit
    rooms-said =
        rooms-verdict (leb (length (found_bytes n.normalized literal)) a) (leb (length (blanked_note n literal content).text) (min limit b))
        ∙ rw (blanked-length n literal content (inputs-formed n literal content e is), ← fits)

    then-rooms : {w : Verdict} → w ≡ verdict (rooms_faults limit n literal content a b) → w ≡ verdict (note_redact_faults limit n literal content a b)
    then-rooms w = accepted-then (up_to Misaligned) (note_input_faults limit n literal content) (rooms_faults limit n literal content a b) refl refl e is w

    pub rooms-refused : not t ≡ true → Err NoRoom ≡ verdict (note_redact_faults limit n literal content a b)
    rooms-refused short = then-rooms (sym (rooms-said ∙ rw (not-true t short)))

    pub all-accepted : not t ≡ false → Accepted ≡ verdict (note_redact_faults limit n literal content a b)
    all-accepted enough = then-rooms (sym (rooms-said ∙ rw (not-false t enough)))

-- what an accepted call says
module _ (n : Note) (literal content : List ℕ) (a b : ℕ) (ok : Accepted ≡ verdict (note_redact_faults limit n literal content a b)) where
  all-formed : Formed n literal content
  all-formed = inputs-formed n literal content {v = Accepted} (sym (accepted-first (note_input_faults limit n literal content) (rooms_faults limit n literal content a b) (sym ok))) refl

  rooms-accepted : verdict (rooms_faults limit n literal content a b) ≡ Accepted
  rooms-accepted = accepted-second (note_input_faults limit n literal content) (rooms_faults limit n literal content a b) (sym ok)

  list-fits : length (found_bytes n.normalized literal) ≤ a
  list-fits = room-enough (length (found_bytes n.normalized literal)) a (accepted-first (room_faults (length (found_bytes n.normalized literal)) a) (room_faults (length (blanked_note n literal content).text) (min limit b)) rooms-accepted)

  pub replaces : verdict (replace_faults limit n (found_bytes n.normalized literal) content b) ≡ Accepted
  replaces = replace-accepts n literal content all-formed b (accepted-second (room_faults (length (found_bytes n.normalized literal)) a) (room_faults (length (blanked_note n literal content).text) (min limit b)) rooms-accepted)

-- a written list is the front of its buffer
module _ (text literal list₀ : List ℕ) {list : List ℕ} {r : ℕ} (w : (r ≡ length (found_bytes text literal)) × (list ≡ overlay (found_bytes text literal) list₀)) where
  pub list-long : r ≤ length list
  list-long = rw (w.1, w.0) (overlay-long (found_bytes text literal) list₀)

  list-front : take r list ≡ found_bytes text literal
  list-front = rw (w.1, w.0) (take-overlay (found_bytes text literal) list₀)

  pub list-ready : {starts ends content out starts₀ ends₀ : List ℕ} → Ready text starts ends (found_bytes text literal) content out starts₀ ends₀ → Ready text starts ends (take r list) content out starts₀ ends₀
  list-ready h = rw list-front h

  pub list-blanked : {starts ends content out₀ starts₀ ends₀ out starts₁ ends₁ : List ℕ} {size : ℕ} → AllLaid text starts ends (take r list) content out₀ starts₀ ends₀ size out starts₁ ends₁ → NoteBlanked text starts ends literal content list₀ out₀ starts₀ ends₀ size list out starts₁ ends₁
  list-blanked h = record { list_is = w.1; laid = rw list-front at h }

-- the call
module _ (n : Note) (literal content list₀ out₀ starts₀ ends₀ : List ℕ) {room : ℕ} (rooms : room ≡ least (length out₀) (length starts₀) (length ends₀)) where
  all-rooms : {v : Verdict} → v ≡ verdict (note_redact_faults limit n literal content (length list₀) room) → v ≡ verdict (note_redact_faults limit n literal content (length list₀) (least (length out₀) (length starts₀) (length ends₀)))
  all-rooms e = e ∙ ap (λ (r : ℕ). verdict (note_redact_faults limit n literal content (length list₀) r)) rooms

  -- a refusal leaves every buffer
  pub refused_all : {k : Refusal} → Err k ≡ verdict (note_redact_faults limit n literal content (length list₀) room) → NoteRedacted limit n literal content list₀ out₀ starts₀ ends₀ (Err k) list₀ out₀ starts₀ ends₀
  refused_all {k} is =
      record { says = Err k; says_is = all-rooms is; answer = refl; list_is = refl; text_is = refl; starts_are = refl; ends_are = refl }

  module _ (ok : Accepted ≡ verdict (note_redact_faults limit n literal content (length list₀) room)) where
    pub all-blankable : {first : ℕ} → first ≡ first_match n.normalized literal → NoteBlankable n.normalized n.starts n.ends literal content first list₀ out₀ starts₀ ends₀
    all-blankable is =
        record {
          searchable = record { short = (all-formed n literal content (length list₀) room ok).short; first_is = is };
          list_room = list-fits n literal content (length list₀) room ok;
          ready = ready limit n (found_bytes n.normalized literal) content out₀ starts₀ ends₀ rooms refl
              (ap (λ (v : Verdict). publication v (places_size (length content) (places_of (found_bytes n.normalized literal)))) (replaces n literal content (length list₀) room ok));
        }

    pub all-blanked : {size count : ℕ} {list out starts ends : List ℕ} → count ≡ match_count (found_places n.normalized literal)
        → NoteBlanked n.normalized n.starts n.ends literal content list₀ out₀ starts₀ ends₀ size list out starts ends
        → NoteRedacted limit n literal content list₀ out₀ starts₀ ends₀ (Ok (size, count)) list out starts ends
    unfolding replaced
    all-blanked {size} {count} counted h =
        let sized : size ≡ length (blanked_note n literal content).text = h.laid.reached in
        record {
          says = Accepted;
          says_is = all-rooms ok;
          answer = rw (sized, counted);
          list_is = h.list_is;
          text_is = h.laid.text_is;
          starts_are = h.laid.starts_are;
          ends_are = h.laid.ends_are;
        }

-- a call that has published
pub says-published : (v : Verdict) (size count m k : ℕ) → ◌≡◌ {A = Result (ℕ × ℕ) Refusal} (Ok (size, count)) (unless_refused Err v (Ok (m, k))) → (v ≡ Accepted) × (size ≡ m) × (count ≡ k)
says-published (Ok tt) size count m k e = (refl, (ok-parts e).0, (ok-parts e).1)
says-published (Err j) size count m k e = let z : ◌≡◌ {A = ℕ} 0 1 = cc in absurd (omega arith)

pub blanked-call : BlankedCall
blanked-call n literal content list₀ out₀ starts₀ ends₀ size count list out starts ends call =
    let said = says-published call.says size count _ _ call.answer in
    let ok : call.says ≡ Accepted = said.0 in
    record {
      says = Accepted;
      says_is = sym (replaces n literal content (length list₀) _ (sym ok ∙ call.says_is));
      answer = ap Ok said.1;
      text_is = call.text_is ∙ ap (λ (v : Verdict). after v (blanked_note n literal content).text out₀) ok;
      starts_are = call.starts_are ∙ ap (λ (v : Verdict). after v (blanked_note n literal content).starts starts₀) ok;
      ends_are = call.ends_are ∙ ap (λ (v : Verdict). after v (blanked_note n literal content).ends ends₀) ok;
    }
