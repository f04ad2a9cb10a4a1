-- RULES 10: what can still be told of the bytes under the blanks. Two notes, one list and one content, both accepted:
-- the published notes are equal exactly when the notes agree outside the matched places and on what the content
-- carries.
use Rattle.std.specs.Prelude.{ℕ, ◌-◌, ◌≤◌, ◌<◌, ◌≡◌, true, length, get_or, take, Ok}
use mathlib.Core.List.{List, Memᴰ}
use Rattle.note.specs.Notes.{Note, start_at, end_at}
use Rattle.pattern.specs.declared.Place.{Place}
use Rattle.pattern.specs.Entries.{places_of}
use Rattle.replace.specs.Replacing.{PublishedNote, Replacing}

-- p is outside: no matched place has it between its start and its end
abbrev pub Outside : List Place → ℕ → Type 0
Outside ps p = (q : Place) → Memᴰ q ps → q.matched ≡ true → q.start.0 ≤ p → p < q.end.0 → ⊥

-- two published notes have the same bytes and the same alignments, and so as many of them
pub record Equal (a b : PublishedNote) : Type 0 where
  pub same_text : a.text ≡ b.text
  pub same_starts : a.starts ≡ b.starts
  pub same_ends : a.ends ≡ b.ends

abbrev pub SameByte : Note → Note → ℕ → Type 0
SameByte n m p = get_or n.normalized p 0 ≡ get_or m.normalized p 0

abbrev pub SameAlignment : Note → Note → ℕ → Type 0
SameAlignment n m p = (start_at n p ≡ start_at m p) × (end_at n p ≡ end_at m p)

pub record Agree (n m : Note) (ps : List Place) (content : List ℕ) : Type 0 where
  -- at each position outside, the two notes have the same byte with the same alignment
  pub outside : (p : ℕ) → p < length n.normalized → Outside ps p → SameByte n m p × SameAlignment n m p
  -- where the content has a byte: before the end of each matched place, unless that end is 0, the same alignment
  pub before-end :
      0 < length content → (q : Place) → Memᴰ q ps → q.matched ≡ true → 0 < q.end.0
      → SameAlignment n m (q.end.0 - 1)

-- what a call has published: as many of the first elements of each lent buffer as it answered
abbrev pub published : ℕ → List ℕ → List ℕ → List ℕ → PublishedNote
published size out starts ends = record { text = take size out; starts = take size starts; ends = take size ends }

-- THE CLAIM, clause by clause.
--  two notes                  n, m: any two, whatever their transcripts and shifts; nothing is asked of what stands in
--                             the matched places
--  one list and one filler    list, content: the same in both calls
--  replacing accepts both     two values of `Replacing`, the contract of the call, that answer `Ok`; each call
--                             has lent buffers of its own, before (₀) and after
--  the published notes        `published`: the lent buffers after the call, cut by the number that it answered
--  equal                      `Equal`: in length, and in every byte and alignment
--  exactly when               the two halves of the pair
--  the notes agree            `Agree`
abbrev pub Blanking : Type 0
Blanking =
    (most : ℕ) (n m : Note) (list content : List ℕ) (a b : ℕ)
    (outₙ₀ startsₙ₀ endsₙ₀ outₙ startsₙ endsₙ outₘ₀ startsₘ₀ endsₘ₀ outₘ startsₘ endsₘ : List ℕ)
    → Replacing most n list content outₙ₀ startsₙ₀ endsₙ₀ (Ok a) outₙ startsₙ endsₙ
    → Replacing most m list content outₘ₀ startsₘ₀ endsₘ₀ (Ok b) outₘ startsₘ endsₘ
    → (Equal (published a outₙ startsₙ endsₙ) (published b outₘ startsₘ endsₘ) → Agree n m (places_of list) content)
    × (Agree n m (places_of list) content → Equal (published a outₙ startsₙ endsₙ) (published b outₘ startsₘ endsₘ))
